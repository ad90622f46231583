use Rattle.camp_history.proofs.Words.{length, SeesFurther, IsTrail}
use Rattle.camp_history.proofs.heads.Head.see_all.Given as goal

abbrev pub invariant-loop-next : goal.invariant-loop-next
invariant-loop-next g l = record {
  sees_further : SeesFurther l.self l.fn.seat l.seat;
  leads : IsTrail l.seat.known l.seat.known.seen l.trail;
}

abbrev pub decreases-loop-next : goal.decreases-loop-next
decreases-loop-next g l = length l.trail
