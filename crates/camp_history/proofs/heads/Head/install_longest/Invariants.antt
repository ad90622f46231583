use Rattle.camp_history.proofs.Words.{SeesFurther, IsTrail}
use Rattle.camp_history.proofs.heads.Head.install_longest.Given as goal

abbrev pub invariant-loop-link : goal.invariant-loop-link
invariant-loop-link g l = record {
  sees_further : SeesFurther l.self l.fn.seat l.seat;
  leads : IsTrail l.seat.known l.seat.known.seen l.trail;
}

abbrev pub decreases-loop-link : goal.decreases-loop-link
decreases-loop-link g l = l.reach
