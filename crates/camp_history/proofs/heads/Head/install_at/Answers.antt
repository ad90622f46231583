use Rattle.camp_history.proofs.Words.{sym, subst, refl, SeesFurther, HaveCommon}
use Rattle.camp_history.proofs.Seeing.{sees_further_self}
use Rattle.camp_history.proofs.heads.Head.install_at.Goals as goal

pub continues_seat-requires-clause-from : goal.continues_seat-requires-clause-from
continues_seat-requires-clause-from g c = subst (λ marks. HaveCommon c.args.seat.now.marks marks c.common_len-from.result) (sym c.in-Some.ensures.is) c.common_len-from.ensures

pub install_and_note-requires-clause-continues_seat : goal.install_and_note-requires-clause-continues_seat
install_and_note-requires-clause-continues_seat g c = rw c.continues_seat.ensures.same (c.if-not-continues_seat.ensures.continues_seat refl)

pub returns-in_default-clause-sees_further : goal.returns-in_default-clause-sees_further
returns-in_default-clause-sees_further g c = sees_further_self c.args.self.now c.args.seat.now c.requires.of

pub returns-then-not-continues_seat-clause-sees_further : goal.returns-then-not-continues_seat-clause-sees_further
returns-then-not-continues_seat-clause-sees_further g c = subst (SeesFurther c.args.self.now c.args.seat.now) (sym c.continues_seat.ensures.same) (sees_further_self c.args.self.now c.args.seat.now c.requires.of)
