use Rattle.camp_seq.proofs.Words.{sym, subst, Commute, Passes}
use Rattle.camp_seq.proofs.ListResults.{one_pass}
use Rattle.camp_seq.proofs.PassingSteps.{gone_back}
use Rattle.camp_seq.proofs.passes.pass_with_last.Goals as goal

pub returns-then-not-pass_or_stay : goal.returns-then-not-pass_or_stay
returns-then-not-pass_or_stay c =
    let stays = c.if-not-pass_or_stay.ensures.exact in
    record { exact = (λ any m. stays.0 (m.0, any.1) m.1, λ j. ((stays.1 j).0, (stays.1 j).1, c.args.last.now)) }

pub returns-then-not-commute_in_place : goal.returns-then-not-commute_in_place
returns-then-not-commute_in_place c =
    let passes = c.if-not-pass_or_stay.ensures.exact in
    let stuck = c.if-not-commute_in_place.ensures.exact in
    let s = c.pass_or_stay.new.s in
    let p = c.pass_or_stay.new.p in
    let back = gone_back c.args.p.now c.args.s.now s c.commute_in_place.new.p _ c.commute_before_all.new.s c.commute_before_all.new.p (subst (Passes c.args.p.now c.args.s.now s) (sym (λ k. (stuck.1 k).0)) passes) c.commute_before_all.ensures.exact in
    record {
      exact = (
        λ any m. stuck.0 (any.0, any.2) (subst (λ x. Commute x c.args.last.now any.2 any.0) (one_pass c.args.p.now c.args.s.now any.1 s m.0 p m.1 passes).1 m.2),
        λ j. (back.1 j, back.0 j, (stuck.1 j).1),
      );
    }

pub returns : goal.returns
returns c = record { exact = (c.pass_or_stay.new.p, c.if-not-pass_or_stay.ensures.exact, c.if-not-commute_in_place.ensures.exact) }
