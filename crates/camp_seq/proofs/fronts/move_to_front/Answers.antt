use Rattle.camp_seq.proofs.Words.{◌≡◌, ◌++◌, ◌∷◌, length, set, get_or, take, drop, sym, ap, ◌∙◌, subst, take_at, drop_at, CommutesBeforeAll, Fronts}
use Rattle.camp_seq.proofs.FrontSteps.{fronts_from, precedes_from}
use Rattle.camp_seq.proofs.ListSteps.{turned_right}
use Rattle.camp_seq.proofs.fronts.move_to_front.Goals as goal
use Rattle.camp_seq.proofs.fronts.move_to_front.Goals.{After-commute_before_all}

-- the parts of the list, and the first element with the label at the front of the second part
cut : (c : After-commute_before_all) → (c.split_at_mut-before.result.0.now ≡ c.in-Some.ensures.before) × (c.split_at_mut-before.result.1.now ≡ c.in-Some.ensures.first ∷ c.in-Some.ensures.after)
cut c =
    let w = c.in-Some.ensures in
    let parts = c.split_at_mut-before.ensures in
    (parts.front ∙ ap (take c.in-Some.at) w.is ∙ take_at w.before (w.first ∷ w.after) c.in-Some.at w.stands, parts.back ∙ ap (drop c.in-Some.at) w.is ∙ drop_at w.before (w.first ∷ w.after) c.in-Some.at w.stands)

pub returns-then-not-commute_before_all : goal.returns-then-not-commute_before_all
returns-then-not-commute_before_all c =
    let w = c.in-Some.ensures in
    let (front, back) = cut (goal.at.returns-then-not-commute_before_all c).After-commute_before_all in
    let first = ap (λ x. get_or x 0 c.index-rest-0.result) back in
    let stopped = c.if-not-commute_before_all.ensures.exact in
    record {
      exact = (
        λ any (y, t, f, is).
            let m = precedes_from c.args.label.now w.before w.first w.after y t w.lacks w.labelled (subst (λ x. Fronts c.args.label.now x y t) w.is f) in
            stopped.0 (m.0, y) (rw (front, first) m.1),
        ap (λ x. c.commute_before_all.new.s ++ set x 0 c.commute_before_all.new.p) back ∙ (λ i. (ap (λ x. x.0) stopped.1 ∙ front) i ++ (ap (λ x. x.1) stopped.1 ∙ first) i ∷ w.after) ∙ sym w.is,
      );
    }

pub returns : goal.returns
returns c =
    let w = c.in-Some.ensures in
    let p = c.commute_before_all.new.p in
    let s = c.commute_before_all.new.s in
    let (front, back) = cut (goal.at.returns c).After-commute_before_all in
    let m : CommutesBeforeAll w.before w.first p s = rw (front, ap (λ x. get_or x 0 c.index-rest-0.result) back) at c.if-not-commute_before_all.ensures.exact in
    record { exact = (p, s ++ w.after, subst (λ x. Fronts c.args.label.now x p (s ++ w.after)) (sym w.is) (fronts_from c.args.label.now w.before w.first w.after p s w.lacks w.labelled m), turned_right _ s p w.after c.rotate_right.new.self c.in-Some.at (ap (λ x. s ++ set x 0 p) back) (c.commute_before_all.auto.s ∙ ap length front ∙ w.stands) c.rotate_right.ensures.after) }
