use Rattle.camp_seq.proofs.Words.{◌≡◌, get_or, refl, sym, ap, ◌∙◌, subst, arith, get_or_default, label_of, label_cmp, less_from_lt, not_less_where}
use Rattle.camp_seq.specs.Inside.FirstInOrder.{CommutedRightInOrder}
use Rattle.camp_seq.proofs.FirstOrders.{goes_in_more, goes_in_no_more, never_stuck, waits, waits_last}
use Rattle.camp_seq.proofs.fast.insertions.commute_right_in_order.Goals as goal

pub loop-at-init : goal.loop-at-init
loop-at-init c = record { bound = omega arith; long = refl; waiting = refl; ordered = λ t n. n; passing = λ t p m. (t, p, m) }

pub loop-at-preserved : goal.loop-at-preserved
loop-at-preserved c =
    let d = c.index-s-at-in-loop-at.result in
    let less = less_from_lt (label_cmp (label_of (get_or c.loop-at.s c.loop-at.at c.index-s-at.result)) (label_of c.loop-at.a)) (sym c.has_less_label.ensures.exact ∙ c.if-not-has_less_label.false) in
    let there : label_of (get_or c.loop-at.s c.loop-at.at c.index-s-at.result) ≡ label_of (get_or c.loop-at.s c.loop-at.at d) = ap label_of (get_or_default c.loop-at.s c.loop-at.at c.index-s-at.result d (omega arith)) in
    goes_in_more c.args.s.now c.loop-at.s c.args.a.now c.loop-at.a c.loop-at.at d c.commute_in_place.new.q c.commute_in_place.new.p c.requires (omega arith) (sym (λ k. label_cmp (there k) (label_of c.loop-at.a)) ∙ less) c.if-not-commute_in_place.ensures.exact c.loop-at.invariant

pub returns-then-not-has_less_label : goal.returns-then-not-has_less_label
returns-then-not-has_less_label c =
    let not = not_less_where (label_cmp (label_of (get_or c.loop-at.s c.loop-at.at c.index-s-at.result)) (label_of c.loop-at.a)) (sym c.has_less_label.ensures.exact ∙ c.if-not-has_less_label.true) in
    record {
      place = c.loop-at.invariant;
      stays = λ t p m. waits c.args.s.now c.loop-at.s c.args.a.now c.loop-at.a c.loop-at.at c.index-s-at.result c.requires (omega arith) not c.loop-at.invariant;
    }

pub returns-then-not-commute_in_place : goal.returns-then-not-commute_in_place
returns-then-not-commute_in_place c =
    let d = c.index-s-at-in-loop-at.result in
    let stuck = c.if-not-commute_in_place.ensures.exact in
    record {
      place = goes_in_no_more c.args.s.now c.loop-at.s c.args.a.now c.loop-at.a c.loop-at.at d c.commute_in_place.new.q c.commute_in_place.new.p stuck.1 c.loop-at.invariant;
      stays = λ t p m. absurd (never_stuck c.args.s.now c.loop-at.s c.args.a.now c.loop-at.a c.loop-at.at d t p (omega arith) c.loop-at.invariant m (λ x y. stuck.0 (y, x)));
    }

pub returns : goal.returns
returns c = record {
  place = subst (λ n. CommutedRightInOrder c.args.s.now c.args.a.now n c.loop-at.s c.loop-at.a) (omega arith) c.loop-at.invariant;
  stays = λ t p m. waits_last c.args.s.now c.loop-at.a _ (omega arith);
}
