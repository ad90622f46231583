use Rattle.camp_seq.proofs.Words.{◌∷◌, sym, ◌∙◌, arith, label_of, label_cmp, not_less_where, Norm}
use Rattle.camp_seq.proofs.FirstOrders.{waits_last, first_stays, look_on, look_no_further, looked_at_all}
use Rattle.camp_seq.proofs.fast.looks.stays_first.Goals as goal

pub returns-in_default : goal.returns-in_default
returns-in_default c = λ yes. waits_last c.args.s.now c.args.x.now 0 (omega (arith, c.in_default.ensures.cases))

pub loop-at-init : goal.loop-at-init
loop-at-init c = first_stays c.args.x.now c.in-Some.greatest.now c.args.s.now _ c.in-Some.ensures.cases.0 c.requires

pub returns-then-not-has_less_label : goal.returns-then-not-has_less_label
returns-then-not-has_less_label c = λ yes.
    let not = not_less_where (label_cmp (label_of c.index-s-at.result) (label_of c.args.x.now)) (sym c.has_less_label.ensures.exact ∙ c.if-not-has_less_label.true) in
    look_no_further c.args.s.now c.requires c.loop-at.at (label_of c.args.x.now) (label_of c.loop-at.greatest.now) c.loop-at.last.now (Norm (c.args.x.now ∷ c.args.s.now) (c.args.x.now ∷ c.args.s.now)) c.loop-at.invariant c.index-s-at.result (omega arith) c.index-s-at.is not

pub loop-at-preserved : goal.loop-at-preserved
loop-at-preserved c =
    look_on c.args.s.now c.requires c.loop-at.at (label_of c.args.x.now) (label_of c.loop-at.greatest.now) c.loop-at.last.now (Norm (c.args.x.now ∷ c.args.s.now) (c.args.x.now ∷ c.args.s.now)) c.loop-at.invariant c.index-s-at.result (omega arith) c.index-s-at.is (label_of c.in-Some-greatest_after_first.next.now) (rw c.in-Some-greatest_after_first.is at c.greatest_after_first.ensures)

pub returns : goal.returns
returns c = λ yes.
    looked_at_all c.args.s.now c.requires c.loop-at.at (label_of c.args.x.now) (label_of c.loop-at.greatest.now) c.loop-at.last.now (Norm (c.args.x.now ∷ c.args.s.now) (c.args.x.now ∷ c.args.s.now)) c.loop-at.invariant (omega arith)
