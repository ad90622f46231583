use Rattle.camp_branch.proofs.Words.{ap, refl, sym, arith, ◌+◌, ◌++◌, ◌∙◌, append-nil, drop_all, recorded}
use Rattle.camp_branch.proofs.BranchFields.{appended, one_alone, one_recorded}
use Rattle.camp_branch.proofs.branches.with_recorded.Goals as goal

pub loop-change-preserved : goal.loop-change-preserved
loop-change-preserved c =
    let l = c.loop-change in
    record {
      so_far = one_recorded l.new.items _ c.args.name.now l.place l.change-index c.args.changes.now c.change-item.result c.change-item.result c.in_ok-catch.catch _ c.loop-change-test.true c.change-item.is c.in_ok-catch.ensures c.in_ok-push.ensures.items l.invariant.so_far;
      at = ap (λ n. n + 1) l.invariant.at;
    }

pub returns-then-changes-eq1 : goal.returns-then-changes-eq1
returns-then-changes-eq1 c =
    one_alone c.args.catches.now c.in_ok-pushed.field-0 c.args.name.now c.args.changes.now c.index-changes-0.result c.index-changes-0.result c.in_ok-only.only c.if-changes-eq1.true c.index-changes-0.is c.in_ok-only.ensures c.in_ok-pushed.ensures.exact

pub returns : goal.returns
returns c =
    let l = c.loop-change in
    let all = sym (append-nil l.new.items) ∙ ap (λ t. l.new.items ++ recorded c.args.name.now l.place t) (sym (drop_all l.change-index c.args.changes.now (omega arith))) ∙ l.invariant.so_far in
    appended c.args.catches.now c.args.catches.now c.deref.result.now c.in_ok-spliced.field-0 c.len-end.result c.len-end.ensures.exact refl c.in_ok-spliced.ensures.exact
    ∙ ap (λ xs. c.args.catches.now ++ xs) (c.deref.ensures.value ∙ all)
