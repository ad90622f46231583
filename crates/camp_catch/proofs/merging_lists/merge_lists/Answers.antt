use Rattle.std.proofs.lemmas.Result.{err_from_is_err_and}
use Rattle.camp_catch.proofs.Making.{blocks_too}
use Rattle.camp_catch.proofs.Words.{[], ap, arith, inl, length, refl, sym, ◌∙◌, ◌∷◌, drop_all, with_items_is}
use Rattle.camp_catch.proofs.MoveSteps.{stands_at}
use Rattle.camp_catch.proofs.MergeListSteps.{merged_at_first, merged_with, none_to_merge}
use Rattle.camp_catch.proofs.merging_lists.merge_lists.Goals as goal

pub returns-in_default : goal.returns-in_default
returns-in_default c = record { exact = none_to_merge c.args.p.now c.args.q.now _ c.in_default.ensures.cases c.in_ok-merged.ensures.items }

pub loop-catch-init : goal.loop-catch-init
loop-catch-init c =
    rw (c.in_ok-merged.ensures.items, ← c.in-Some.ensures.cases.0, c.in_ok-beside.ensures) (merged_at_first c.args.p.now c.args.q.now)

pub returns-in_err-after : goal.returns-in_err-after
returns-in_err-after c =
    let next = stands_at c.in-Some.front.now c.loop-catch.catch-index c.catch-item.result c.catch-item.result (omega arith) c.catch-item.is in
    let p = err_from_is_err_and c.from_residual-in_err-after.result c.from_residual-in_err-after.ensures.1 in
    record { exact = rw (p.1, p.2) (blocks_too c.in_err-after.field-0.0 c.in_err-after.ensures.exact (λ what w. (rw next at c.loop-catch.invariant).sticks what.left what.right (inl (rw c.deref_mut.ensures.value at w)))) }

pub loop-catch-preserved : goal.loop-catch-preserved
loop-catch-preserved c =
    let next = stands_at c.in-Some.front.now c.loop-catch.catch-index c.catch-item.result c.catch-item.result (omega arith) c.catch-item.is in
    let written = with_items_is c.loop-catch.beside c.merge_with_all.new.q (c.merge_with_all.auto.q ∙ ap length c.deref_mut.ensures.value ∙ sym c.loop-catch.beside.ok.0) in
    rw (written, c.in_ok-push.ensures.items) (merged_with c.in_ok-after.after (rw next at c.loop-catch.invariant) (rw c.deref_mut.ensures.value at c.in_ok-after.ensures.exact))

pub returns-in_err-after-2 : goal.returns-in_err-after-2
returns-in_err-after-2 c =
    let p = err_from_is_err_and c.from_residual-in_err-after-2.result c.from_residual-in_err-after-2.ensures.1 in
    record { exact = rw (p.1, p.2) (blocks_too c.in_err-after-2.field-0.0 c.in_err-after-2.ensures.exact (λ what w. (rw (drop_all c.loop-catch.catch-index c.in-Some.front.now (omega arith)) at c.loop-catch.invariant).sticks what.left what.right (inl (rw c.deref.ensures.value at w)))) }

pub returns : goal.returns
returns c =
    let row = rw c.deref.ensures.value at c.in_ok-after-2.ensures.exact in
    let k' = c.in_ok-after-2.after in
    record { exact = rw c.in_ok-push-2.ensures.items (row.0, (rw (drop_all c.loop-catch.catch-index c.in-Some.front.now (omega arith)) at c.loop-catch.invariant).goes (k' ∷ []) row.0 (k', row.0, [], row.1, (refl, refl), refl)) }
