use Rattle.camp_ctx.proofs.Words.{◌∙◌, [], refl, common_labels}
use Rattle.std.proofs.lemmas.Result.{IfOk-weaker}
use Rattle.camp_ctx.proofs.ConflictSteps.{no_first, no_second, other_fronts, merges_as_the_rests}
use Rattle.camp_ctx.proofs.Standing.{no_split}
use Rattle.camp_ctx.proofs.conflicts.merge_after_common.Goals as goal

pub returns-in_default : goal.returns-in_default
returns-in_default c =
    let labels = c.as_slice-labels.ensures.value ∙ c.in_ok-common.ensures ∙ (λ i. common_labels (c.items.ensures.exact i) (c.items-2.ensures.exact i)) in
    let never = rw c.in_default.is at c.in_ok-common-2.ensures.exact in
    record { exact = no_first c.args.s.now c.args.t.now _ labels never }

pub returns-in_default-2 : goal.returns-in_default-2
returns-in_default-2 c =
    let labels = c.as_slice-labels.ensures.value ∙ c.in_ok-common.ensures ∙ (λ i. common_labels (c.items.ensures.exact i) (c.items-2.ensures.exact i)) in
    let never = rw c.in_default-2.is at c.in_ok-other.ensures.exact in
    record { exact = no_second c.args.s.now c.args.t.now _ labels never }

pub returns-then-are_apart : goal.returns-then-are_apart
returns-then-are_apart c =
    let labels = c.as_slice-labels.ensures.value ∙ c.in_ok-common.ensures ∙ (λ i. common_labels (c.items.ensures.exact i) (c.items-2.ensures.exact i)) in
    let s = c.args.s.now in
    let t = c.args.t.now in
    let none = c.are_apart.ensures.none c.if-are_apart.true in
    let first = no_split _ s s none (c.are_apart.ensures.first c.if-are_apart.true) in
    let second = no_split _ t t none (c.are_apart.ensures.second c.if-are_apart.true) in
    record { exact = IfOk-weaker c.merge_apart.result _ _ (merges_as_the_rests s t _ labels [] [] s t first second refl) c.merge_apart.ensures.exact }

pub returns-then-not-is_same : goal.returns-then-not-is_same
returns-then-not-is_same c =
    let labels = c.as_slice-labels.ensures.value ∙ c.in_ok-common.ensures ∙ (λ i. common_labels (c.items.ensures.exact i) (c.items-2.ensures.exact i)) in
    let first = rw c.in-Some.is at c.in_ok-common-2.ensures.exact in
    let second = rw c.in-Some-2.is at c.in_ok-other.ensures.exact in
    let no = c.if-not-is_same.true in
    record { exact = other_fronts c.args.s.now c.args.t.now _ labels _ _ _ _ first second (λ same. let yes = c.is_same.ensures.exact.1 same in cc) }

pub returns : goal.returns
returns c =
    let labels = c.as_slice-labels.ensures.value ∙ c.in_ok-common.ensures ∙ (λ i. common_labels (c.items.ensures.exact i) (c.items-2.ensures.exact i)) in
    let first = rw c.in-Some.is at c.in_ok-common-2.ensures.exact in
    let second = rw c.in-Some-2.is at c.in_ok-other.ensures.exact in
    record { exact = merges_as_the_rests c.args.s.now c.args.t.now _ labels _ _ _ _ first second (c.is_same.ensures.exact.0 c.if-not-is_same.false) _ c.in_ok-clean_merge.ensures.exact }
