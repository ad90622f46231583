use Rattle.std.proofs.lemmas.Result.{err_from_is_err_and}
use Rattle.camp_catch.proofs.Making.{blocks_too}
use Rattle.std.proofs.Common.{eqb-true}
use Rattle.std.proofs.lemmas.List.{nil_from_length}
use Rattle.std.specs.FinMap.{len-entries}
use Rattle.std.specs.Result.{MatchResult}
use Rattle.camp_catch.specs.Making.{GivesOrRunsOut}
use Rattle.camp_branch.proofs.Words.{◌++◌, Ok, Err, entries, length-map, map_of, nat_cmp, slice_cmp, subst, sym, ◌∙◌, Arrange, PullBy, names_in}
use Rattle.camp_branch.proofs.PullSteps.{both_diverge, depends, either_answer, merges, no_merge, ours_diverge, theirs_diverge}
use Rattle.camp_branch.proofs.pulls.pull.Goals as goal

pub returns-then-is_empty : goal.returns-then-is_empty
returns-then-is_empty c =
    let set = map_of (slice_cmp nat_cmp) c.args.common.now in
    let none = nil_from_length (names_in c.args.common.now) (length-map (entries set) (λ e. e.0) ∙ sym (len-entries set) ∙ eqb-true _ 0 (sym c.is_empty.ensures.exact ∙ c.if-is_empty.true)) in record {
      exact = subst (λ names. GivesOrRunsOut (λ answer. MatchResult answer
          (λ taken. PullBy names c.args.from.now c.args.to.now (names_in c.args.wanted.now) (Ok (c.args.to.now ++ taken.items)))
          (λ blocked. PullBy names c.args.from.now c.args.to.now (names_in c.args.wanted.now) (Err blocked))) c.pull_unrelated.result)
          (sym none) c.pull_unrelated.ensures.exact;
    }

pub returns-in_err-theirs : goal.returns-in_err-theirs
returns-in_err-theirs c =
    let p = err_from_is_err_and c.from_residual.result c.from_residual.ensures.1 in
    record { exact = rw (p.1, p.2) (blocks_too c.in_err-theirs.field-0.0 c.in_err-theirs.ensures.exact (λ blocked w. theirs_diverge (names_in c.args.common.now) c.args.from.now c.args.to.now (names_in c.args.wanted.now) blocked w)) }

pub returns-in_err-chosen : goal.returns-in_err-chosen
returns-in_err-chosen c =
    let p = err_from_is_err_and c.from_residual-in_err-chosen.result c.from_residual-in_err-chosen.ensures.1 in
    let theirs : Arrange (names_in c.args.common.now) c.args.from.now c.in_ok-theirs.theirs.first.items c.deref.result.now = rw c.deref.ensures.value c.in_ok-theirs.ensures.exact in
    record { exact = rw (p.1, p.2) (blocks_too c.in_err-chosen.field-0.0 c.in_err-chosen.ensures.exact (λ blocked w. depends (names_in c.args.common.now) c.args.from.now c.args.to.now (names_in c.args.wanted.now) c.in_ok-theirs.theirs.first.items c.deref.result.now theirs blocked w)) }

pub returns-in_err-ours : goal.returns-in_err-ours
returns-in_err-ours c =
    let p = err_from_is_err_and c.from_residual-in_err-ours.result c.from_residual-in_err-ours.ensures.1 in
    let theirs : Arrange (names_in c.args.common.now) c.args.from.now c.in_ok-theirs.theirs.first.items c.deref.result.now = rw c.deref.ensures.value c.in_ok-theirs.ensures.exact in
    record { exact = rw (p.1, p.2) (blocks_too c.in_err-ours.field-0.0 c.in_err-ours.ensures.exact (λ blocked w. ours_diverge (names_in c.args.common.now) c.args.from.now c.args.to.now (names_in c.args.wanted.now) c.in_ok-theirs.theirs.first.items c.deref.result.now theirs c.in_ok-chosen.chosen.first.items c.in_ok-chosen.chosen.rest.items c.in_ok-chosen.ensures.exact blocked w)) }

pub returns-in_err-same_front : goal.returns-in_err-same_front
returns-in_err-same_front c =
    let p = err_from_is_err_and c.from_residual-in_err-same_front.result c.from_residual-in_err-same_front.ensures.1 in
    let theirs : Arrange (names_in c.args.common.now) c.args.from.now c.deref-2.result.now c.deref.result.now = rw (c.deref-2.ensures.value, c.deref.ensures.value) c.in_ok-theirs.ensures.exact in
    let ours : Arrange (names_in c.args.common.now) c.args.to.now c.deref-3.result.now c.in_ok-ours.ours.rest.items = rw c.deref-3.ensures.value c.in_ok-ours.ensures.exact in
    record { exact = rw (p.1, p.2) (blocks_too c.in_err-same_front.field-0.0 c.in_err-same_front.ensures.exact (λ blocked w. both_diverge (names_in c.args.common.now) c.args.from.now c.args.to.now (names_in c.args.wanted.now) c.deref-2.result.now c.deref.result.now theirs c.in_ok-chosen.chosen.first.items c.in_ok-chosen.chosen.rest.items c.in_ok-chosen.ensures.exact c.deref-3.result.now c.in_ok-ours.ours.rest.items ours blocked w)) }

pub returns : goal.returns
returns c =
    let theirs : Arrange (names_in c.args.common.now) c.args.from.now c.deref-2.result.now c.deref.result.now = rw (c.deref-2.ensures.value, c.deref.ensures.value) c.in_ok-theirs.ensures.exact in
    let choice : Arrange (names_in c.args.wanted.now) c.deref.result.now c.deref-4.result.now c.in_ok-chosen.chosen.rest.items = rw c.deref-4.ensures.value c.in_ok-chosen.ensures.exact in
    let ours : Arrange (names_in c.args.common.now) c.args.to.now c.deref-3.result.now c.deref-5.result.now = rw (c.deref-3.ensures.value, c.deref-5.ensures.value) c.in_ok-ours.ensures.exact in
    let same = c.in_ok-same_front.ensures.exact in
    record {
      exact = either_answer _ _ _ _ (λ taken w. merges (names_in c.args.common.now) c.args.from.now c.args.to.now (names_in c.args.wanted.now) c.deref-2.result.now c.deref.result.now theirs c.deref-4.result.now c.in_ok-chosen.chosen.rest.items choice c.deref-3.result.now c.deref-5.result.now ours same taken.items w) (λ blocked w. no_merge (names_in c.args.common.now) c.args.from.now c.args.to.now (names_in c.args.wanted.now) c.deref-2.result.now c.deref.result.now theirs c.deref-4.result.now c.in_ok-chosen.chosen.rest.items choice c.deref-3.result.now c.deref-5.result.now ours same blocked w) c.merged_last.result c.merged_last.ensures.exact;
    }
