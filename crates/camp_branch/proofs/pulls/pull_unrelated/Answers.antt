use Rattle.std.proofs.lemmas.Result.{err_from_is_err_and}
use Rattle.camp_catch.proofs.Making.{blocks_too}
use Rattle.camp_branch.proofs.Words.{[], Arrange, names_in, refl}
use Rattle.camp_branch.proofs.PullSteps.{depends, either_answer, merges, no_merge, none_arranged}
use Rattle.camp_branch.proofs.pulls.pull_unrelated.Goals as goal

pub returns-in_err-chosen : goal.returns-in_err-chosen
returns-in_err-chosen c =
    let p = err_from_is_err_and c.from_residual.result c.from_residual.ensures.1 in
    record { exact = rw (p.1, p.2) (blocks_too c.in_err-chosen.field-0.0 c.in_err-chosen.ensures.exact (λ blocked w. depends [] c.args.from.now c.args.to.now (names_in c.args.wanted.now) [] c.args.from.now (none_arranged [] c.args.from.now) blocked w)) }

pub returns : goal.returns
returns c =
    let choice : Arrange (names_in c.args.wanted.now) c.args.from.now c.deref.result.now c.in_ok-chosen.chosen.rest.items = rw c.deref.ensures.value c.in_ok-chosen.ensures.exact in
    let from = none_arranged [] c.args.from.now in
    let to = none_arranged [] c.args.to.now in
    record {
      exact = either_answer _ _ _ _
          (λ taken w. merges [] c.args.from.now c.args.to.now (names_in c.args.wanted.now) [] c.args.from.now from c.deref.result.now c.in_ok-chosen.chosen.rest.items choice [] c.args.to.now to refl taken.items w)
          (λ blocked w. no_merge [] c.args.from.now c.args.to.now (names_in c.args.wanted.now) [] c.args.from.now from c.deref.result.now c.in_ok-chosen.chosen.rest.items choice [] c.args.to.now to refl blocked w)
          c.merged_last.result c.merged_last.ensures.exact;
    }
