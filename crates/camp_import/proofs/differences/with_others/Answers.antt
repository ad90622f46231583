use Rattle.std.proofs.Common.{◌∙◌, sym, subst}
use Rattle.camp_import.proofs.DifferenceLemmas.{AddsSoFar, FileEntries, adds_all, adds_one, adds_start}
use Rattle.camp_import.proofs.differences.with_others.Goals as goal

pub files-init : goal.files-init
files-init c =
    let all = c.into_iter-file-iterator.ensures.into_iter_gives ∙ c.iter-file-items.ensures.rest in
    subst (λ (rest : FileEntries). AddsSoFar c.args.tree.now c.args.other.now c.args.paths rest c.args.paths) (sym all)
    (adds_start c.args.tree.now c.args.other.now c.args.paths)

pub files-preserved : goal.files-preserved
files-preserved c =
    adds_one c.args.tree.now c.args.other.now c.args.paths c.in-Some.file.now c.files.file-iterator c.next.new.self
    c.files.found _ c.in-Some.ensures.steps c.in_ok-found.ensures c.files.invariant

pub returns : goal.returns
returns c =
    adds_all c.args.tree.now c.args.other.now c.args.paths c.files.file-iterator c.files.found c.in-None.ensures.steps.0 c.files.invariant
