use Rattle.std.proofs.Common.{[], ◌∷◌, Bool, Result, sym, subst}
use Rattle.camp_importer.proofs.PullLemmas.{pulls_or}
use Rattle.camp_importer.specs.Calling.{GivesOrFails}
use Rattle.camp_importer.specs.Steps.{PullsFromOne, PullsUnlessBlocked}
use Rattle.camp_importer.specs.declared.faults.Reason.{Reason}
use Rattle.camp_importer.proofs.pulling.pull_all.Goals as goal

pub returns : goal.returns
returns c =
    subst (λ (result : Result Bool Reason). GivesOrFails (PullsUnlessBlocked c.args.other.now c.args.branch.now) (PullsFromOne (c.args.other.now ∷ []) c.args.branch.now) c.args.branch.now c.args.book.now result c.execute-answer.new.book) (sym c.pull_outcome.ensures)
    (pulls_or c.args.other.now c.args.branch.now c.args.book.now c.execute-answer.new.book c.execute-answer.result c.execute-answer.ensures)
