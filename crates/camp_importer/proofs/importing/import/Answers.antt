use Rattle.std.proofs.Common.{Result, sym, subst}
use Rattle.camp_importer.proofs.CommitLemmas.{imports_or, passes_or}
use Rattle.camp_importer.specs.Commits.{ImportsAs}
use Rattle.camp_importer.specs.Moments.{moment_of}
use Rattle.camp_importer.specs.declared.faults.Reason.{Reason}
use Rattle.camp_importer.specs.declared.importing.Imported.{Imported}
use Rattle.camp_importer.proofs.importing.import.Goals as goal

pub returns-in-Some : goal.returns-in-Some
returns-in-Some c =
    passes_or c.args.commit.now c.args.place.now (moment_of c.args.moments.now.branches c.args.commit.now.id) c.args.book.now c.in-Some.branch.now c.pass_over.result c.in-Some.ensures.exact c.pass_over.ensures

pub returns-in-None : goal.returns-in-None
returns-in-None c =
    let known = moment_of c.args.moments.now.branches c.args.commit.now.id in
    subst (λ (result : Result Imported Reason). ImportsAs c.args.commit.now c.args.place.now known c.args.book.now result c.record.new.book) (sym c.recorded.ensures)
    (imports_or c.args.commit.now c.args.place.now known c.args.book.now c.record.new.book c.record.result c.in-None.ensures.exact c.record.ensures)
