use Rattle.std.proofs.Common.{take}
use Rattle.camp_importer.specs.Histories.{ImportsEach}
use Rattle.camp_importer.proofs.histories.import_commits.Given as goal

abbrev pub invariant-loop-commit : goal.invariant-loop-commit
invariant-loop-commit l = ImportsEach l.moments (take l.commit-index l.commits) l.initial.book l.book
