use Rattle.std.proofs.Common.{drop}
use Rattle.camp_import.proofs.FileLemmas.{EditsSoFar}
use Rattle.camp_import.proofs.edits.append_script.Given as goal

abbrev pub invariant-loop-hunk : goal.invariant-loop-hunk
invariant-loop-hunk l = EditsSoFar l.path l.old l.new (drop l.hunk-index l.hunk-items) l.initial.changes.items l.changes.items
