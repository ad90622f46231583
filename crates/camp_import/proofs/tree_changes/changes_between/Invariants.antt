use Rattle.camp_import.proofs.TreeLemmas.{LeadsSoFar}
use Rattle.camp_import.proofs.tree_changes.changes_between.Given as goal

abbrev pub invariant-paths : goal.invariant-paths
invariant-paths l = LeadsSoFar l.old l.new l.entry-iterator l.changes.items
