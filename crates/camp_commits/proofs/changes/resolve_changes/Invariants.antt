use Rattle.std.proofs.Common.{◌≡◌, drop, length, map}
use Rattle.camp_stream.specs.CommandValues.{change_values}
use Rattle.camp_commits.specs.Resolving.{at_index, each_from, resolved_change, resolved_changes, value_of_entry}
use Rattle.camp_commits.proofs.EachLemmas.{after_others}
use Rattle.camp_commits.proofs.changes.resolve_changes.Given as goal

abbrev pub invariant-loop-change : goal.invariant-loop-change
invariant-loop-change l =
    (length l.resolved.items ≡ l.change-index)
    × (after_others (map value_of_entry l.resolved.items) (each_from (λ index change. at_index index (resolved_change l.objects.marks change)) l.change-index (change_values (drop l.change-index l.changes)))
    ≡ resolved_changes l.objects.marks (change_values l.changes))
