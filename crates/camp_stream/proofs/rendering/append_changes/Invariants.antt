use Rattle.std.proofs.Common.{◌≡◌, ◌++◌, take}
use Rattle.std.specs.List.{flat_map}
use Rattle.camp_stream.specs.CommandTexts.{file_change_bytes}
use Rattle.camp_stream.specs.CommandValues.{change_values}
use Rattle.camp_stream.proofs.rendering.append_changes.Given as goal

abbrev pub invariant-loop-change : goal.invariant-loop-change
invariant-loop-change l = l.stream.items ≡ l.initial.stream.items ++ flat_map file_change_bytes (change_values (take l.change-index l.changes))
