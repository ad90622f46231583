use Rattle.std.proofs.Common.{◌≡◌, ◌++◌, take}
use Rattle.std.specs.List.{flat_map}
use Rattle.camp_stream.specs.CommandTexts.{merge_text}
use Rattle.camp_stream.specs.CommandValues.{text_values}
use Rattle.camp_stream.proofs.rendering.append_merges.Given as goal

abbrev pub invariant-loop-merge : goal.invariant-loop-merge
invariant-loop-merge l = l.stream.items ≡ l.initial.stream.items ++ flat_map merge_text (text_values (take l.merge-index l.merges))
