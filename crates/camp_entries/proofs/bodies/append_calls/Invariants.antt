use Rattle.std.proofs.Common.{◌≡◌, ◌++◌, take}
use Rattle.std.specs.List.{AllByRecursion, flat_map}
use Rattle.camp_entries.specs.Texts.{IsNoted, noted_text}
use Rattle.camp_entries.proofs.bodies.append_calls.Given as goal

abbrev pub invariant-loop-noted : goal.invariant-loop-noted
invariant-loop-noted l = (l.text.items ≡ l.initial.text.items ++ flat_map noted_text (take l.noted-index l.calls)) × AllByRecursion IsNoted (take l.noted-index l.calls)
