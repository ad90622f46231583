use Rattle.std.proofs.Common.{◌≤◌, length, take}
use Rattle.std.specs.List.{AllByRecursion}
use Rattle.camp_script.specs.Canonical.{IsScriptCall}
use Rattle.camp_entries.specs.Texts.{IsNoted}
use Rattle.camp_entries.proofs.BodyLemmas.{LeftOf}
use Rattle.camp_entries.proofs.bodies.with_notes.Given as goal

abbrev pub invariant-loop-call : goal.invariant-loop-call
invariant-loop-call l =
    (l.at ≤ length l.body) × LeftOf l.body l.calls l.call-index l.at l.noted.items
    × (AllByRecursion IsScriptCall l.calls → AllByRecursion IsNoted l.noted.items)
