use Rattle.std.proofs.Common.{◌≡◌, ◌+◌, length, take}
use Rattle.std.specs.List.{AllByRecursion}
use Rattle.camp_kept.specs.Entries.{AreInPlace}
use Rattle.camp_kept.proofs.PlaceLemmas.{AreRendered}
use Rattle.camp_script.specs.Keeping.{CanBeInScript, calls_of}
use Rattle.camp_store.specs.Logs.{texts_of}
use Rattle.camp_kept.proofs.texts.render_entries.Given as goal

abbrev pub invariant-loop-entry : goal.invariant-loop-entry
invariant-loop-entry l =
    (l.at ≡ l.first + l.entry-index)
    × AreInPlace l.at (l.first + length l.calls) l.rest
    × AreRendered l.first (calls_of (take l.entry-index l.calls)) l.notes l.rest (texts_of l.texts.items)
    × AllByRecursion CanBeInScript (calls_of (take l.entry-index l.calls))
