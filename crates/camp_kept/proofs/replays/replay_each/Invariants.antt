use Rattle.std.proofs.Common.{◌+◌, length, take}
use Rattle.camp_kept.specs.Faults.{ReportsNumber}
use Rattle.camp_kept.specs.Replaying.{AreReplayed}
use Rattle.camp_kept.specs.Titles.{title_of}
use Rattle.camp_kept.proofs.Numbering.{size}
use Rattle.camp_store.specs.Logs.{texts_of}
use Rattle.camp_kept.proofs.replays.replay_each.Given as goal

abbrev pub invariant-loop-text : goal.invariant-loop-text
invariant-loop-text l =
    AreReplayed l.fn.book.first.limits (texts_of (take l.text-index l.texts)) l.book l.notes
    × ReportsNumber l.call (length (texts_of (take l.text-index l.texts)) + 1)
    × ReportsNumber l.at (27 + length (title_of l.fn.book.first.limits) + size (texts_of (take l.text-index l.texts)))
