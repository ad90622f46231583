use Rattle.std.proofs.Common.{◌≡◌, ◌≢◌, ◌≤◌, ◌++◌, ◌+◌, true, ℕ, List, length, take, drop}
use Rattle.camp_entries.specs.Texts.{IsNote, begins_note}
use Rattle.camp_entries.proofs.NoteLemmas.{AfterNotes}
use Rattle.camp_entries.proofs.notes.note_len.Given as goal

abbrev pub invariant-loop : goal.invariant-loop
invariant-loop l = AfterNotes l.text l.at × (l.counter ≤ l.at)
