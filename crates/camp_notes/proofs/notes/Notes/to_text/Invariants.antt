use Rattle.std.proofs.Common.{◌≡◌, ◌++◌, map}
use Rattle.std.specs.FinMap.{entries}
use Rattle.std.specs.List.{AllByRecursion, flat_map}
use Rattle.camp_notes.specs.Notes.{CanBeNote, note_of, notes_in}
use Rattle.camp_notes.specs.Texts.{note_text}
use Rattle.camp_notes.proofs.notes.Notes.to_text.Given as goal

abbrev pub invariant-loop-name : goal.invariant-loop-name
invariant-loop-name l =
    (l.text.items ++ flat_map (λ entry. note_text (note_of entry)) l.name-iterator ≡ flat_map (λ entry. note_text (note_of entry)) (entries l.self))
    × (AllByRecursion CanBeNote (map note_of l.name-iterator) → AllByRecursion CanBeNote (notes_in l.self))
