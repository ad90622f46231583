use Rattle.std.proofs.Common.{◌∙◌, List, ap, sym}
use Rattle.std.specs.FinMap.{empty, insert}
use Rattle.camp_notes.specs.Logs.{notes_placed}
use Rattle.camp_notes.specs.Notes.{NoteTexts, with_notes}
use Rattle.camp_notes.specs.declared.logs.PlacedNote.{PlacedNote}
use Rattle.camp_notes.specs.declared.notes.Note.{Note}
use Rattle.camp_notes.proofs.MapLemmas.{one_more_placed}
use Rattle.camp_notes.proofs.logs.NoteLog.push.Goals as goal

pub invariant_of-self-2 : goal.invariant_of-self-2
invariant_of-self-2 c =
    let note = c.args.note in
    c.in_ok-insert.ensures.exact
    ∙ ap (λ (n : Note). insert c.in_ok-texts.texts n.name n.text) c.in_ok-try_clone.ensures.exact
    ∙ ap (λ (m : NoteTexts). insert m note.name note.text) (c.in_ok-texts.ensures.exact ∙ c.self.invariant)
    ∙ one_more_placed c.self.inside.placed.items (record { at = c.args.at; note = note })
    ∙ ap (λ (l : List PlacedNote). with_notes empty (notes_placed l)) (sym c.in_ok-push.ensures.items)
