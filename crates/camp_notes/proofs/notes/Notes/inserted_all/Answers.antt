use Rattle.std.proofs.Common.{◌≡◌, ◌+◌, List, [], ◌∷◌, ◌++◌, take, sym, ap, ◌∙◌}
use Rattle.std.proofs.lemmas.List.{take_more}
use Rattle.std.specs.FinMap.{insert}
use Rattle.camp_notes.specs.Notes.{NoteTexts, with_notes}
use Rattle.camp_notes.specs.declared.notes.Note.{Note}
use Rattle.camp_notes.proofs.MapLemmas.{with_one_more}
use Rattle.camp_notes.proofs.notes.Notes.inserted_all.Goals as goal

pub loop-note-preserved : goal.loop-note-preserved
loop-note-preserved c =
    let notes = c.args.notes.now in
    let at = c.loop-note.note-index in
    let note = c.note-item.result in
    let next : take (at + 1) notes ≡ take at notes ++ note ∷ [] =
    take_more notes at note c.loop-note-test.true ∙ ap (λ (n : Note). take at notes ++ n ∷ []) (sym c.note-item.is) in
    c.in_ok-insert.ensures.exact
    ∙ ap (λ (n : Note). insert c.loop-note.all n.name n.text) c.in_ok-try_clone.ensures.exact
    ∙ ap (λ (m : NoteTexts). insert m note.name note.text) c.loop-note.invariant
    ∙ with_one_more c.args.self.now (take at notes) note
    ∙ ap (λ (l : List Note). with_notes c.args.self.now l) (sym next)
