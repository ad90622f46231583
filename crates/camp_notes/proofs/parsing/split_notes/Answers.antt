use Rattle.std.proofs.Common.{◌==◌, ℕ, List, sym, ap, subst, ◌∙◌}
use Rattle.std.specs.List.{starts_with}
use Rattle.camp_notes.specs.Faults.{RefusesNotesBefore}
use Rattle.camp_notes.specs.Texts.{notes_text}
use Rattle.camp_notes.specs.declared.faults.NoteFault.{NoteFault}
use Rattle.camp_notes.specs.declared.notes.Note.{Note}
use Rattle.camp_notes.proofs.ParseLemmas.{AreParsed, all_parsed, faulty, one_more}
use Rattle.camp_notes.proofs.parsing.split_notes.Goals as goal

pub loop-alloc-preserved : goal.loop-alloc-preserved
loop-alloc-preserved c =
    let text = c.args.text.now in
    let rest = c.loop-alloc.rest.now in
    let after = c.in-Ok.after.now in
    subst (λ (l : List Note). AreParsed text l after) (sym c.in_ok-push-in-Ok.ensures.items)
    (one_more text c.loop-alloc.notes.items rest c.in-Ok.note after c.loop-alloc.invariant
    (sym (c.loop-alloc-test.ensures.value ∙ ap (λ (n : List ℕ). starts_with (λ a b. a == b) rest n) c.as_slice.ensures))
    (rw c.in-Ok.is at c.in_ok-note.ensures))

pub returns-in-Err : goal.returns-in-Err
returns-in-Err c =
    let text = c.args.text.now in
    let rest = c.loop-alloc.rest.now in
    let notes = c.loop-alloc.notes.items in
    record {
      exact = subst (λ (f : NoteFault). RefusesNotesBefore text f) (sym (c.fault_before.ensures (notes_text notes) c.loop-alloc.invariant.is))
          (faulty c.in-Err.kind text notes rest c.loop-alloc.invariant
          (sym (c.loop-alloc-test.ensures.value ∙ ap (λ (n : List ℕ). starts_with (λ a b. a == b) rest n) c.as_slice.ensures))
          (rw c.in-Err.is at c.in_ok-note.ensures));
    }

pub returns : goal.returns
returns c =
    let rest = c.loop-alloc.rest.now in
    record {
      exact = all_parsed c.args.text.now c.loop-alloc.notes.items rest c.loop-alloc.invariant
          (sym (c.loop-alloc-test.ensures.value ∙ ap (λ (n : List ℕ). starts_with (λ a b. a == b) rest n) c.as_slice.ensures));
    }
