use Rattle.std.proofs.Common.{◌<◌, length, arith, sym, subst}
use Rattle.std.proofs.lemmas.Bool.Decides.{nat_tests}
use Rattle.camp_notes.specs.Faults.{RefusesNotes}
use Rattle.camp_notes.specs.Texts.{notes_text}
use Rattle.camp_notes.specs.declared.faults.NoteFault.{NoteFault}
use Rattle.camp_notes.proofs.ParseLemmas.{misplaced}
use Rattle.camp_notes.proofs.parsing.parse_notes.Goals as goal

pub returns : goal.returns
returns c =
    let text = c.args.text.now in
    let notes = c.in_ok-notes.notes.items in
    let found = c.in_ok-notes.ensures.exact in
    let told = c.if-is_empty.ensures in
    let some : 0 < length c.in_ok-notes.rest.now = grind (arith, nat_tests, told) in
    record {
      exact = subst (λ (f : NoteFault). RefusesNotes text f) (sym (c.fault_before.ensures (notes_text notes) found.0.is))
          (misplaced text notes c.in_ok-notes.rest.now found some);
    }
