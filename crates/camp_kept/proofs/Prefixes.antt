-- Lemmas on what a repository had accepted at an earlier moment.
use Rattle.std.proofs.Common.{ℕ, List, refl, sym, ◌∙◌, ap}
use Rattle.std.proofs.lemmas.List.{map-append}
use Rattle.camp_call.specs.declared.calls.Call.{Call}
use Rattle.camp_kept.specs.Accepting.{History, IsPrefixOf, StoreContents, accepted_of}
use Rattle.camp_notes.specs.declared.logs.PlacedNote.{PlacedNote}
use Rattle.camp_object.proofs.Beginnings.{begins_self, begins_through}
use Rattle.camp_object.specs.Books.{IsEarlier}
use Rattle.camp_object.specs.Histories.{IsBeginning}
use Rattle.camp_repo.specs.States.{Contents}
use Rattle.camp_script.specs.Keeping.{calls_of}

pub prefix_self : (stored : StoreContents) → IsPrefixOf stored stored
prefix_self stored = record { limits = refl; calls = begins_self stored.calls; notes = begins_self stored.notes }

pub prefix_through : {one two three : StoreContents} → IsPrefixOf one two → IsPrefixOf two three → IsPrefixOf one three
prefix_through first second =
    record { limits = first.limits ∙ second.limits; calls = begins_through first.calls second.calls; notes = begins_through first.notes second.notes }

calls_front : (before after : List (ℕ × Call)) → IsBeginning before after → IsBeginning (calls_of before) (calls_of after)
calls_front before after front = record {
  rest = calls_of front.rest;
  makes = sym (map-append (λ (e : ℕ × Call). e.1) before front.rest) ∙ ap (λ (l : List (ℕ × Call)). calls_of l) front.makes;
}

-- a history and notes that have grown
pub prefix_grows : (before after : History) (given now : List PlacedNote) → IsEarlier before after → IsBeginning given now → IsPrefixOf (accepted_of before given) (accepted_of after now)
prefix_grows before after given now earlier more = record {
  limits = ap (λ (state : Contents). state.limits) (sym earlier.first);
  calls = calls_front before.calls after.calls earlier.calls;
  notes = more;
}
