-- Notes in place, and how entries are rendered one after the other.
use Rattle.std.specs.Prelude.{option_to_list}
use Rattle.std.proofs.Common.{◌≡◌, ◌≢◌, ℕ, ◌+◌, ◌≤◌, ◌<◌, List, [], ◌∷◌, ◌++◌, length, take, refl, sym, ◌∙◌, ap, subst, arith, append_assoc, append-nil, None, Some}
use Rattle.std.specs.List.{AllByRecursion}
use Rattle.std.proofs.lemmas.List.{length-map, length-take-le, map-append}
use Rattle.std.proofs.lemmas.Grind.{flat_map-append}
use Rattle.camp_call.specs.declared.calls.Call.{Call}
use Rattle.camp_kept.specs.Entries.{AreStoredEntries, AreInPlace, IsStoredEntry, StoredEntry, placed_at, text_of_stored}
use Rattle.camp_kept.proofs.EntryLemmas.{all_join, entries_more, entry_some, no_entries, notes_some}
use Rattle.camp_notes.specs.Logs.{notes_placed}
use Rattle.camp_notes.specs.Notes.{CanBeNote}
use Rattle.camp_notes.specs.Texts.{note_text, notes_text}
use Rattle.camp_notes.specs.declared.logs.PlacedNote.{PlacedNote}
use Rattle.camp_notes.specs.declared.notes.Note.{Note}
use Rattle.camp_script.specs.Canonical.{call_text}
use Rattle.camp_script.specs.Keeping.{calls_of}

-- the first note of those in place
pub first_in_place : (low high : ℕ) (one : PlacedNote) (others : List PlacedNote) → AreInPlace low high (one ∷ others) → (low ≤ one.at) × (one.at ≤ high)
first_in_place low high one others are = (are.0, are.1)

-- the other notes of those in place
pub others_in_place : (low high : ℕ) (one : PlacedNote) (others : List PlacedNote) → AreInPlace low high (one ∷ others) → AreInPlace one.at high others
others_in_place low high one others are = are.2

-- a note that is in place before others that are
pub more_in_place : (low high : ℕ) (one : PlacedNote) (others : List PlacedNote) → low ≤ one.at → one.at ≤ high → AreInPlace one.at high others → AreInPlace low high (one ∷ others)
more_in_place low high one others least most are = (least, most, are)

-- notes after the first ones, which were given after this number of calls
pub in_place_after : (at high : ℕ) (here later : List PlacedNote) → AreInPlace at high (here ++ later) → here ≡ placed_at at (notes_placed here) → AreInPlace at high later
in_place_after at high [] later are is = are
in_place_after at high (one ∷ here) later are is =
    let first : one.at ≡ at = ap first_at is in
    in_place_after at high here later (subst (λ (n : ℕ). AreInPlace n high (here ++ later)) first are.2) (ap others_of is)
  where
    first_at : List PlacedNote → ℕ
    first_at [] = 0
    first_at (one ∷ others) = one.at

    others_of : List PlacedNote → List PlacedNote
    others_of [] = []
    others_of (one ∷ others) = others

-- notes whose first one was given after more calls
pub later_in_place : (at high : ℕ) (one : PlacedNote) (others : List PlacedNote) → one.at ≢ at → AreInPlace at high (one ∷ others) → AreInPlace (at + 1) high (one ∷ others)
later_in_place at high one others other are = (omega (arith, are.0, other), are.1, are.2)

-- notes that can be in place after one number of calls alone were given after it
pub all_placed : (at : ℕ) (notes : List PlacedNote) → AreInPlace at at notes → notes ≡ placed_at at (notes_placed notes)
all_placed at [] are = refl
all_placed at (one ∷ others) are =
    let here : one.at ≡ at = omega (arith, are.0, are.1) in
    let rest = all_placed at others (subst (λ (n : ℕ). AreInPlace n at others) here are.2) in
    λ k. record { at = here k; note = one.note } ∷ rest k

-- one note more of those that were given after this number of calls
pub placed_more : (at : ℕ) (notes : List PlacedNote) (one : PlacedNote) → notes ≡ placed_at at (notes_placed notes) → one.at ≡ at → notes ++ one ∷ [] ≡ placed_at at (notes_placed (notes ++ one ∷ []))
placed_more at notes one are here =
    (λ k. are k ++ record { at = here k; note = one.note } ∷ [])
    ∙ sym (map-append (λ (note : Note). record { at = at; note = note }) (notes_placed notes) (one.note ∷ []))
    ∙ ap (λ (l : List Note). placed_at at l) (sym (map-append (λ (p : PlacedNote). p.note) notes (one ∷ [])))

-- the text of one note more
pub text_more : (notes : List PlacedNote) (one : PlacedNote) → notes_text (notes_placed notes) ++ note_text one.note ≡ notes_text (notes_placed (notes ++ one ∷ []))
text_more notes one =
    ap (λ (l : List ℕ). notes_text (notes_placed notes) ++ l) (sym (append-nil (note_text one.note)))
    ∙ sym (flat_map-append note_text (notes_placed notes) (one.note ∷ []))
    ∙ ap notes_text (sym (map-append (λ (p : PlacedNote). p.note) notes (one ∷ [])))

pub can_more : (notes : List PlacedNote) (one : PlacedNote) → AllByRecursion CanBeNote (notes_placed notes) → CanBeNote one.note → AllByRecursion CanBeNote (notes_placed (notes ++ one ∷ []))
can_more notes one all can =
    subst (λ (l : List Note). AllByRecursion CanBeNote l) (sym (map-append (λ (p : PlacedNote). p.note) notes (one ∷ []))) (all_join CanBeNote (notes_placed notes) (one.note ∷ []) all (can, tt))

-- one note more after this number of calls
pub placed_at-push : (at : ℕ) (notes : List Note) (note : Note) → placed_at at notes ++ record { at = at; note = note } ∷ [] ≡ placed_at at (notes ++ note ∷ [])
placed_at-push at notes note = sym (map-append (λ (n : Note). record { at = at; note = n }) notes (note ∷ []))

-- ---- rendering

-- the texts are those of entries with these calls, and the notes before the rest of them
pub record AreRendered (first : ℕ) (calls : List Call) (notes rest : List PlacedNote) (texts : List (List ℕ)) : Type 0 where
  pub before : List PlacedNote
  pub splits : notes ≡ before ++ rest
  pub entries : AreStoredEntries first calls before texts

pub none_rendered : (first : ℕ) (notes : List PlacedNote) → AreRendered first [] notes notes []
none_rendered first notes = record { before = []; splits = refl; entries = no_entries first }

-- one entry more is rendered
rendered_more : (first : ℕ) (calls : List Call) (notes rest here later : List PlacedNote) (texts : List (List ℕ)) (at : ℕ) (entry : StoredEntry) (text : List ℕ) → AreRendered first calls notes rest texts
    → at ≡ first + length calls → rest ≡ here ++ later → here ≡ placed_at at entry.notes → IsStoredEntry entry → text_of_stored entry ≡ text
    → AreRendered first (calls ++ option_to_list entry.call) notes later (texts ++ text ∷ [])
rendered_more first calls notes rest here later texts at entry text done at_is splits here_is is text_is = record {
  before = done.before ++ here;
  splits = done.splits ∙ ap (λ (l : List PlacedNote). done.before ++ l) splits ∙ sym (append_assoc done.before here later);
  entries = subst (λ (l : List PlacedNote). AreStoredEntries first (calls ++ option_to_list entry.call) (done.before ++ l) (texts ++ text ∷ [])) (sym here_is)
      (entries_more first calls done.before texts entry at text done.entries is text_is at_is);
}

-- a call is rendered after the notes before it
pub call_rendered : (first : ℕ) (calls : List Call) (notes rest here later : List PlacedNote) (texts : List (List ℕ)) (at : ℕ) (call : Call) (text : List ℕ) → AreRendered first calls notes rest texts
    → at ≡ first + length calls → rest ≡ here ++ later → here ≡ placed_at at (notes_placed here) → AllByRecursion CanBeNote (notes_placed here) → text ≡ notes_text (notes_placed here) ++ call_text call
    → AreRendered first (calls ++ call ∷ []) notes later (texts ++ text ∷ [])
call_rendered first calls notes rest here later texts at call text done at_is splits here_is can text_is =
    rendered_more first calls notes rest here later texts at (record { notes = notes_placed here; call = Some call }) text done at_is splits here_is
    (record { notes = can; some = entry_some (notes_placed here) call }) (sym text_is)

-- all is rendered, and no notes are left
pub all_rendered : (first : ℕ) (calls : List Call) (notes rest : List PlacedNote) (texts : List (List ℕ)) → AreRendered first calls notes rest texts → rest ≡ [] → AreStoredEntries first calls notes texts
all_rendered first calls notes rest texts done none =
    subst (λ (l : List PlacedNote). AreStoredEntries first calls l texts) (sym (done.splits ∙ ap (λ (l : List PlacedNote). done.before ++ l) none ∙ append-nil done.before)) done.entries

-- all is rendered, with the notes after all calls
pub rest_rendered : (first : ℕ) (calls : List Call) (notes rest : List PlacedNote) (texts : List (List ℕ)) (at : ℕ) (text : List ℕ) → AreRendered first calls notes rest texts → at ≡ first + length calls
    → AreInPlace at at rest → 0 < length rest → AllByRecursion CanBeNote (notes_placed rest) → text ≡ notes_text (notes_placed rest) → AreStoredEntries first calls notes (texts ++ text ∷ [])
rest_rendered first calls notes rest texts at text done at_is place some can text_is =
    let entry : StoredEntry = record { notes = notes_placed rest; call = None } in
    let rendered : AreRendered first (calls ++ []) notes [] (texts ++ text ∷ []) =
    rendered_more first calls notes rest rest [] texts at entry text done at_is (sym (append-nil rest)) (all_placed at rest place) (record { notes = can; some = notes_some (notes_placed rest) [] (omega (arith, some, length-map rest (λ p. p.note))) })
    (append-nil (notes_text (notes_placed rest)) ∙ sym text_is) in
    all_rendered first calls notes [] (texts ++ text ∷ []) (subst (λ (l : List Call). AreRendered first l notes [] (texts ++ text ∷ [])) (append-nil calls) rendered) refl

-- how many calls the first entries of a history have
pub first_calls : (history : List (ℕ × Call)) (i : ℕ) → i ≤ length history → length (calls_of (take i history)) ≡ i
first_calls history i few = length-map (take i history) (λ e. e.1) ∙ length-take-le i history few
