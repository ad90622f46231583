-- The map of notes that are taken one after the other.
use Rattle.std.specs.Prelude.{T, cond}
use Rattle.std.proofs.Common.{◌≡◌, ℕ, Bool, true, false, ◌&&◌, List, [], ◌∷◌, ◌++◌, map, refl, sym, ap, subst, ◌∙◌, Option, None, Some}
use Rattle.std.proofs.lemmas.List.{map-append}
use Rattle.std.specs.Ordering.{eq_by_cmp, is_eq, is_lt, nat_cmp}
use Rattle.std.specs.declared.cmp.Ordering.TheVariants.{Less, Equal, Greater}
use Rattle.std.specs.Cmp.Lexicographic.{nat_list_cmp_total, slice_cmp}
use Rattle.std.specs.FinMap.{empty, entries, entries_sorted, get, get-empty, get-entries, get-insert, insert, nat_cmp-IsAntisymmetric, same_map, slice_cmp-IsAntisymmetric}
use Rattle.std.specs.FinMap.Entries.{below_all, find, is_sorted}
use Rattle.std.specs.List.{AllByRecursion}
use Rattle.camp_notes.specs.Faults.{AreNotesOf}
use Rattle.camp_notes.specs.Logs.{notes_placed}
use Rattle.camp_notes.specs.Notes.{CanBeNote, NoteTexts, note_of, notes_in, with_notes}
use Rattle.camp_notes.specs.Texts.{notes_text}
use Rattle.camp_notes.specs.declared.logs.PlacedNote.{PlacedNote}
use Rattle.camp_notes.specs.declared.notes.Note.{Note}

-- an entry if it was found, else another
abbrev or_else : Option (List ℕ) → Option (List ℕ) → Option (List ℕ)
or_else None other = other
or_else (Some text) other = Some text

or_none : (found : Option (List ℕ)) → or_else found None ≡ found
or_none None = refl
or_none (Some text) = refl

taken_last : (b : Bool) (found other : Option (List ℕ)) (text : List ℕ) → (b ≡ true → found ≡ None) → or_else found (cond b (Some text) other) ≡ or_else (cond b (Some text) found) other
taken_last true found other text none = ap (λ (f : Option (List ℕ)). or_else f (Some text)) (none refl)
taken_last false found other text none = refl

rest_of_and : (a b : Bool) → T (a && b) → T b
rest_of_and true b h = h
rest_of_and false b h = absurd h

first_of_and : (a b : Bool) → T (a && b) → T a
first_of_and true b h = tt
first_of_and false b h = h

-- a name below all others is none of them
unfound : (name : List ℕ) (es : List (List ℕ × List ℕ)) → T (below_all (slice_cmp nat_cmp) name es) → find (slice_cmp nat_cmp) name es ≡ None
unfound name [] below = refl
unfound name (e ∷ es) below =
    elim (slice_cmp nat_cmp name e.0) as (λ o. T (is_lt o && below_all (slice_cmp nat_cmp) name es) → cond (is_eq o) (Some e.1) (find (slice_cmp nat_cmp) name es) ≡ None) [
      | Less ↦ λ t. unfound name es t
      | Equal ↦ λ t. absurd t
      | Greater ↦ λ t. absurd t
    ] below

tied : (name other : List ℕ) → eq_by_cmp (slice_cmp nat_cmp) name other ≡ true → name ≡ other
tied name other same =
    slice_cmp-IsAntisymmetric nat_cmp-IsAntisymmetric name other
    (elim (slice_cmp nat_cmp name other) as (λ o. T (is_eq o) → o ≡ Equal) [
      | Less ↦ λ t. absurd t
      | Equal ↦ λ t. refl
      | Greater ↦ λ t. absurd t
    ] (subst T (sym same) tt))

-- what is found after entries were inserted
gets_after : (m : NoteTexts) (es : List (List ℕ × List ℕ)) (name : List ℕ) → T (is_sorted (slice_cmp nat_cmp) es) → get (with_notes m (map note_of es)) name ≡ or_else (find (slice_cmp nat_cmp) name es) (get m name)
gets_after m [] name sorted = refl
gets_after m (e ∷ es) name sorted =
    gets_after (insert m e.0 e.1) es name (rest_of_and (below_all (slice_cmp nat_cmp) e.0 es) (is_sorted (slice_cmp nat_cmp) es) sorted)
    ∙ ap (λ (o : Option (List ℕ)). or_else (find (slice_cmp nat_cmp) name es) o) (get-insert nat_list_cmp_total m e.0 e.1 name)
    ∙ taken_last (eq_by_cmp (slice_cmp nat_cmp) name e.0) (find (slice_cmp nat_cmp) name es) (get m name) e.1
    (λ same. subst (λ (n : List ℕ). find (slice_cmp nat_cmp) n es ≡ None) (sym (tied name e.0 same)) (unfound e.0 es (first_of_and (below_all (slice_cmp nat_cmp) e.0 es) (is_sorted (slice_cmp nat_cmp) es) sorted)))

pub make_their_map : (texts : NoteTexts) → with_notes empty (notes_in texts) ≡ texts
make_their_map texts =
    same_map nat_list_cmp_total (slice_cmp-IsAntisymmetric nat_cmp-IsAntisymmetric) (with_notes empty (notes_in texts)) texts
    (λ name. gets_after empty (entries texts) name (entries_sorted texts)
    ∙ ap (λ (o : Option (List ℕ)). or_else (find (slice_cmp nat_cmp) name (entries texts)) o) (get-empty {X = List ℕ} (slice_cmp nat_cmp) name)
    ∙ or_none (find (slice_cmp nat_cmp) name (entries texts))
    ∙ sym (get-entries texts name))

-- notes that are parsed from the text of a map make the map
pub maps_back : (texts : NoteTexts) (notes : List Note) → AllByRecursion CanBeNote (notes_in texts) → AreNotesOf (notes_text (notes_in texts)) notes → with_notes empty notes ≡ texts
maps_back texts notes can parsed =
    ap (λ (l : List Note). with_notes empty l) (parsed.2 (notes_in texts) can refl) ∙ make_their_map texts

-- one more note
pub with_one_more : (m : NoteTexts) (notes : List Note) (note : Note) → insert (with_notes m notes) note.name note.text ≡ with_notes m (notes ++ note ∷ [])
with_one_more m [] note = refl
with_one_more m (n ∷ notes) note = with_one_more (insert m n.name n.text) notes note

-- one more note of a log
pub one_more_placed : (placed : List PlacedNote) (one : PlacedNote) → insert (with_notes empty (notes_placed placed)) one.note.name one.note.text ≡ with_notes empty (notes_placed (placed ++ one ∷ []))
one_more_placed placed one =
    with_one_more empty (notes_placed placed) one.note
    ∙ ap (λ (l : List Note). with_notes empty l) (sym (map-append (λ (p : PlacedNote). p.note) placed (one ∷ [])))
