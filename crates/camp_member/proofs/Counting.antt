-- Lemmas on the entries of a log that count.
use Rattle.std.proofs.Common.{◌≡◌, ◌≢◌, ℕ, zero, suc, ◌+◌, ◌==◌, Bool, true, false, List, [], ◌∷◌, ◌++◌, length, Option, Some, None, if◌then◌else◌, refl, sym, ◌∙◌, ap, subst, arith, eq-eqb}
use Rattle.std.specs.Prelude.{slice_get}
use Rattle.std.proofs.lemmas.Bool.{eqb-true, ne_eqb}
use Rattle.std.proofs.lemmas.Option.{same_Some}
use Rattle.std.proofs.lemmas.List.{append-nil, length-append}
use Rattle.std.proofs.lemmas.List.Elements.{filter-append}
use Rattle.camp_member.specs.Entries.{Tagged, IsForeign, IsReadableAfter, counted_entries, counted_after, counted_with, last_of, of_seat}

pub from_eqb : (a b : ℕ) → a == b ≡ true → a ≡ b
from_eqb a b is = eqb-true a b is

module _ {Call : Type 0} where
  pub counted_after-append : (before : List (Tagged Call)) (log rest : List (Option (Tagged Call))) → counted_after before (log ++ rest) ≡ counted_after (counted_after before log) rest
  counted_after-append before [] rest = refl
  counted_after-append before (found ∷ log) rest = counted_after-append (counted_with before found) log rest

  pub readable-append : (before : List (Tagged Call)) (log : List (Option (Tagged Call))) (found : Option (Tagged Call)) → IsReadableAfter before log → ¬ (IsForeign (last_of (counted_after before log)) found)
      → IsReadableAfter before (log ++ found ∷ [])
  readable-append before [] found readable known = (known, tt)
  readable-append before (x ∷ log) found readable known = (readable.0, readable-append (counted_with before x) log found readable.1 known)

  pub readable-last : (before : List (Tagged Call)) (log : List (Option (Tagged Call))) (found : Option (Tagged Call)) → IsReadableAfter before (log ++ found ∷ []) → ¬ (IsForeign (last_of (counted_after before log)) found)
  readable-last before [] found readable = readable.0
  readable-last before (x ∷ log) found readable = readable-last (counted_with before x) log found readable.1

  -- an entry with the next number is added
  pub counted_next : (before : List (Tagged Call)) (entry : Tagged Call) → entry.number ≡ last_of before entry.seat + 1 → counted_with before (Some entry) ≡ before ++ entry ∷ []
  counted_next before entry next = ap (λ (b : Bool). if b then before ++ entry ∷ [] else before) (eq-eqb entry.number (last_of before entry.seat + 1) next)

  -- any other is not
  pub counted_other : (before : List (Tagged Call)) (entry : Tagged Call) → entry.number ≢ last_of before entry.seat + 1 → counted_with before (Some entry) ≡ before
  counted_other before entry differs = ap (λ (b : Bool). if b then before ++ entry ∷ [] else before) (ne_eqb entry.number (last_of before entry.seat + 1) differs)

  pub of_seat-push : (entries : List (Tagged Call)) (entry : Tagged Call) (seat : ℕ) → of_seat seat (entries ++ entry ∷ []) ≡ of_seat seat entries ++ (if entry.seat == seat then entry ∷ [] else [])
  of_seat-push entries entry seat = filter-append (λ e. e.seat == seat) entries (entry ∷ [])

  -- the entries of a seat after one more of it
  pub last_of-same : (entries : List (Tagged Call)) (entry : Tagged Call) (seat : ℕ) → entry.seat ≡ seat → last_of (entries ++ entry ∷ []) seat ≡ last_of entries seat + 1
  last_of-same entries entry seat same =
      let all = ap length (of_seat-push entries entry seat ∙ ap (λ (b : Bool). of_seat seat entries ++ (if b then entry ∷ [] else [])) (eq-eqb entry.seat seat same)) in
      let parts = length-append (of_seat seat entries) (entry ∷ []) in
      omega arith

  pub last_of-other : (entries : List (Tagged Call)) (entry : Tagged Call) (seat : ℕ) → entry.seat ≢ seat → last_of (entries ++ entry ∷ []) seat ≡ last_of entries seat
  last_of-other entries entry seat differs =
      ap length (of_seat-push entries entry seat ∙ ap (λ (b : Bool). of_seat seat entries ++ (if b then entry ∷ [] else [])) (ne_eqb entry.seat seat differs) ∙ append-nil (of_seat seat entries))

  -- the entries of a seat have the numbers 1, 2, .. in order
  abbrev pub AreNumbered : ℕ → List (Tagged Call) → Type 0
  AreNumbered before [] = Unit {0}
  AreNumbered before (entry ∷ entries) = (entry.number ≡ before + 1) × AreNumbered (before + 1) entries

  numbered-push : (before : ℕ) (entries : List (Tagged Call)) (entry : Tagged Call) → AreNumbered before entries → entry.number ≡ before + length entries + 1 → AreNumbered before (entries ++ entry ∷ [])
  numbered-push before [] entry are next = (omega (arith, next), tt)
  numbered-push before (x ∷ entries) entry are next = (are.0, numbered-push (before + 1) entries entry are.1 (omega (arith, next)))

  numbered-with : (seat : ℕ) (before : List (Tagged Call)) (found : Option (Tagged Call)) → AreNumbered 0 (of_seat seat before) → AreNumbered 0 (of_seat seat (counted_with before found))
  numbered-with seat before None are = are
  numbered-with seat before (Some entry) are =
      elim (entry.number == last_of before entry.seat + 1) as (λ b. entry.number == last_of before entry.seat + 1 ≡ b → AreNumbered 0 (of_seat seat (if b then before ++ entry ∷ [] else before))) [
        | true ↦ λ is.
            let P : List (Tagged Call) → Type 0 = λ list. AreNumbered 0 list in
            subst P (sym (of_seat-push before entry seat)) (
            elim (entry.seat == seat) as (λ b. entry.seat == seat ≡ b → AreNumbered 0 (of_seat seat before ++ (if b then entry ∷ [] else []))) [
              | true ↦ λ same. let next : entry.number ≡ last_of before seat + 1 = from_eqb entry.number (last_of before entry.seat + 1) is ∙ ap (λ s. last_of before s + 1) (from_eqb entry.seat seat same) in numbered-push 0 (of_seat seat before) entry are (omega (arith, next))
              | false ↦ λ differs. subst P (sym (append-nil (of_seat seat before))) are
            ] refl
            )
        | false ↦ λ is. are
      ] refl

  pub numbered-after : (seat : ℕ) (before : List (Tagged Call)) (log : List (Option (Tagged Call))) → AreNumbered 0 (of_seat seat before) → AreNumbered 0 (of_seat seat (counted_after before log))
  numbered-after seat before [] are = are
  numbered-after seat before (found ∷ log) are = numbered-after seat (counted_with before found) log (numbered-with seat before found are)

  numbered_at : (before : ℕ) (entries : List (Tagged Call)) (index : ℕ) (entry : Tagged Call) → AreNumbered before entries → slice_get entries index ≡ Some entry → entry.number ≡ before + index + 1
  numbered_at before [] index entry are is = cc
  numbered_at before (x ∷ entries) zero entry are is = let same = ap (λ (e : Tagged Call). e.number) (same_Some x entry is) in let first = are.0 in omega arith
  numbered_at before (x ∷ entries) (suc index) entry are is = let further = numbered_at (before + 1) entries index entry are.1 is in omega arith

  pub each_tag_once : (log : List (Option (Tagged Call))) (seat index : ℕ) (entry : Tagged Call) → slice_get (of_seat seat (counted_entries log)) index ≡ Some entry → entry.number ≡ index + 1
  each_tag_once log seat index entry is = let at = numbered_at 0 (of_seat seat (counted_entries log)) index entry (numbered-after seat [] log tt) is in omega (arith, at)
