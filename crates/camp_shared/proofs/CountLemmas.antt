-- Entries that count, and those that come again.
use Rattle.std.proofs.Common.{◌≡◌, ℕ, ◌+◌, ◌≤◌, ◌==◌, Bool, true, false, List, [], ◌∷◌, ◌++◌, length, Option, None, Some, if◌then◌else◌, refl, ap, ◌∙◌, arith, inl, inr}
use Rattle.std.proofs.lemmas.Bool.{cases_lt}
use Rattle.std.proofs.lemmas.List.{length-append}
use Rattle.camp_member.specs.Entries.{Tagged, IsForeign, IsReadable, IsReadableAfter, counted_after, counted_entries, counted_with, last_of, of_seat}
use Rattle.camp_member.proofs.Counting.{counted_after-append, counted_next, counted_other, last_of-same, of_seat-push}

module _ {Call : Type 0} where
  -- a log that is readable is so up to each of its entries
  pub readable_first : (before : List (Tagged Call)) (log rest : List (Option (Tagged Call))) → IsReadableAfter before (log ++ rest) → IsReadableAfter before log
  readable_first before [] rest readable = tt
  readable_first before (found ∷ log) rest readable = (readable.0, readable_first (counted_with before found) log rest readable.1)

  pub readable_rest : (before : List (Tagged Call)) (log rest : List (Option (Tagged Call))) → IsReadableAfter before (log ++ rest) → IsReadableAfter (counted_after before log) rest
  readable_rest before [] rest readable = readable
  readable_rest before (found ∷ log) rest readable = readable_rest (counted_with before found) log rest readable.1

  -- no entry takes a number of a seat back
  with_grows : (seat : ℕ) (before : List (Tagged Call)) (found : Option (Tagged Call)) → last_of before seat ≤ last_of (counted_with before found) seat
  with_grows seat before None = omega arith
  with_grows seat before (Some entry) =
      elim (entry.number == last_of before entry.seat + 1) as (λ (b : Bool). last_of before seat ≤ last_of (if b then before ++ entry ∷ [] else before) seat) [
        | true ↦
            let all = ap length (of_seat-push before entry seat) in
            let parts = length-append (of_seat seat before) (if entry.seat == seat then entry ∷ [] else []) in
            omega (arith, all, parts)
        | false ↦ omega arith
      ]

  last_grows : (seat : ℕ) (before : List (Tagged Call)) (log : List (Option (Tagged Call))) → last_of before seat ≤ last_of (counted_after before log) seat
  last_grows seat before [] = omega arith
  last_grows seat before (found ∷ log) =
      let one = with_grows seat before found in
      let more = last_grows seat (counted_with before found) log in
      omega (arith, one, more)

  -- an entry that is not foreign has at most the next number of its seat, so that number is taken after it
  taken_by : (before : List (Tagged Call)) (entry : Tagged Call) → ¬ (IsForeign (last_of before) (Some entry)) → entry.number ≤ last_of (counted_with before (Some entry)) entry.seat
  taken_by before entry known =
      elim (cases_lt (last_of before entry.seat) entry.number) as (λ _. entry.number ≤ last_of (counted_with before (Some entry)) entry.seat) [
        | inl above ↦
            elim (cases_lt (last_of before entry.seat + 1) entry.number) as (λ _. entry.number ≤ last_of (counted_with before (Some entry)) entry.seat) [
              | inl beyond ↦ absurd (known (
                λ counts. let is = counts.1 in omega (arith, is, beyond),
                λ repeated. let is = repeated.1 in omega (arith, is, above),
              ))
              | inr within ↦
                  let next : entry.number ≡ last_of before entry.seat + 1 = omega (arith, above, within) in
                  let same = ap (λ (list : List (Tagged Call)). last_of list entry.seat) (counted_next before entry next) in
                  let one = last_of-same before entry entry.seat refl in
                  omega (arith, next, same, one)
            ]
        | inr below ↦ let grows = with_grows entry.seat before (Some entry) in omega (arith, below, grows)
      ]

  -- an entry counts or is repeated where it stands, and one with its tag after it is repeated
  pub again_adds_none : (log between : List (Option (Tagged Call))) (entry again : Tagged Call) → IsReadable (log ++ Some entry ∷ between) → again.seat ≡ entry.seat → again.number ≡ entry.number
      → counted_entries ((log ++ Some entry ∷ between) ++ Some again ∷ []) ≡ counted_entries (log ++ Some entry ∷ between)
  again_adds_none log between entry again readable seat number =
      let before : List (Tagged Call) = counted_after [] log in
      let taken = taken_by before entry ((readable_rest [] log (Some entry ∷ between) readable).0) in
      let grows = last_grows entry.seat (counted_with before (Some entry)) between in
      let all : counted_entries (log ++ Some entry ∷ between) ≡ counted_after (counted_with before (Some entry)) between = counted_after-append [] log (Some entry ∷ between) in
      let last = ap (λ (list : List (Tagged Call)). last_of list entry.seat) all in
      let same = ap (λ s. last_of (counted_entries (log ++ Some entry ∷ between)) s) seat in
      counted_after-append [] (log ++ Some entry ∷ between) (Some again ∷ [])
      ∙ counted_other (counted_entries (log ++ Some entry ∷ between)) again (λ next. omega (arith, taken, grows, last, same, number, next))
