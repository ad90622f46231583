-- From the chunk found for a key to the result of the lookup.
use Rattle.camp_share.proofs.Words.{◌≡◌, ℕ, ◌+◌, ◌<◌, ◌≤◌, T, List, None, Option, Some, length, get_or, ap, subst, sym, ◌∙◌, arith, add-zero, Ordering, Vec, IsTotalOrder, is_sorted, find, joined, IsAt, WouldBeAt}
use Rattle.camp_share.proofs.Entries.{at_within, would_be_within}
use Rattle.camp_share.proofs.PartLemmas.{read_twice, place_inside, place_at_end}
use Rattle.camp_share.proofs.Parted.{part_sorted, at_in_part, gap_in_part, gap_at_end, value_in_part}
use Rattle.camp_share.specs.Inside.Places.{IsInPart, IsPartFor, WouldBeInPart}
use Rattle.std.proofs.Common.{inl, inr}
use Rattle.std.proofs.lemmas.Option.{get_or_from_slice_get, none-some, slice_get_cases, slice_get_within}

module _ {K X Z : Type 0} (R : K → K → Ordering) (o : IsTotalOrder R) (parts : List (Vec (K × X) Z)) (sorted : T (is_sorted R (joined parts))) (key : K) (index : ℕ) (found_part : Option (Vec (K × X) Z)) (at : ℕ) (told : IsPartFor R parts key at found_part) (same : index ≡ at) where
  found : IsPartFor R parts key index found_part
  found = subst (λ n. IsPartFor R parts key n found_part) (sym same) told

  -- if no chunk is found, the key is above all entries
  pub behind_all : found_part ≡ None → WouldBeInPart R parts key index 0
  behind_all none =
      let past : length parts ≤ index = elim (slice_get_cases parts index).1 [ inl w ↦ absurd (none-some w.0 (sym none ∙ found.read ∙ w.2)) | inr w ↦ w.0 ] in
      (place_at_end parts index (omega (arith, found.within, past)), rw add-zero (gap_at_end R o parts sorted key index past found.before))

  module _ (part : Vec (K × X) Z) (some : found_part ≡ Some part) (entries : List (K × X)) (is : entries ≡ part.items) where
    within : index < length parts
    within = slice_get_within parts index part (sym found.read ∙ some)

    read : part ≡ get_or parts index part
    read = sym (get_or_from_slice_get parts index part part (sym found.read ∙ some))

    pub entries_sorted : T (is_sorted R entries)
    entries_sorted = subst (λ es. T (is_sorted R es)) (sym is) (part_sorted R o parts sorted key index part within read)

    -- a key that is not in the chunk is not in the map
    pub gap_found : (place : ℕ) → WouldBeAt R entries key place → WouldBeInPart R parts key index place
    gap_found place would =
        let gap = subst (λ es. WouldBeAt R es key place) is would in
        (place_inside parts index part within read place (would_be_within R part.items key place gap), gap_in_part R o parts sorted key index part within read place found.before (found.reached within) gap)

    -- a key that is in the chunk
    pub entry_found : (place : ℕ) → IsAt entries key place → IsInPart parts key index place
    entry_found place there =
        let here = subst (λ es. IsAt es key place) is there in
        let inside = at_within part.items key place here in
        (within, λ other again. subst (λ (p : Vec (K × X) Z). IsAt p.items key place) (read_twice parts index part other within read again) here, at_in_part R o parts sorted key index part within read place here, place_inside parts index part within read (place + 1) (omega (arith, inside)))

    -- its value in the chunk is its value in the map
    pub value_is : find R key entries ≡ find R key (joined parts)
    value_is = ap (find R key) is ∙ value_in_part R o parts sorted key index part within read found.before (found.reached within)
