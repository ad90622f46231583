-- A key's position among entries in chunks, from its position in one chunk.
use Rattle.camp_share.proofs.Words.{◌≡◌, ◌↔◌, ℕ, zero, suc, ◌+◌, ◌-◌, ◌<◌, ◌≤◌, Bool, true, false, true≢false, T, List, [], ◌∷◌, ◌++◌, length, get_or, slice_get, take, drop, IsTrue, Some, sym, ap, subst, ◌∙◌, refl, arith, length-append, length-drop, append-nil, drop_at, get_or-drop, take-append-drop, take_all, get_or_append_left, get_or_default, flat_map-append}
use Rattle.camp_share.proofs.Words.{All, Bor, Ordering, Less, Equal, Greater, ordering_reverse, Vec, is_lt, IsTotalOrder, is_sorted, find, joined, IsPart, IsAt, WouldBeAt, IsAbove}
use Rattle.camp_share.proofs.Entries.{first, second, is_less, above, missing}
use Rattle.camp_share.proofs.Found.{sorted_left, sorted_right, above_behind, above_both, above_split, above_would, would_behind, would_front, at_behind, at_front}
use Rattle.camp_share.proofs.PartLemmas.{closed_passed, divided_before, from_here, rest_from_here, up_to_here, part_is, length_grown, front_within}
use Rattle.camp_share.specs.Inside.Places.{passes, ends_below, IsBorder, IsPartFor}
use Rattle.std.specs.Fn.{Shared, FnReturnsAt}
use Rattle.std.proofs.lemmas.Option.{slice_get-get_or, slice_get_cases, slice_get_read}
use Rattle.std.proofs.Common.{Option, inl, inr}

less_told : (r : Ordering) → (is_lt r ≡ true → r ≡ Less) × (r ≡ Less → is_lt r ≡ true)
less_told Less = (λ h. refl, λ h. refl)
less_told Equal = (λ h. is_less Equal (subst T (sym h) tt), λ h. ap is_lt h)
less_told Greater = (λ h. is_less Greater (subst T (sym h) tt), λ h. ap is_lt h)

-- the last key of the last chunk is less than a key
abbrev pub last_ends_below : {K X Z : Type 0} → (K → K → Ordering) → List (Vec (K × X) Z) → K → Bool
last_ends_below order parts key = passes (λ part. ends_below order part.items key) (slice_get parts (length parts - 1))

-- the last element of a list that is not empty
last_of : {A : Type 0} (xs : List A) → 0 < length xs → (x : A) × (x ≡ get_or xs (length xs - 1) x) × (slice_get xs (length xs - 1) ≡ Some x)
last_of [] some = absurd (omega arith)
last_of (x ∷ xs) some =
    let end = length (x ∷ xs) - 1 in
    let y = get_or (x ∷ xs) end x in (y, get_or_default (x ∷ xs) end x y (omega arith), slice_get-get_or (x ∷ xs) end x (omega arith))

from_first : (P : ℕ → Type 0) (n : ℕ) → P 0 → ((m : ℕ) → n ≡ m + 1 → P (m + 1)) → P n
from_first P zero none some = none
from_first P (suc m) none some = subst P {x = m + 1} {y = suc m} (omega arith) (some m (omega arith))

-- a border of a closure's results is a border of the test that the closure computes
pub border_of : {F A : Type 0} (g : Shared F (Bor A × Unit {0}) Bool) (f : F) (test : A → Bool) (xs : List A) (n : ℕ) → ((y : Bor A) (b : Bool) → g.post f (y, tt) b → b ≡ test y.now)
    → IsBorder (λ x. FnReturnsAt g f x true) (λ x. FnReturnsAt g f x false) xs n n → IsBorder (λ x. test x ≡ true) (λ x. test x ≡ false) xs n n
border_of {F} {A} g f test xs n computes border =
    let told : (x : A) (b : Bool) → FnReturnsAt g f x b → test x ≡ b
    = λ x b said. subst (λ y. test y ≡ b) said.shows (sym (computes said.shown b said.says.met)) in
    (λ x some read. told x true (border.0 x some read), λ x more read. told x false (border.1 x more read))

module _ {K X : Type 0} (R : K → K → Ordering) (o : IsTotalOrder R) where
  -- a key is above sorted entries exactly if it is above the last of them
  by_last : (es : List (K × X)) (key : K) → T (is_sorted R es) → 0 < length es → IsTrue (ends_below R es key) ↔ IsAbove R es key
  by_last [] key sorted some = absurd (omega arith)
  by_last (e ∷ []) key sorted some = (λ yes. ((less_told _).0 yes, tt), λ all. (less_told _).1 all.0)
  by_last (e ∷ f ∷ es) key sorted some =
      let same : ends_below R (e ∷ f ∷ es) key ≡ ends_below R (f ∷ es) key = ap (λ n. passes (λ d. is_lt (R d.0 key)) (slice_get (e ∷ f ∷ es) n)) {x = suc (suc (length es)) - 1} {y = suc (suc (length es) - 1)} (omega arith) in
      let rest = by_last (f ∷ es) key (second _ _ sorted) (omega arith) in
      (λ yes. let all = rest.0 (sym same ∙ yes) in (o.trans e.0 f.0 key (is_less _ (first _ _ (first _ _ sorted))) all.0, all), λ all. same ∙ rest.1 all.1)

  -- the result of a binary search by a test of each item: is the key above the chunks up to the item's end?
  pub by_halves : {A Z : Type 0} (parts : List (Vec (K × X) Z)) (key : K) (start : ℕ → ℕ) → IsAbove R (joined (take (start 0) parts)) key → (xs : List A) (test : A → Bool)
      → ((i : ℕ) (x : A) → i < length xs → x ≡ get_or xs i x → IsTrue (test x) ↔ IsAbove R (joined (take (start (i + 1)) parts)) key)
      → (n : ℕ) → n ≤ length xs → IsBorder (λ y. test y ≡ true) (λ y. test y ≡ false) xs n n
      → IsAbove R (joined (take (start n) parts)) key × (n < length xs → ¬ (IsAbove R (joined (take (start (n + 1)) parts)) key))
  by_halves {A} parts key start begins xs test told n within border =
      let item : (i : ℕ) → i < length xs → (x : A) × (x ≡ get_or xs i x)
      = λ i inside. let d = (last_of xs (omega arith)).0 in (get_or xs i d, get_or_default xs i d _ inside) in (
        from_first (λ j. IsAbove R (joined (take (start j) parts)) key) n begins
            (λ m is. let x = item m (omega arith) in (told m x.0 (omega arith) x.1).0 (border.0 x.0 (omega arith) (x.1 ∙ ap (λ j. get_or xs j x.0) {x = m} {y = n - 1} (omega arith)))),
        λ inside all. let x = item n inside in true≢false (sym ((told n x.0 inside x.1).1 all) ∙ border.1 x.0 inside x.1),
      )

  -- if a key is above the first entries, its value is that in the rest
  find_behind : (key : K) (front rest : List (K × X)) → IsAbove R front key → find R key (front ++ rest) ≡ find R key rest
  find_behind key [] rest before = refl
  find_behind key (e ∷ es) rest before = rw (above R o e.0 key before.0) (find_behind key es rest before.1)

  find_at : (r : Ordering) (key : K) (e : K × X) (es rest : List (K × X)) → R key e.0 ≡ r → T (is_sorted R (e ∷ es ++ rest)) → ¬ (IsAbove R (e ∷ es) key)
      → (¬ (IsAbove R es key) → find R key (es ++ rest) ≡ find R key es) → find R key (e ∷ es ++ rest) ≡ find R key (e ∷ es)
  find_at Less key e es rest is sorted reached further = rw is (missing R o key e.0 (es ++ rest) is (first _ _ sorted) ∙ sym (missing R o key e.0 es is (first _ _ (sorted_left R (e ∷ es) rest sorted))))
  find_at Equal key e es rest is sorted reached further = rw is refl
  find_at Greater key e es rest is sorted reached further = rw is (further (λ all. reached (o.antisymm e.0 key ∙ ap ordering_reverse is, all)))

  -- if a key is not above the first entries, it has no value in the rest
  find_front : (key : K) (es rest : List (K × X)) → T (is_sorted R (es ++ rest)) → ¬ (IsAbove R es key) → find R key (es ++ rest) ≡ find R key es
  find_front key [] rest sorted reached = absurd (reached tt)
  find_front key (e ∷ es) rest sorted reached = find_at (R key e.0) key e es rest refl sorted reached (find_front key es rest (second _ _ sorted))

  module _ {Z : Type 0} (parts : List (Vec (K × X) Z)) (sorted : T (is_sorted R (joined parts))) (key : K) (index : ℕ) where
    sorted_one_further : T (is_sorted R (joined (take (index + 1) parts)))
    sorted_one_further =
        sorted_left R (joined (take (index + 1) parts)) (joined (drop (index + 1) parts))
        (subst (λ xs. T (is_sorted R xs)) (ap joined (sym (take-append-drop (index + 1) parts)) ∙ flat_map-append (λ (p : Vec (K × X) Z). p.items) (take (index + 1) parts) (drop (index + 1) parts)) sorted)

    module _ (part : Vec (K × X) Z) (within : index < length parts) (read : part ≡ get_or parts index part) where
      divided : joined parts ≡ joined (take index parts) ++ (part.items ++ joined (drop (index + 1) parts))
      divided =
          ap joined (sym (take-append-drop index parts)) ∙ flat_map-append (λ (p : Vec (K × X) Z). p.items) (take index parts) (drop index parts)
          ∙ ap (λ xs. joined (take index parts) ++ xs) (from_here parts index part within read)

      pub part_sorted : T (is_sorted R part.items)
      part_sorted =
          sorted_left R part.items (joined (drop (index + 1) parts))
          (sorted_right R (joined (take index parts)) (part.items ++ joined (drop (index + 1) parts)) (subst (λ xs. T (is_sorted R xs)) divided sorted))

      above_part : 0 < length part.items → IsAbove R part.items key → IsAbove R (joined (take (index + 1) parts)) key
      above_part some all =
          let grown = up_to_here parts index part within read in
          subst (λ xs. IsAbove R xs key) (sym grown)
          (above_behind R o key (joined (take index parts)) part.items some (subst (λ xs. T (is_sorted R xs)) grown sorted_one_further) all)

      -- a key is above all entries up to the end of a chunk exactly if it is above the chunk's last key
      pub tells : IsPart part → IsTrue (ends_below R part.items key) ↔ IsAbove R (joined (take (index + 1) parts)) key
      tells is =
          let last = by_last part.items key part_sorted is.0 in (
            λ yes. above_part is.0 (last.0 yes),
            λ all. last.1 (above_split R key (joined (take index parts)) part.items (subst (λ xs. IsAbove R xs key) (up_to_here parts index part within read) all)).1,
          )

      pub at_in_part : (place : ℕ) → IsAt part.items key place → IsAt (joined parts) key (length (joined (take index parts)) + place)
      at_in_part place here =
          subst (λ xs. IsAt xs key (length (joined (take index parts)) + place)) (sym divided)
          (at_behind key (joined (take index parts)) (part.items ++ joined (drop (index + 1) parts)) place _ refl (at_front key part.items (joined (drop (index + 1) parts)) place here))

      pub gap_in_part : (place : ℕ) → IsAbove R (joined (take index parts)) key → ¬ (IsAbove R (joined (take (index + 1) parts)) key) → WouldBeAt R part.items key place → WouldBeAt R (joined parts) key (length (joined (take index parts)) + place)
      gap_in_part place before reached here =
          subst (λ xs. WouldBeAt R xs key (length (joined (take index parts)) + place)) (sym divided)
          (would_behind R key (joined (take index parts)) (part.items ++ joined (drop (index + 1) parts)) place _ refl before (would_front R key part.items (joined (drop (index + 1) parts)) place (λ all. reached (subst (λ xs. IsAbove R xs key) (sym (up_to_here parts index part within read)) (above_both R key _ part.items before all))) here))

      -- the value of a key in the chunk is its value in the map
      pub value_in_part : IsAbove R (joined (take index parts)) key → ¬ (IsAbove R (joined (take (index + 1) parts)) key) → find R key part.items ≡ find R key (joined parts)
      value_in_part before reached =
          let front = joined (take index parts) in
          let rest = joined (drop (index + 1) parts) in
          sym
          (ap (find R key) divided ∙ find_behind key front (part.items ++ rest) before
          ∙ find_front key part.items rest (sorted_right R front (part.items ++ rest) (subst (λ xs. T (is_sorted R xs)) divided sorted))
          (λ all. reached (subst (λ xs. IsAbove R xs key) (sym (up_to_here parts index part within read)) (above_both R key _ part.items before all))))

    pub gap_at_end : length parts ≤ index → IsAbove R (joined (take index parts)) key → WouldBeAt R (joined parts) key (length (joined (take index parts)))
    gap_at_end past before =
        let all : joined (take index parts) ≡ joined parts = ap joined (take_all index parts past) in
        subst (λ xs. WouldBeAt R xs key (length (joined (take index parts)))) all (above_would R key (joined (take index parts)) _ refl before)

  -- the chunks after those that were skipped, to which the search is limited
  pub record Stands {Z : Type 0} (parts : List (Vec (K × X) Z)) (key : K) (passed : ℕ) (some : List (Vec (K × X) Z)) : Type 0 where
    pub rest : List (Vec (K × X) Z)
    pub stand : drop passed parts ≡ some ++ rest
    pub inside : passed ≤ length parts
    pub before : IsAbove R (joined (take passed parts)) key
    pub ends : passed + length some < length parts → ¬ (IsAbove R (joined (take (passed + length some) parts)) key)

  module _ {Z : Type 0} (parts : List (Vec (K × X) Z)) (sorted : T (is_sorted R (joined parts))) (all : All IsPart parts) (key : K) where
    -- a key is above all entries up to the end of a chunk exactly if it is above its last key, in chunks after others
    tells_behind : (some rest : List (Vec (K × X) Z)) (passed : ℕ) → drop passed parts ≡ some ++ rest → (i : ℕ) (part : Vec (K × X) Z) → i < length some → part ≡ get_or some i part → IsTrue (ends_below R part.items key) ↔ IsAbove R (joined (take (passed + i + 1) parts)) key
    tells_behind some rest passed stand i part within read =
        let inside : passed + i < length parts = omega (arith, length-drop passed parts, ap length stand ∙ length-append some rest) in
        let got = read ∙ sym (get_or_append_left some rest part i within) ∙ ap (λ ps. get_or ps i part) (sym stand) ∙ get_or-drop passed parts i part in
        tells parts sorted key (passed + i) part inside got (part_is parts (passed + i) part inside got all)

    module _ {W : Type 0} (closed : List (Vec (Vec (K × X) Z) W)) (last : List (Vec (K × X) Z)) (whole : joined closed ++ last ≡ parts) where
      -- the chunks from a sealed one on
      behind : (i : ℕ) → drop (length (joined (take i closed))) parts ≡ joined (drop i closed) ++ last
      behind i = ap (drop (length (joined (take i closed)))) (sym whole ∙ divided_before closed last i) ∙ drop_at (joined (take i closed)) (joined (drop i closed) ++ last) (length (joined (take i closed))) refl

      -- a key is above all entries up to the end of a sealed group exactly if it is above the last key of its last
      -- chunk
      tells_group : All IsPart closed → (i : ℕ) (group : Vec (Vec (K × X) Z) W) → i < length closed → group ≡ get_or closed i group → IsTrue (last_ends_below R group.items key) ↔ IsAbove R (joined (take (length (joined (take (i + 1) closed))) parts)) key
      tells_group groups i group within read =
          let some = (part_is closed i group within read groups).0 in
          let end = last_of group.items some in
          let before = length (joined (take i closed)) in
          subst (λ n. IsTrue (last_ends_below R group.items key) ↔ IsAbove R (joined (take n parts)) key) {x = before + (length group.items - 1) + 1} {y = length (joined (take (i + 1) closed))} (omega (arith, length_grown closed i group within read))
          (subst (λ (b : Bool). IsTrue b ↔ IsAbove R (joined (take (before + (length group.items - 1) + 1) parts)) key) (sym (ap (passes (λ part. ends_below R part.items key)) end.2))
          (tells_behind group.items _ before (behind i ∙ rest_from_here closed last i group within read) (length group.items - 1) end.0 (omega arith) end.1))

      module _ (groups : All IsPart closed) (i : ℕ) (within : i ≤ length closed) (border : IsBorder (λ group. last_ends_below R group.items key ≡ true) (λ group. last_ends_below R group.items key ≡ false) closed i i) where
        group_found : IsAbove R (joined (take (length (joined (take i closed))) parts)) key × (i < length closed → ¬ (IsAbove R (joined (take (length (joined (take (i + 1) closed))) parts)) key))
        group_found =
            by_halves parts key (λ n. length (joined (take n closed))) tt
            closed (λ group. last_ends_below R group.items key) (tells_group groups) i within border

        inside_all : length (joined (take i closed)) ≤ length parts
        inside_all = omega (arith, front_within closed i, ap length (sym whole) ∙ length-append (joined closed) last)

        pub stands_group : (group : Vec (Vec (K × X) Z) W) → i < length closed → group ≡ get_or closed i group → Stands parts key (length (joined (take i closed))) group.items
        stands_group group before read = record {
          rest = joined (drop (i + 1) closed) ++ last;
          stand = behind i ∙ rest_from_here closed last i group before read;
          inside = inside_all;
          before = group_found.0;
          ends = λ more. subst (λ n. ¬ (IsAbove R (joined (take n parts)) key)) (length_grown closed i group before read) (group_found.1 before);
        }

        pub stands_last : length closed ≤ i → Stands parts key (length (joined (take i closed))) last
        stands_last past = record {
          rest = [];
          stand = behind i ∙ closed_passed closed last i past ∙ sym (append-nil last);
          inside = inside_all;
          before = group_found.0;
          ends = λ more. absurd (omega (arith, ap length whole, length-append (joined closed) last, ap (λ ps. length (joined ps)) (take_all i closed past)));
        }

    -- the chunk that is found among them
    module _ (some : List (Vec (K × X) Z)) (passed : ℕ) (s : Stands parts key passed some) (found : ℕ) (within : found ≤ length some) where
      found_within : passed + found ≤ length parts
      found_within = omega (arith, s.inside, length-drop passed parts, ap length s.stand ∙ length-append some s.rest)

      found_there : IsBorder (λ part. ends_below R part.items key ≡ true) (λ part. ends_below R part.items key ≡ false) some found found
          → IsAbove R (joined (take (passed + found) parts)) key × (passed + found < length parts → ¬ (IsAbove R (joined (take (passed + found + 1) parts)) key))
      found_there border =
          let up_to = λ (n : ℕ). IsAbove R (joined (take n parts)) key in
          let there = by_halves parts key (λ n. passed + n) (subst up_to {x = passed} {y = passed + 0} (omega arith) s.before)
          some (λ part. ends_below R part.items key)
          (λ i part inside read. subst (λ n. IsTrue (ends_below R part.items key) ↔ up_to n) {x = passed + i + 1} {y = passed + (i + 1)} (omega arith) (tells_behind some s.rest passed s.stand i part inside read))
          found within border in (
            there.0,
            λ more above. from_first (λ left. found + left ≡ length some → ⊥) (length some - found)
                (λ is. s.ends (omega arith) (subst up_to {x = passed + found} {y = passed + length some} (omega arith) there.0))
                (λ m less is. there.1 (omega arith) (subst up_to {x = passed + found + 1} {y = passed + (found + 1)} (omega arith) above))
                (omega arith),
          )

      -- the found chunk among them is the found chunk of the whole list, or neither exists
      pub found_part : IsBorder (λ part. ends_below R part.items key ≡ true) (λ part. ends_below R part.items key ≡ false) some found found → slice_get some found ≡ slice_get parts (passed + found)
      found_part border = elim (slice_get_cases some found).1 [
        | inl here ↦
            let got = sym here.3 ∙ sym (get_or_append_left some s.rest here.0 found here.1) ∙ ap (λ ps. get_or ps found here.0) (sym s.stand) ∙ get_or-drop passed parts found here.0 in
            here.2 ∙ sym (slice_get_read parts (length parts) (passed + found) here.0 refl (omega (arith, here.1, length-drop passed parts, ap length s.stand ∙ length-append some s.rest)) got)
        | inr past ↦ elim (slice_get_cases parts (passed + found)).1 [
          | inl more ↦ absurd (s.ends (omega (arith, past.0, more.1)) (subst (λ n. IsAbove R (joined (take n parts)) key) {x = passed + found} {y = passed + length some} (omega (arith, past.0)) (found_there border).0))
          | inr end ↦ past.1 ∙ sym end.1
        ]
      ]

      pub part_found : IsBorder (λ part. ends_below R part.items key ≡ true) (λ part. ends_below R part.items key ≡ false) some found found → (part : Option (Vec (K × X) Z)) → part ≡ slice_get some found → IsPartFor R parts key (passed + found) part
      part_found border part read = record {
        within = found_within;
        read = read ∙ found_part border;
        before = (found_there border).0;
        reached = (found_there border).1;
      }
