-- Elements and ranges of lists in chunks.
use Rattle.camp_share.proofs.Words.{◌≡◌, ℕ, suc, ◌+◌, ◌-◌, ◌<◌, ◌≤◌, List, [], ◌∷◌, ◌++◌, length, get_or, set, take, drop, Option, None, Some, Result, Ok, Err, IfOk, Bor, sym, ap, subst, ◌∙◌, refl, arith, drop_all, drop-drop, get_or_default, get_or-drop, length-drop, append-nil, append_assoc, length-append, take_more, drop_more, take_all, take-append-drop, take-append-le, drop-append-le}
use Rattle.camp_share.proofs.Words.{set_split, take-append-add, drop-append-add, All, slice_get, slice_range, insert, remove, TakesFirst, deref, option_copied, flat_map-append, recursion_from_All, joined, IsPart, offset, IsPlace, Vec, vec_len}
use Rattle.std.specs.Prelude.{IfSome, MatchOption}
use Rattle.std.proofs.Common.{inl, inr}
use Rattle.std.proofs.lemmas.Bool.{cases_lt}
use Rattle.std.proofs.lemmas.List.{drop-take, length-take-le, take_rest}
use Rattle.std.proofs.lemmas.Option.{slice_get_past, slice_get_read}
use Rattle.std.specs.List.{AllByRecursion, splice}

-- the length of a lent chunk
pub length_told : {X Z : Type 0} (lent part : Vec X Z) (n : ℕ) → lent ≡ part → n ≡ vec_len lent → n ≡ length part.items
length_told lent part n same told = told ∙ lent.ok.0 ∙ ap (λ (p : Vec _ _). length p.items) same

-- two reads at one index give the same element
pub read_twice : {A : Type 0} (xs : List A) (i : ℕ) (x y : A) → i < length xs → x ≡ get_or xs i x → y ≡ get_or xs i y → x ≡ y
read_twice xs i x y within one other = one ∙ get_or_default xs i x y within ∙ sym other

-- the element that a slice lends at an index
pub lent_at : {X : Type 0} (xs : List X) (i : ℕ) (Holds : Bor X → Type 0) (lent : Option (Bor X)) → IfSome lent (λ x. x.now ≡ get_or xs i x.now) → MatchOption lent (length xs ≤ i) (λ x. (i < length xs) × Holds x) → option_copied lent ≡ slice_get xs i
lent_at xs i Holds None is within = sym (slice_get_past xs i within)
lent_at xs i Holds (Some x) is within = sym (slice_get_read xs (length xs) i x.now refl within.0 is)

module _ {X Z : Type 0} (parts : List (Vec X Z)) (i : ℕ) (part : Vec X Z) (within : i < length parts) (read : part ≡ get_or parts i part) where
  pub part_is : All IsPart parts → IsPart part
  part_is all = subst IsPart (sym read) (all i part within)

  -- the chunks from one on
  pub from_here : joined (drop i parts) ≡ part.items ++ joined (drop (i + 1) parts)
  from_here = ap joined (drop_more parts i part within) ∙ ap (λ (p : Vec X Z). p.items ++ joined (drop (i + 1) parts)) (sym read)

  pub shorter : length (joined (drop i parts)) ≡ length part.items + length (joined (drop (i + 1) parts))
  shorter = ap length from_here ∙ length-append part.items (joined (drop (i + 1) parts))

  -- the chunks up to one
  pub up_to_here : joined (take (i + 1) parts) ≡ joined (take i parts) ++ part.items
  up_to_here =
      ap joined (take_more parts i part within) ∙ flat_map-append (λ (p : Vec X Z). p.items) (take i parts) (get_or parts i part ∷ [])
      ∙ ap (λ (p : Vec X Z). joined (take i parts) ++ (p.items ++ [])) (sym read) ∙ ap (λ (xs : List X). joined (take i parts) ++ xs) (append-nil part.items)

  pub length_grown : length (joined (take (i + 1) parts)) ≡ length (joined (take i parts)) + length part.items
  length_grown = ap length up_to_here ∙ length-append (joined (take i parts)) part.items

  -- a position up to the end of a chunk is valid
  pub place_inside : (place : ℕ) → place ≤ length part.items → IsPlace parts i place
  place_inside place inside = let longer = length_grown in (omega arith, omega arith)

-- the first chunks have no more elements than all of them
pub front_within : {X Z : Type 0} (parts : List (Vec X Z)) (n : ℕ) → length (joined (take n parts)) ≤ length (joined parts)
front_within {X} {Z} parts n =
    let both = ap (λ (ps : List (Vec X Z)). length (joined ps)) (take-append-drop n parts) in
    let parted = ap length (flat_map-append (λ (p : Vec X Z). p.items) (take n parts) (drop n parts)) ∙ length-append (joined (take n parts)) (joined (drop n parts)) in omega arith

-- a growing list, divided before one of its sealed chunks
pub divided_before : {X Z : Type 0} (closed : List (Vec X Z)) (last : List X) (i : ℕ) → joined closed ++ last ≡ joined (take i closed) ++ (joined (drop i closed) ++ last)
divided_before {X} {Z} closed last i =
    ap (λ (ps : List (Vec X Z)). joined ps ++ last) (sym (take-append-drop i closed))
    ∙ ap (λ xs. xs ++ last) (flat_map-append (λ (p : Vec X Z). p.items) (take i closed) (drop i closed)) ∙ append_assoc (joined (take i closed)) (joined (drop i closed)) last

-- after the sealed chunks comes only the tail
pub closed_passed : {X Z : Type 0} (closed : List (Vec X Z)) (last : List X) (i : ℕ) → length closed ≤ i → joined (drop i closed) ++ last ≡ last
closed_passed closed last i past = ap (λ ps. joined ps ++ last) (drop_all i closed past)

-- a prefix of a growing list, from one of its sealed chunks on
front_from : {X Z : Type 0} (closed : List (Vec X Z)) (last : List X) (i count left : ℕ) → left + length (joined (take i closed)) ≡ count → joined (take i closed) ++ take left (joined (drop i closed) ++ last) ≡ take count (joined closed ++ last)
front_from closed last i count left is =
    sym
    (ap (take count) (divided_before closed last i)
    ∙ ap (λ n. take n (joined (take i closed) ++ (joined (drop i closed) ++ last))) {x = count} {y = length (joined (take i closed)) + left} (omega arith)
    ∙ take-append-add (joined (take i closed)) (joined (drop i closed) ++ last) left)

-- the same if the prefix ends in the tail
pub front_whole : {X Z : Type 0} (closed : List (Vec X Z)) (last : List X) (i count left : ℕ) → left + length (joined (take i closed)) ≡ count → length closed ≤ i → joined (take i closed) ++ take left last ≡ take count (joined closed ++ last)
front_whole closed last i count left is past =
    ap (λ xs. joined (take i closed) ++ take left xs) (sym (closed_passed closed last i past)) ∙ front_from closed last i count left is

module _ {X Z : Type 0} (closed : List (Vec X Z)) (last : List X) (i : ℕ) (part : Vec X Z) (within : i < length closed) (read : part ≡ get_or closed i part) where
  -- the elements of a growing list from one of its sealed chunks on
  pub rest_from_here : joined (drop i closed) ++ last ≡ part.items ++ (joined (drop (i + 1) closed) ++ last)
  rest_from_here = ap (λ xs. xs ++ last) (from_here closed i part within read) ∙ append_assoc part.items (joined (drop (i + 1) closed)) last

  pub rest_length : length (joined (drop i closed) ++ last) ≡ length part.items + length (joined (drop (i + 1) closed) ++ last)
  rest_length = ap length rest_from_here ∙ length-append part.items (joined (drop (i + 1) closed) ++ last)

  -- a prefix of a growing list that ends in one of its sealed chunks
  pub front_cut : (count left : ℕ) → left + length (joined (take i closed)) ≡ count → left ≤ length part.items → joined (take i closed) ++ take left part.items ≡ take count (joined closed ++ last)
  front_cut count left is inside =
      ap (λ xs. joined (take i closed) ++ xs) (sym (ap (take left) rest_from_here ∙ take-append-le left part.items (joined (drop (i + 1) closed) ++ last) inside)) ∙ front_from closed last i count left is

  pub rest_past : (left : ℕ) → length part.items ≤ left → drop (left - length part.items) (joined (drop (i + 1) closed) ++ last) ≡ drop left (joined (drop i closed) ++ last)
  rest_past left past =
      sym
      (ap (drop left) rest_from_here
      ∙ ap (λ n. drop n (part.items ++ (joined (drop (i + 1) closed) ++ last))) {x = left} {y = length part.items + (left - length part.items)} (omega arith)
      ∙ drop-append-add part.items (joined (drop (i + 1) closed) ++ last) (left - length part.items))

  pub rest_cut : (left : ℕ) → left ≤ length part.items → drop left (joined (drop i closed) ++ last) ≡ drop left part.items ++ (joined (drop (i + 1) closed) ++ last)
  rest_cut left inside = ap (drop left) rest_from_here ∙ drop-append-le left part.items (joined (drop (i + 1) closed) ++ last) inside

module _ {X Z : Type 0} (parts : List (Vec X Z)) (index place : ℕ) where
  -- the elements before a position of a chunk
  pub before_place : (part : Vec X Z) → index < length parts → part ≡ get_or parts index part → place ≤ length part.items → joined (take index parts) ++ take place part.items ≡ take (offset parts index place) (joined parts)
  before_place part within read inside =
      front_cut parts [] index part within read (offset parts index place) place (omega arith) inside ∙ ap (take (offset parts index place)) (append-nil (joined parts))

  -- the elements from a position of a chunk on
  pub behind_place : (part : Vec X Z) → index < length parts → part ≡ get_or parts index part → place ≤ length part.items → drop place part.items ++ joined (drop (index + 1) parts) ≡ drop (offset parts index place) (joined parts)
  behind_place part within read inside =
      sym
      (ap (drop (offset parts index place)) (sym (append-nil (joined parts)) ∙ divided_before parts [] index)
      ∙ drop-append-add (joined (take index parts)) (joined (drop index parts) ++ []) place
      ∙ rest_cut parts [] index part within read place inside ∙ ap (λ xs. drop place part.items ++ xs) (append-nil (joined (drop (index + 1) parts))))

  -- part of a chunk, appended to others
  pub pushed_behind : (part : Vec X Z) → index < length parts → part ≡ get_or parts index part → place ≤ length part.items → (front middle now items : List X) → now ≡ middle ++ take (length items - place) (drop place items) → items ≡ part.items → front ++ now ++ joined (drop (index + 1) parts) ≡ front ++ middle ++ drop (offset parts index place) (joined parts)
  pushed_behind part within read inside front middle now items grown same =
      let rest = joined (drop (index + 1) parts) in
      let size = length-drop place items in
      let all = take_all (length items - place) (drop place items) (omega arith) in
      ap (λ xs. front ++ xs ++ rest) (grown ∙ ap (λ xs. middle ++ xs) (all ∙ ap (drop place) same))
      ∙ ap (λ xs. xs ++ rest) (sym (append_assoc front middle (drop place part.items)))
      ∙ append_assoc (front ++ middle) (drop place part.items) rest
      ∙ ap (λ xs. front ++ middle ++ xs) (behind_place part within read inside)

  -- the elements before part of a chunk, with new ones after its prefix
  pub renewed_behind : (part : Vec X Z) → index < length parts → part ≡ get_or parts index part → place ≤ length part.items → (first more items rest all : List X) → first ≡ take place part.items → items ≡ first ++ more → all ≡ joined (take index parts) ++ items ++ rest → all ≡ take (offset parts index place) (joined parts) ++ more ++ rest
  renewed_behind part within read inside first more items rest all front grown whole =
      whole ∙ ap (λ xs. joined (take index parts) ++ xs ++ rest) (grown ∙ ap (λ ys. ys ++ more) front)
      ∙ ap (λ xs. xs ++ rest) (sym (append_assoc (joined (take index parts)) (take place part.items) more) ∙ ap (λ xs. xs ++ more) (before_place part within read inside))

-- an index after the start of a chunk and up to its end is within that chunk
pub place_within : {X Z : Type 0} (parts : List (Vec X Z)) (index place : ℕ) → offset parts index place ≤ length (joined (take (index + 1) parts)) → 0 < place → index < length parts
place_within {X} {Z} parts index place at some = elim (cases_lt index (length parts)) [
  | inl below ↦ below
  | inr past ↦
      let all = ap (λ (ps : List (Vec X Z)). length (joined ps)) (take_all index parts past ∙ sym (take_all (index + 1) parts (omega (arith, past)))) in absurd (omega (arith, all, at, some))
]

-- the position after all chunks
pub place_at_end : {X Z : Type 0} (parts : List (Vec X Z)) (index : ℕ) → length parts ≡ index → IsPlace parts index 0
place_at_end {X} {Z} parts index end =
    let all = ap (λ (ps : List (Vec X Z)). length (joined ps)) (take_all index parts (omega arith) ∙ sym (take_all (index + 1) parts (omega arith))) in (omega arith, omega arith)

fewer : {X Z : Type 0} (parts : List (Vec X Z)) → AllByRecursion IsPart parts → length parts ≤ length (joined parts)
fewer [] all = omega arith
fewer (p ∷ ps) all = omega (arith, length-append p.items (joined ps), fewer ps all.1, all.0.0)

-- there are no more chunks than elements
pub parts_fewer : {X Z : Type 0} (parts : List (Vec X Z)) → All IsPart parts → length parts ≤ length (joined parts)
parts_fewer parts all = fewer parts (recursion_from_All IsPart parts all)

module _ {X Z : Type 0} (parts : List (Vec X Z)) (index place : ℕ) (begins : place ≡ 0) where
  divided_at : joined parts ≡ joined (take index parts) ++ joined (drop index parts)
  divided_at = ap joined (sym (take-append-drop index parts)) ∙ flat_map-append (λ (p : Vec X Z). p.items) (take index parts) (drop index parts)

  -- the elements before a chunk
  pub before_part : (none : List X) → none ≡ [] → joined (take index parts) ++ none ≡ take (offset parts index place) (joined parts)
  before_part none empty =
      ap (λ xs. joined (take index parts) ++ xs) (empty ∙ ap (λ n. take n (joined (drop index parts))) (sym begins))
      ∙ sym (ap (take (offset parts index place)) divided_at ∙ take-append-add (joined (take index parts)) (joined (drop index parts)) place)

  -- the elements from a chunk on
  pub behind_part : joined (drop index parts) ≡ drop (offset parts index place) (joined parts)
  behind_part =
      ap (λ n. drop n (joined (drop index parts))) (sym begins)
      ∙ sym (ap (drop (offset parts index place)) divided_at ∙ drop-append-add (joined (take index parts)) (joined (drop index parts)) place)

-- the next element of an iterator over a list from an index on
pub next_of : {A : Type 0} (xs rest : List A) (i : ℕ) (x : A) → drop i xs ≡ x ∷ rest → (i < length xs) × (x ≡ get_or xs i x) × (rest ≡ drop (i + 1) xs)
next_of xs rest i x is =
    let size = ap length is in
    let left = length-drop i xs in
    let within : i < length xs = omega arith in
    let both = sym is ∙ drop_more xs i x within in (within, ap (λ ys. get_or ys 0 x) both, ap (drop 1) both)

-- the first of the elements from an index on is the element at the index
pub first_from : {X : Type 0} (xs left after : List X) (i : ℕ) (first : Option (Bor X)) → left ≡ drop i xs → TakesFirst deref left first after → option_copied first ≡ slice_get xs i
first_from xs left after i None is steps =
    let size = ap length (sym is ∙ steps.0) in
    let over = length-drop i xs in sym (slice_get_past xs i (omega arith))
first_from xs left after i (Some x) is steps = let next = next_of xs after i x.now (sym is ∙ steps) in sym (slice_get_read xs (length xs) i x.now refl next.0 next.1)

-- the elements after a chunk, from an index past that chunk on
pub left_behind : {X Z : Type 0} (parts rest : List (Vec X Z)) (part : Vec X Z) (start n : ℕ) → parts ≡ part ∷ rest → n ≡ length part.items → n ≤ start → drop (start - n) (joined rest) ≡ drop start (joined parts)
left_behind parts rest part start n is size past =
    sym
    (ap (λ ps. drop start (joined ps)) is ∙ ap (λ k. drop k (part.items ++ joined rest)) {x = start} {y = length part.items + (start - n)} (omega arith)
    ∙ drop-append-add part.items (joined rest) (start - n))

-- an index before the end is within some chunk
pub not_past : {X Z : Type 0} (parts : List (Vec X Z)) (count left index : ℕ) → drop count parts ≡ [] → left + length (joined (take count parts)) ≡ index → index < length (joined parts) → ⊥
not_past parts count left index none is before =
    let size = ap length none in
    let over = length-drop count parts in
    let all = ap (λ ps. length (joined ps)) (take_all count parts (omega arith)) in omega arith

-- the end of a prefix is a range
back_of_front : {X : Type 0} (xs : List X) (from to : ℕ) → from ≤ to → drop from (take to xs) ≡ slice_range xs from to
back_of_front xs from to range = ap (λ n. drop from (take n xs)) {x = to} {y = from + (to - from)} (omega arith) ∙ drop-take from (to - from) xs

-- a range, as the rest of a prefix
pub copied_between : {X : Type 0} (xs before front none after : List X) (from to start end : ℕ) → before ≡ take end xs → end ≡ to → front ≡ before → none ≡ [] → after ≡ none ++ drop start front → start ≡ from → from ≤ to → after ≡ slice_range xs from to
copied_between xs before front none after from to start end first ends same empty rest starts range =
    rest ∙ ap (λ ys. ys ++ drop start front) empty ∙ ap (λ n. drop n front) starts
    ∙ ap (drop from) (same ∙ first ∙ ap (λ n. take n xs) ends) ∙ back_of_front xs from to range

-- the elements before an index and those after it, without the element there
pub removed_between : {X : Type 0} (xs before after : List X) (i n : ℕ) → before ≡ take i xs → n ≡ i + 1 → after ≡ before ++ drop n xs → after ≡ remove xs i
removed_between xs before after i n first next is = is ∙ ap (λ ys. ys ++ drop n xs) first ∙ ap (λ k. take i xs ++ drop k xs) {x = n} {y = suc i} (omega arith)

-- the same with the element replaced
pub replaced_between : {X : Type 0} (xs before with after : List X) (x : X) (i n : ℕ) → i < length xs → before ≡ take i xs → with ≡ before ++ x ∷ [] → n ≡ i + 1 → after ≡ with ++ drop n xs → after ≡ set xs i x
replaced_between xs before with after x i n within first more next is =
    is ∙ ap (λ ys. ys ++ drop n xs) (more ∙ ap (λ ys. ys ++ x ∷ []) first) ∙ append_assoc (take i xs) (x ∷ []) (drop n xs)
    ∙ ap (λ k. take i xs ++ x ∷ drop k xs) {x = n} {y = suc i} (omega arith) ∙ sym (set_split xs i x within)

-- one more of the taken elements is appended
pub taken_one : {X : Type 0} (items rest after all now : List X) (x y : X) (n m : ℕ) → rest ≡ x ∷ after → m + 1 ≡ n → now ≡ items ++ y ∷ [] → y ≡ x → items ++ take n rest ≡ all → now ++ take m after ≡ all
taken_one items rest after all now x y n m is fewer grown same whole =
    ap (λ ys. ys ++ take m after) grown ∙ append_assoc items (y ∷ []) (take m after) ∙ ap (λ z. items ++ z ∷ take m after) same
    ∙ ap (λ k. items ++ take k (x ∷ after)) {x = suc m} {y = n} (omega arith) ∙ ap (λ r. items ++ take n r) (sym is) ∙ whole

-- the chunks before one, new chunks with the same elements as others, and the chunks after it
pub joined_between : {X Z : Type 0} (parts front new all : List (Vec X Z)) (index next : ℕ) (items : List X) → front ≡ take index parts → joined new ≡ joined front ++ items → all ≡ new ++ drop next parts → joined all ≡ joined (take index parts) ++ items ++ joined (drop next parts)
joined_between {X} {Z} parts front new all index next items first grown whole =
    ap joined whole ∙ flat_map-append (λ (p : Vec X Z). p.items) new (drop next parts)
    ∙ ap (λ xs. xs ++ joined (drop next parts)) (grown ∙ ap (λ ps. joined ps ++ items) first)

-- the elements before an index and those from it on, with one more between them
pub inserted_between : {X : Type 0} (xs after : List X) (x : X) (i n : ℕ) → i ≡ n → after ≡ take i xs ++ x ∷ [] ++ drop i xs → after ≡ insert xs n x
inserted_between xs after x i n same is = is ∙ append_assoc (take i xs) (x ∷ []) (drop i xs) ∙ ap (λ k. insert xs k x) same

-- the last chunks of a list, one of them, and those after it
module _ {X Z : Type 0} (parts last : List (Vec X Z)) (at : ℕ) (part : Vec X Z) (end : last ≡ drop (length parts - length last) parts) (few : length last ≤ length parts) (within : at < length last) (read : part ≡ get_or last at part) where
  abbrev place_of_end : ℕ
  place_of_end = (length parts - length last) + at

  inside_all : place_of_end < length parts
  inside_all = omega arith

  read_of_all : part ≡ get_or parts place_of_end part
  read_of_all = read ∙ ap (λ (ps : List (Vec X Z)). get_or ps at part) end ∙ get_or-drop (length parts - length last) parts at part

  rest_of_all : drop (at + 1) last ≡ drop (place_of_end + 1) parts
  rest_of_all =
      ap (drop (at + 1)) end ∙ drop-drop (at + 1) (length parts - length last) parts
      ∙ ap (λ k. drop k parts) {x = (length parts - length last) + (at + 1)} {y = place_of_end + 1} (omega arith)

  end_length : length (joined (take place_of_end parts)) + length part.items + length (joined (drop (at + 1) last)) ≡ length (joined parts)
  end_length =
      let both = ap (λ (ps : List (Vec X Z)). length (joined ps)) (take-append-drop (place_of_end + 1) parts) in
      let parted = ap length (flat_map-append (λ (p : Vec X Z). p.items) (take (place_of_end + 1) parts) (drop (place_of_end + 1) parts)) ∙ length-append (joined (take (place_of_end + 1) parts)) (joined (drop (place_of_end + 1) parts)) in
      let grown = length_grown parts place_of_end part inside_all read_of_all in
      let rest = ap (λ (ps : List (Vec X Z)). length (joined ps)) rest_of_all in omega arith

  -- the chunk and those after it have no more elements than all chunks
  pub end_fits : length part.items + length (joined (drop (at + 1) last)) ≤ length (joined parts)
  end_fits = let all = end_length in omega arith

  -- the elements of the chunk and those after it, from an index in the whole list on
  pub from_end : (start from : ℕ) → start + length part.items + length (joined (drop (at + 1) last)) ≡ length (joined parts) → start ≤ from → from < start + length part.items → drop (from - start) part.items ++ joined (drop (at + 1) last) ≡ drop from (joined parts)
  from_end start from total begun before =
      let all = end_length in
      ap (λ ps. drop (from - start) part.items ++ joined ps) rest_of_all
      ∙ behind_place parts place_of_end (from - start) part inside_all read_of_all (omega arith)
      ∙ ap (λ k. drop k (joined parts)) {x = offset parts place_of_end (from - start)} {y = from} (omega arith)

-- two joined lists, with a range of the second replaced
pub changed_in_last : {X : Type 0} (front last items same changed : List X) (from to border : ℕ) → border ≡ length front → same ≡ front → changed ≡ splice last (from - border) (to - border) items → from ≤ to → border ≤ from → same ++ changed ≡ splice (front ++ last) from to items
changed_in_last front last items same changed from to border begins kept new range past =
    ap (λ xs. xs ++ changed) kept ∙ ap (λ xs. front ++ xs) new
    ∙ sym (append_assoc front (take (from - border) last) (items ++ drop (to - border) last))
    ∙ ap (λ xs. xs ++ (items ++ drop (to - border) last))
    (sym (take-append-add front last (from - border)) ∙ ap (λ k. take k (front ++ last)) {x = length front + (from - border)} {y = from} (omega arith))
    ∙ ap (λ xs. take from (front ++ last) ++ (items ++ xs))
    (sym (drop-append-add front last (to - border)) ∙ ap (λ k. drop k (front ++ last)) {x = length front + (to - border)} {y = to} (omega arith))

-- the facts that two Ok results give
pub both_ok : {A B E : Type 0} (r : Result (A × B) E) (a : Result A E) (b : Result B E) (P : A → Type 0) (Q : B → Type 0) (R : A × B → Type 0) → IfOk r (λ p. a ≡ Ok p.0) → IfOk r (λ p. b ≡ Ok p.1) → IfOk a P → IfOk b Q → ((x : A) (y : B) → P x → Q y → R (x, y)) → IfOk r R
both_ok (Ok p) a b P Q R one other first second follows = follows p.0 p.1 (subst (λ r. IfOk r P) one first) (subst (λ r. IfOk r Q) other second)
both_ok (Err e) a b P Q R one other first second follows = tt

-- a list with a range replaced, copied piece by piece
pub spliced_copies : {X : Type 0} (xs old first more all new : List X) (from to : ℕ) → old ≡ xs → first ≡ take from old → more ≡ first ++ new → all ≡ more ++ take (length old - to) (drop to old) → all ≡ splice xs from to new
spliced_copies xs old first more all new from to is front grown whole =
    whole ∙ ap (λ ys. more ++ ys) (take_rest old to) ∙ ap (λ ys. ys ++ drop to old) (grown ∙ ap (λ ys. ys ++ new) front)
    ∙ append_assoc (take from old) new (drop to old) ∙ ap (λ ys. take from ys ++ (new ++ drop to ys)) is

-- two joined lists, with a range of the first replaced
pub changed_in_front : {X : Type 0} (front last items changed same : List X) (from to : ℕ) → changed ≡ splice front from to items → same ≡ last → from ≤ to → to ≤ length front → changed ++ same ≡ splice (front ++ last) from to items
changed_in_front front last items changed same from to new kept range within =
    ap (λ xs. changed ++ xs) kept ∙ ap (λ xs. xs ++ last) new ∙ append_assoc (take from front) (items ++ drop to front) last
    ∙ ap (λ xs. take from front ++ xs) (append_assoc items (drop to front) last)
    ∙ ap (λ xs. xs ++ (items ++ (drop to front ++ last))) (sym (take-append-le from front last (omega arith)))
    ∙ ap (λ xs. take from (front ++ last) ++ (items ++ xs)) (sym (drop-append-le to front last within))

-- elements appended to a list
pub joined_at_end : {X : Type 0} (front items : List X) (border : ℕ) → border ≡ length front → splice front border border items ≡ front ++ items
joined_at_end front items border end =
    ap (λ xs. xs ++ (items ++ drop border front)) (take_all border front (omega arith))
    ∙ ap (λ xs. front ++ (items ++ xs)) (drop_all border front (omega arith)) ∙ ap (λ xs. front ++ xs) (append-nil items)

-- a prefix of a list and one more element
pub one_more : {X : Type 0} (xs first items : List X) (x : X) (n : ℕ) → n ≤ length xs → first ≡ take n xs → items ≡ first ++ x ∷ [] → length items ≡ n + 1
one_more xs first items x n within front grown = ap length grown ∙ length-append first (x ∷ []) ∙ ap (λ ys. length ys + 1) front ∙ ap (λ k. k + 1) (length-take-le n xs within)

-- the element at an index replaced
pub one_replaced : {X : Type 0} (xs all : List X) (x : X) (i : ℕ) → i < length xs → all ≡ splice xs i (i + 1) (x ∷ []) → all ≡ set xs i x
one_replaced xs all x i within is = is ∙ ap (λ k. take i xs ++ x ∷ drop k xs) {x = i + 1} {y = suc i} (omega arith) ∙ sym (set_split xs i x within)
