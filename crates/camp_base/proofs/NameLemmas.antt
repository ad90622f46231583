-- Names as the numbers that their first bytes spell.
use Rattle.camp_base.proofs.Words.{◌≡◌, ℕ, ◌+◌, ◌<◌, true, sym, List, [], ◌∷◌, ◌++◌, ap, subst, refl, ◌∙◌, arith, nat_tests, nat_cmp, Greater, IsTrue, replicate, take, drop, length, ◌-◌, slice_cmp, pointwise, Bool, false, drop-replicate}
use Rattle.std.specs.Prelude.{◌*◌, ◌==◌, ◌≤◌, zero, suc, ◌≢◌, get_or, ⊤}
use Rattle.std.specs.List.{list_all}
use Rattle.std.specs.Cmp.{ranks, nat_cmp_is}
use Rattle.std.proofs.Common.{Ordering, Less, Equal}
use Rattle.std.specs.Ordering.{MatchOrdering, ordering_then}
use Rattle.camp_base.specs.Bytes.{is_name, is_name_byte, is_path}
use Rattle.camp_base.specs.Signs.{is_graphic}
use Rattle.camp_base.specs.Inside.PathFields.{last_eight}
use Rattle.std.specs.Cmp.Lexicographic.{told_text}
use Rattle.std.proofs.lemmas.List.{take_all, length-drop}
use Rattle.camp_base.specs.Limits.{longest_name}
use Rattle.camp_base.specs.Inside.NameFields.{IsPadded, spelt}
use Rattle.camp_base.specs.declared.names.Name.TheInside.{Inside}

abbrev AreNameBytes : List ℕ → Type 0
AreNameBytes bytes = list_all is_name_byte bytes ≡ true

-- bytes that are digits of base 256 and not zero
abbrev AreDigits : List ℕ → Type 0
AreDigits [] = ⊤
AreDigits (byte ∷ bytes) = ((0 < byte) × (byte < 256)) × AreDigits bytes

are_digits : (bytes : List ℕ) → AreNameBytes bytes → AreDigits bytes
are_digits [] are = tt
are_digits (byte ∷ bytes) are = ((grind (arith, nat_tests), grind (arith, nat_tests)), are_digits bytes (grind (arith, nat_tests)))

-- of two numbers that are continued by bytes, the greater one stays greater
rises : (n less more : ℕ) (bytes others : List ℕ) → AreDigits bytes → less < more → spelt n less bytes < spelt n more others
rises zero less more bytes others are below = below
rises (suc n) less more [] [] are below = rises n (less * 256) (more * 256) [] [] tt (omega arith)
rises (suc n) less more [] (other ∷ others) are below = rises n (less * 256) (more * 256 + other) [] others tt (omega arith)
rises (suc n) less more (byte ∷ bytes) [] are below =
    let within = are.0 in
    rises n (less * 256 + byte) (more * 256) bytes [] are.1 (omega arith)
rises (suc n) less more (byte ∷ bytes) (other ∷ others) are below =
    let within = are.0 in
    rises n (less * 256 + byte) (more * 256 + other) bytes others are.1 (omega arith)

-- if the numbers differ, they are in the order of the bytes
spelt_in_order : (n sum : ℕ) (bytes others : List ℕ) → AreDigits bytes → AreDigits others → spelt n sum bytes ≢ spelt n sum others → nat_cmp (spelt n sum bytes) (spelt n sum others) ≡ slice_cmp nat_cmp bytes others
spelt_in_order zero sum bytes others are too differ = absurd (differ refl)
spelt_in_order (suc n) sum [] [] are too differ = absurd (differ refl)
spelt_in_order (suc n) sum [] (other ∷ others) are too differ =
    let within = too.0 in
    sym (nat_cmp_is _ _ Less (rises n (sum * 256) (sum * 256 + other) [] others tt (omega arith)))
spelt_in_order (suc n) sum (byte ∷ bytes) [] are too differ =
    let within = are.0 in
    sym (nat_cmp_is _ _ Greater (rises n (sum * 256) (sum * 256 + byte) [] bytes tt (omega arith)))
spelt_in_order (suc n) sum (byte ∷ bytes) (other ∷ others) are too differ =
    by (nat_cmp byte other) refl (ranks byte other) (λ first. spelt_in_order n first bytes others are.1 too.1)
  where
    Holds : ℕ → ℕ → Type 0
    Holds mine theirs = nat_cmp mine theirs ≡ ordering_then (nat_cmp byte other) (slice_cmp nat_cmp bytes others)

    by : (r : Ordering) → nat_cmp byte other ≡ r → MatchOrdering r (byte < other) (byte ≡ other) (other < byte)
        → ((first : ℕ) → spelt n first bytes ≢ spelt n first others → nat_cmp (spelt n first bytes) (spelt n first others) ≡ slice_cmp nat_cmp bytes others)
        → Holds (spelt n (sum * 256 + byte) bytes) (spelt n (sum * 256 + other) others)
    by Less is below rest =
        let smaller : byte < other = below in
        sym (ap (λ r. ordering_then r (slice_cmp nat_cmp bytes others)) is ∙ nat_cmp_is _ _ Less (rises n (sum * 256 + byte) (sum * 256 + other) bytes others are.1 (omega arith)))
    by Greater is above rest =
        let smaller : other < byte = above in
        sym (ap (λ r. ordering_then r (slice_cmp nat_cmp bytes others)) is ∙ nat_cmp_is _ _ Greater (rises n (sum * 256 + other) (sum * 256 + byte) others bytes too.1 (omega arith)))
    by Equal is level rest =
        let same : other ≡ byte = sym level in
        let differ_behind : spelt n (sum * 256 + byte) bytes ≢ spelt n (sum * 256 + byte) others = subst (λ second. spelt n (sum * 256 + byte) bytes ≢ spelt n (sum * 256 + second) others) same differ in
        subst (λ second. Holds (spelt n (sum * 256 + byte) bytes) (spelt n (sum * 256 + second) others)) (sym same)
        (rest (sum * 256 + byte) differ_behind ∙ sym (ap (λ r. ordering_then r (slice_cmp nat_cmp bytes others)) is))

-- zeros appended to a list change none of its elements
zero_at : (count i : ℕ) → get_or {A = ℕ} (replicate count 0) i 0 ≡ 0
zero_at zero i = refl
zero_at (suc count) zero = refl
zero_at (suc count) (suc i) = zero_at count i

with_zeros : (bytes : List ℕ) (count i : ℕ) → get_or {A = ℕ} (bytes ++ replicate count 0) i 0 ≡ get_or bytes i 0
with_zeros [] count i = zero_at count i
with_zeros (byte ∷ bytes) count zero = refl
with_zeros (byte ∷ bytes) count (suc i) = with_zeros bytes count i

are_name_bytes : (bytes : List ℕ) → IsTrue (is_name bytes) → AreNameBytes bytes
are_name_bytes bytes form = grind (arith, nat_tests)

-- names are in the order of the numbers that their first eight bytes spell, where these are different
pub in_order_by_heads : (name other : List ℕ) (head other_head : ℕ) → IsTrue (is_name name) → IsTrue (is_name other) → head ≡ spelt 8 0 name → other_head ≡ spelt 8 0 other → head ≢ other_head → nat_cmp head other_head ≡ slice_cmp nat_cmp name other
in_order_by_heads name other head other_head form other_form is other_is differ =
    subst (λ h. h ≢ other_head → nat_cmp h other_head ≡ slice_cmp nat_cmp name other) (sym is)
    (subst (λ h. spelt 8 0 name ≢ h → nat_cmp (spelt 8 0 name) h ≡ slice_cmp nat_cmp name other) (sym other_is)
    (spelt_in_order 8 0 name other (are_digits name (are_name_bytes name form)) (are_digits other (are_name_bytes other other_form)))) differ

-- the number that eight bytes spell
abbrev pub eight_of : List ℕ → ℕ
eight_of bytes =
    get_or bytes 0 0 * 72057594037927936 + get_or bytes 1 0 * 281474976710656 + get_or bytes 2 0 * 1099511627776 + get_or bytes 3 0 * 4294967296
    + get_or bytes 4 0 * 16777216 + get_or bytes 5 0 * 65536 + get_or bytes 6 0 * 256 + get_or bytes 7 0

eight_spelt : (bytes : List ℕ) → eight_of bytes ≡ spelt 8 0 bytes
eight_spelt [] = refl
eight_spelt (a ∷ []) = omega arith
eight_spelt (a ∷ b ∷ []) = omega arith
eight_spelt (a ∷ b ∷ c ∷ []) = omega arith
eight_spelt (a ∷ b ∷ c ∷ d ∷ []) = omega arith
eight_spelt (a ∷ b ∷ c ∷ d ∷ e ∷ []) = omega arith
eight_spelt (a ∷ b ∷ c ∷ d ∷ e ∷ f ∷ []) = omega arith
eight_spelt (a ∷ b ∷ c ∷ d ∷ e ∷ f ∷ g ∷ []) = omega arith
eight_spelt (a ∷ b ∷ c ∷ d ∷ e ∷ f ∷ g ∷ h ∷ bytes) = omega arith

pub head_spelt : (name : Inside) (bytes : List ℕ) → IsPadded name → take name.len name.buffer ≡ bytes → eight_of name.buffer ≡ spelt 8 0 bytes
head_spelt name bytes padded view =
    let front = take name.len name.buffer in
    let at = with_zeros front (longest_name - length front) in
    (λ j. eight_of (sym padded.padding j).buffer)
    ∙ omega (arith, at 0, at 1, at 2, at 3, at 4, at 5, at 6, at 7)
    ∙ eight_spelt front ∙ ap (spelt 8 0) view

path_digits : (bytes : List ℕ) → list_all is_graphic bytes ≡ true → AreDigits bytes
path_digits [] are = tt
path_digits (byte ∷ bytes) are = ((grind (arith, nat_tests), grind (arith, nat_tests)), path_digits bytes (grind (arith, nat_tests)))

-- no two lists of at most n bytes spell one number
spelt_once : (n sum other_sum : ℕ) (bytes others : List ℕ) → AreDigits bytes → AreDigits others → length bytes ≤ n → length others ≤ n
    → spelt n sum bytes ≡ spelt n other_sum others → (sum ≡ other_sum) × (bytes ≡ others)
spelt_once zero sum other_sum [] [] are too within also same = (same, refl)
spelt_once zero sum other_sum (byte ∷ bytes) others are too within also same = absurd (omega arith)
spelt_once zero sum other_sum [] (other ∷ others) are too within also same = absurd (omega arith)
spelt_once (suc n) sum other_sum [] [] are too within also same =
    let rest = spelt_once n (sum * 256) (other_sum * 256) [] [] tt tt (omega arith) (omega arith) same in
    let sums = rest.0 in
    (omega arith, refl)
spelt_once (suc n) sum other_sum [] (other ∷ others) are too within also same =
    let rest = spelt_once n (sum * 256) (other_sum * 256 + other) [] others tt too.1 (omega arith) (omega arith) same in
    let sums = rest.0 in
    let above = too.0.0 in
    let below = too.0.1 in
    absurd (omega arith)
spelt_once (suc n) sum other_sum (byte ∷ bytes) [] are too within also same =
    let rest = spelt_once n (sum * 256 + byte) (other_sum * 256) bytes [] are.1 tt (omega arith) (omega arith) same in
    let sums = rest.0 in
    let above = are.0.0 in
    let below = are.0.1 in
    absurd (omega arith)
spelt_once (suc n) sum other_sum (byte ∷ bytes) (other ∷ others) are too within also same =
    let rest = spelt_once n (sum * 256 + byte) (other_sum * 256 + other) bytes others are.1 too.1 (omega arith) (omega arith) same in
    let sums = rest.0 in
    let below = are.0.1 in
    let also_below = too.0.1 in
    let first : byte ≡ other = omega arith in
    (omega arith, ap (λ b. b ∷ bytes) first ∙ ap (λ behind. other ∷ behind) rest.1)

told_apart : (xs ys : List ℕ) (told : Bool) → told ≡ pointwise ◌==◌ xs ys → xs ≢ ys → false ≡ told
told_apart xs ys true is differ = absurd (differ (told_text xs ys true is))
told_apart xs ys false is differ = refl

told_same : (xs ys : List ℕ) (told : Bool) → told ≡ pointwise ◌==◌ xs ys → xs ≡ ys → true ≡ told
told_same xs ys true is same = refl
told_same xs ys false is same = absurd (told_text xs ys false is same)

-- names whose first bytes spell different numbers differ
pub differ_by_heads : (name other : List ℕ) (head other_head : ℕ) → head ≡ spelt 8 0 name → other_head ≡ spelt 8 0 other → head ≢ other_head → false ≡ pointwise ◌==◌ name other
differ_by_heads name other head other_head is other_is differ =
    told_apart name other _ refl (λ same. differ (is ∙ ap (spelt 8 0) same ∙ sym other_is))

-- short names whose bytes spell one number are one name
pub same_by_heads : (name other : List ℕ) (head other_head : ℕ) → IsTrue (is_name name) → IsTrue (is_name other) → head ≡ spelt 8 0 name → other_head ≡ spelt 8 0 other → head ≡ other_head
    → length name ≤ 8 → length other ≤ 8 → true ≡ pointwise ◌==◌ name other
same_by_heads name other head other_head form other_form is other_is same short other_short =
    told_same name other _ refl
    (spelt_once 8 0 0 name other (are_digits name (are_name_bytes name form)) (are_digits other (are_name_bytes other other_form)) short other_short (sym is ∙ same ∙ other_is)).1

-- bytes of which there are at most eight are the last eight
all_last : (bytes : List ℕ) → length bytes ≤ 8 → last_eight bytes ≡ bytes
all_last bytes short =
    let none : length bytes - 8 ≡ 0 = omega arith in
    ap (λ n. drop n bytes) none

are_path_bytes : (bytes : List ℕ) → IsTrue (is_path bytes) → list_all is_graphic bytes ≡ true
are_path_bytes bytes form = grind (arith, nat_tests)

-- short paths whose bytes spell one number are one path
pub same_by_tails : (path other : List ℕ) (tail other_tail : ℕ) → IsTrue (is_path path) → IsTrue (is_path other) → tail ≡ spelt 8 0 (last_eight path) → other_tail ≡ spelt 8 0 (last_eight other) → tail ≡ other_tail
    → length path ≤ 8 → length other ≤ 8 → true ≡ pointwise ◌==◌ path other
same_by_tails path other tail other_tail form other_form is other_is same short other_short =
    let whole = is ∙ ap (spelt 8 0) (all_last path short) in
    let other_whole = other_is ∙ ap (spelt 8 0) (all_last other other_short) in
    told_same path other _ refl
    (spelt_once 8 0 0 path other (path_digits path (are_path_bytes path form)) (path_digits other (are_path_bytes other other_form)) short other_short (sym whole ∙ same ∙ other_whole)).1

-- all but the last eight bytes are followed by exactly those
pub behind_all_but_eight : (bytes : List ℕ) (start : ℕ) → start ≡ length bytes - 8 → take (length bytes - start) (drop start bytes) ≡ last_eight bytes
behind_all_but_eight bytes start is =
    let rest = length-drop start bytes in
    take_all _ _ (omega (arith, rest)) ∙ ap (λ n. drop n bytes) is

-- the last eight bytes, copied to the front of eight zeros
pub tail_spelt : (bytes copied tail : List ℕ) → copied ≡ tail → tail ≡ last_eight bytes → eight_of (copied ++ drop (length tail) (replicate 8 0)) ≡ spelt 8 0 (last_eight bytes)
tail_spelt bytes copied tail is last =
    let zeros = drop-replicate {X = ℕ} (length tail) 8 0 in
    let at = with_zeros copied (8 - length tail) in
    ap (λ behind. eight_of (copied ++ behind)) zeros
    ∙ omega (arith, at 0, at 1, at 2, at 3, at 4, at 5, at 6, at 7)
    ∙ eight_spelt copied ∙ ap (spelt 8 0) (is ∙ last)
