-- The title of a log, taken apart.
use Rattle.std.proofs.Common.{◌≡◌, ◌≢◌, ◌⊎◌, ℕ, ◌+◌, ◌-◌, ◌^◌, ◌<◌, ◌≤◌, Bool, true, not, ◌&&◌, ◌==◌, List, [], ◌∷◌, ◌++◌, length, take, drop, codes, get_or, refl, sym, ap, subst, ◌∙◌, arith, length-append, append_assoc, Option, None, Some, Result, Ok, inl, inr}
use Rattle.std.specs.Char.{digit_value}
use Rattle.std.specs.Fmt.{decimal}
use Rattle.std.specs.List.{list_all, position_or_len}
use Rattle.std.specs.Str.Parse.{AllDigits}
use Rattle.std.proofs.Math.Seq.{drop-append_seam, take-append_seam}
use Rattle.std.proofs.lemmas.Bool.{and_from, and_parts, cond-true}
use Rattle.std.proofs.lemmas.Bool.Decides.{nat_tests}
use Rattle.std.proofs.lemmas.Fmt.{decimal_is_IsNumeral}
use Rattle.camp_repo.specs.Limits.{AreLimits, Bounds, bounded}
use Rattle.camp_entries.specs.Titles.{AreLimitsOfLog, IsLogTitle, log_title, plain_log_title}
use Rattle.camp_entries.proofs.NoteLemmas.{rest_is}

abbrev has_no_space : List ℕ → Bool
has_no_space bytes = list_all (λ byte. not (byte == 32)) bytes

no_digit : (d : ℕ) → digit_value d < 10 → not (d == 32) ≡ true
no_digit d small = grind (arith)

digits_alone : (ds : List ℕ) → AllDigits 10 ds → has_no_space ds ≡ true
digits_alone [] all = refl
digits_alone (d ∷ ds) all = and_from (not (d == 32)) (has_no_space ds) (no_digit d all.0) (digits_alone ds all.1)

before_space : (word rest : List ℕ) → has_no_space word ≡ true → position_or_len (λ byte. byte == 32) (word ++ 32 ∷ rest) ≡ length word
before_space [] rest none = refl
before_space (byte ∷ word) rest none =
    let parts = and_parts (not (byte == 32)) (has_no_space word) none in
    let more = before_space word rest parts.1 in
    cond-true (not (byte == 32)) (1 + position_or_len (λ b. b == 32) (word ++ 32 ∷ rest)) 0 parts.0 ∙ omega (arith, more)

pub bounded_is : (limits : Bounds) → AreLimits limits.catches limits.branches → bounded limits.catches limits.branches ≡ Ok limits
bounded_is limits are =
    let a = are.some_catches in
    let b = are.few_catches in
    let c = are.some_branches in
    let d = are.few_branches in
    grind (arith, nat_tests)

pub bounds_made : (limits : Bounds) → AreLimits limits.catches limits.branches → (catches branches : ℕ) → catches ≡ limits.catches → branches ≡ limits.branches → bounded catches branches ≡ Ok limits
bounds_made limits are catches branches catches_is branches_is = ap (λ n. bounded n branches) catches_is ∙ ap (λ n. bounded limits.catches n) branches_is ∙ bounded_is limits are

module _ (limits : Bounds) (text : List ℕ) (are : AreLimits limits.catches limits.branches) (is : log_title limits ≡ text) where
  abbrev catches : List ℕ
  catches = decimal limits.catches

  abbrev branches : List ℕ
  branches = decimal limits.branches

  abbrev after : List ℕ
  after = codes " branches " ++ (branches ++ 10 ∷ [])

  pub few_catches : limits.catches < 2 ^ 64
  few_catches = let few = are.few_catches in omega (arith, few)

  pub few_branches : limits.branches < 2 ^ 64
  few_branches = let few = are.few_branches in omega (arith, few)

  whole : text ≡ codes "camp log 1 catches " ++ (catches ++ after)
  whole = sym is ∙ ap (λ (t : List ℕ). codes "camp log 1 catches " ++ t) (append_assoc catches (codes " branches " ++ branches) (10 ∷ []))

  pub rest : take (length text - 19) (drop 19 text) ≡ catches ++ after
  rest = rest_is 19 text ∙ ap (λ (t : List ℕ). drop 19 t) whole

  pub long : length text ≡ 19 + (length catches + (11 + length branches))
  long =
      let size = ap length whole in
      let one = length-append catches after in
      let two = length-append branches (10 ∷ []) in
      omega (arith, size, one, two)

  pub long_rest : length (take (length text - 19) (drop 19 text)) ≡ length catches + (11 + length branches)
  long_rest =
      let size = ap length rest in
      let one = length-append catches after in
      let two = length-append branches (10 ∷ []) in
      omega (arith, size, one, two)

  pub space_at : (len : ℕ) → len ≡ position_or_len (λ byte. byte == 32) (take (length text - 19) (drop 19 text)) → len ≡ length catches
  space_at len at =
      at ∙ ap (position_or_len (λ byte. byte == 32)) rest
      ∙ before_space catches (codes "branches " ++ (branches ++ 10 ∷ [])) (digits_alone catches ((decimal_is_IsNumeral limits.catches few_catches).0.1))

  pub catches_part : (len : ℕ) → len ≡ length catches → take len (take (length text - 19) (drop 19 text)) ≡ catches
  catches_part len at = ap (λ (t : List ℕ). take len t) rest ∙ ap (λ n. take n (catches ++ after)) at ∙ take-append_seam catches after

  pub branches_part : (len count : ℕ) → len ≡ length catches → count ≡ length branches → take count (drop (len + 10) (take (length text - 19) (drop 19 text))) ≡ branches
  branches_part len count at size =
      let first : List ℕ = catches ++ codes " branches " in
      let long_first : len + 10 ≡ length first = let one = length-append catches (codes " branches ") in omega (arith, at, one) in
      let split : catches ++ after ≡ first ++ (branches ++ 10 ∷ []) = sym (append_assoc catches (codes " branches ") (branches ++ 10 ∷ [])) in
      ap (λ (t : List ℕ). take count (drop (len + 10) t)) (rest ∙ split)
      ∙ ap (λ n. take count (drop n (first ++ (branches ++ 10 ∷ [])))) long_first
      ∙ ap (λ (t : List ℕ). take count t) (drop-append_seam first (branches ++ 10 ∷ []))
      ∙ ap (λ n. take n (branches ++ 10 ∷ [])) size
      ∙ take-append_seam branches (10 ∷ [])

-- a title without limits is none with limits
not_plain : (limits : Bounds) → log_title limits ≡ plain_log_title → ⊥
not_plain limits same = let other = ap (λ (t : List ℕ). get_or t 10 0) same in omega (arith, other)

pub plain_is : (text : List ℕ) → text ≡ plain_log_title → (limits : Bounds) → IsLogTitle text limits → limits ≡ record { catches = 4_096; branches = 256 }
plain_is text is limits (are, inl named) = absurd (not_plain limits (sym named ∙ is))
plain_is text is limits (are, inr plain) = plain.1

-- the limits of a title with limits are the ones that were parsed
pub only_named : (text : List ℕ) (found : Option Bounds) → text ≢ plain_log_title → ((limits : Bounds) → AreLimits limits.catches limits.branches → log_title limits ≡ text → found ≡ Some limits)
    → (limits : Bounds) → IsLogTitle text limits → found ≡ Some limits
only_named text found not only limits (are, inl named) = only limits are (sym named)
only_named text found not only limits (are, inr plain) = absurd (not plain.0)

-- the title of limits that were parsed is the text, if it is a title
pub title_is : (text : List ℕ) (found limits : Bounds) → found ≡ limits → text ≢ plain_log_title → IsLogTitle text limits → log_title found ≡ text
title_is text found limits same not (are, inl named) = ap log_title same ∙ sym named
title_is text found limits same not (are, inr plain) = absurd (not plain.0)
