-- Splicing lines, as a relation and as a function.
use Rattle.camp_prim.proofs.Words.{◌≡◌, ℕ, ◌+◌, ◌-◌, true, Some, ◌++◌, length, take, drop, bytes_eq, refl, sym, ap, ◌∙◌, arith, length-append, pointwise, eqb-true, eq-eqb, and_parts, and_from, cond-true, cond_some, slice_eq-Decides, bytes_eq-Decides, Lines, SplicesLines, is_cut, spliced}
use Rattle.std.proofs.lemmas.List.{append_assoc, take_at, drop_at}

same_lines : (a b : Lines) → pointwise bytes_eq a b ≡ true → a ≡ b
same_lines a b e = (slice_eq-Decides bytes_eq-Decides a b _ refl).0 e

lines_same : (a b : Lines) → a ≡ b → pointwise bytes_eq a b ≡ true
lines_same a b e = (slice_eq-Decides bytes_eq-Decides a b _ refl).1 e

cut_of : (line : ℕ) (before gone after lines : Lines) → length before + 1 ≡ line → lines ≡ before ++ gone ++ after → is_cut line before gone after lines ≡ true
cut_of line before gone after lines at was = and_from _ _ (eq-eqb _ _ at) (lines_same _ _ was)

pub SplicesLines-from_spliced : (line : ℕ) (gone come old new : Lines) → spliced line gone come old ≡ Some new → SplicesLines line gone come old new
SplicesLines-from_spliced line gone come old new e =
    let before = take (line - 1) old in
    let after = drop (line - 1 + length gone) old in
    let parts = cond_some (is_cut line before gone after old) _ new e in
    let cut = and_parts _ _ parts.0 in
    record { before = before; after = after; at = eqb-true _ _ cut.0; was = same_lines _ _ cut.1; becomes = sym parts.1 }

before_is : (line : ℕ) (before rest old : Lines) → length before + 1 ≡ line → old ≡ before ++ rest → take (line - 1) old ≡ before
before_is line before rest old at was = rw was (take_at before rest (line - 1) (omega arith))

after_is : (line : ℕ) (before gone after old : Lines) → length before + 1 ≡ line → old ≡ before ++ gone ++ after → drop (line - 1 + length gone) old ≡ after
after_is line before gone after old at was =
    rw was (drop_at (before ++ gone) after _ (omega (arith, length-append before gone)))

spliced_at : (line : ℕ) (gone come old before after : Lines) → take (line - 1) old ≡ before → drop (line - 1 + length gone) old ≡ after → length before + 1 ≡ line → old ≡ before ++ gone ++ after → spliced line gone come old ≡ Some (before ++ come ++ after)
spliced_at line gone come old before after b a at was =
    rw (b, a) (cond-true (is_cut line before gone after old) _ _ (cut_of line before gone after old at was))

pub spliced-from_SplicesLines : (line : ℕ) (gone come old new : Lines) → SplicesLines line gone come old new → spliced line gone come old ≡ Some new
spliced-from_SplicesLines line gone come old new s =
    spliced_at line gone come old s.before s.after
    (before_is line s.before (gone ++ s.after) old s.at (s.was ∙ append_assoc s.before gone s.after))
    (after_is line s.before gone s.after old s.at s.was)
    s.at
    s.was
    ∙ ap Some (sym s.becomes)
