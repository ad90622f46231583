-- Paths of attributes.
use Rattle.std.proofs.Common.{◌≡◌, ℕ, ◌+◌, ◌/◌, ◌%◌, ◌≤◌, ◌<◌, true, false, true≢false, List, [], ◌∷◌, ◌++◌, All, get_or, take, drop, refl, sym, ◌∙◌, ap, ◌⊎◌, ⊎_elim, subst, arith}
use Rattle.std.specs.Fmt.{digit_glyph}
use Rattle.std.proofs.lemmas.Bool.{cond-true, cond-false, cases_Bool}
use Rattle.std.proofs.lemmas.List.Elements.{All-head, All-tail}
use Rattle.percent_encoding.specs.Percent.{percent_encode_byte}
use Rattle.percent_encoding.proofs.PercentLemmas.{IsEscapeByte, All-percent_encode_byte}
use Rattle.camp_coding.specs.GitPaths.{AreBytes, escaped_path, is_unescaped}
use Rattle.camp_coding.specs.Attributes.{AttributePathsAreFree, AttributePathsDiffer, attribute_folder, attribute_path}
use Rattle.camp_coding.specs.declared.attributes.Attribute.{Attribute}
use Rattle.camp_coding.specs.declared.attributes.Attribute.TheVariants.{ModeLine, LacksNewline, Wrapped, EmptyCommit}
use Rattle.camp_coding.proofs.EscapeLemmas.{no_percent, paths_differ}

-- the second byte of an escape is a digit in capitals, so it is less than any small letter
second_is_small : (byte : ℕ) (rest : List ℕ) → get_or (percent_encode_byte byte ++ rest) 1 0 ≤ 70
unfolding percent_encode_byte
second_is_small byte rest =
    let high = digit_glyph true (byte / 16 % 16) in
    let low = digit_glyph true (byte % 16) in
    let digits = All-tail IsEscapeByte 37 (high ∷ low ∷ []) (All-percent_encode_byte byte) in
    ⊎_elim
    (λ is. omega (arith, is))
    (λ other. ⊎_elim (λ digit. omega (arith, digit.1)) (λ letter. omega (arith, letter.1)) other)
    (All-head IsEscapeByte high (low ∷ []) digits)

-- an escaped path does not begin with `%` and a byte above the capitals
free : (letter : ℕ) (rest other : List ℕ) → 70 < letter → (37 ∷ letter ∷ rest) ≡ escaped_path other → ⊥
free letter rest [] high same = let long = ap (λ (l : List ℕ). get_or l 0 0) same in omega (arith, long)
free letter rest (byte ∷ other) high same =
    ⊎_elim
    (λ kept.
    let first : 37 ≡ byte = ap (λ (l : List ℕ). get_or l 0 0) (same ∙ ap (λ (l : List ℕ). l ++ escaped_path other) (cond-true _ _ _ kept)) in
    no_percent byte kept (sym first))
    (λ escaped.
    let second : letter ≡ get_or (percent_encode_byte byte ++ escaped_path other) 1 0 =
    ap (λ (l : List ℕ). get_or l 1 0) (same ∙ ap (λ (l : List ℕ). l ++ escaped_path other) (cond-false _ _ _ escaped)) in
    let small = second_is_small byte (escaped_path other) in
    omega (arith, second, small, high))
    (cases_Bool (is_unescaped byte))

pub are_free : AttributePathsAreFree
are_free ModeLine path other same = free 109 _ other (omega arith) same
are_free LacksNewline path other same = free 110 _ other (omega arith) same
are_free Wrapped path other same = free 119 _ other (omega arith) same
are_free EmptyCommit path other same = free 101 _ other (omega arith) same

folder_is : (attribute : Attribute) (path : List ℕ) → take 3 (attribute_path attribute path) ≡ attribute_folder attribute
folder_is ModeLine path = refl
folder_is LacksNewline path = refl
folder_is Wrapped path = refl
folder_is EmptyCommit path = refl

path_is : (attribute : Attribute) (path : List ℕ) → drop 3 (attribute_path attribute path) ≡ escaped_path path
path_is ModeLine path = refl
path_is LacksNewline path = refl
path_is Wrapped path = refl
path_is EmptyCommit path = refl

pub differ : AttributePathsDiffer
differ attribute other path other_path bytes bytes' same = (
  sym (folder_is attribute path) ∙ ap (take 3) same ∙ folder_is other other_path,
  paths_differ path other_path bytes bytes' (sym (path_is attribute path) ∙ ap (drop 3) same ∙ path_is other other_path),
)
