-- The first line of a text that is counted.
use Rattle.camp_talk.proofs.Words.{All-head, All-tail, is_blank, lines_of, ◌≡◌, ◌≢◌, ◌<◌, ◌^◌, ℕ, true, not, ◌==◌, nat_lt, List, [], ◌∷◌, ◌++◌, length, ap, ◌∙◌, refl, ne_eqb, and_parts, All, list_all}
use Rattle.std.proofs.lemmas.List.Folds.{list_all-append}
use Rattle.std.specs.Fmt.{decimal}
use Rattle.camp_script.proofs.CanonicalLines.{all_weaker, both, first_line, is_one_line, is_word_byte}
use Rattle.camp_script.proofs.CanonicalNumbers.{decimal_is_word}
use Rattle.camp_talk.specs.Laws.{CountsMatchLines}

-- a word without LF
word_is_one_line : (word : List ℕ) → All (λ byte. byte ≢ 10) word → is_one_line word ≡ true
word_is_one_line [] is = refl
word_is_one_line (byte ∷ word) is =
    both (not (byte == 10)) (is_one_line word) (ap not (ne_eqb byte 10 (All-head (λ b. b ≢ 10) byte word is)))
    (word_is_one_line word (All-tail (λ b. b ≢ 10) byte word is))

-- a number
number_is_one_line : (n : ℕ) → n < 2 ^ 64 → is_one_line (decimal n) ≡ true
number_is_one_line n small =
    all_weaker is_word_byte (λ byte. not (byte == 10)) (λ x h. (and_parts (not (is_blank x)) (not (x == 10)) h).1) (decimal n)
    ((and_parts (nat_lt 0 (length (decimal n))) (list_all is_word_byte (decimal n)) (decimal_is_word n small)).1)

pub counts_match_lines : CountsMatchLines
counts_match_lines word text is small =
    let n = length (lines_of text) in
    let one : is_one_line (word ++ 32 ∷ decimal n) ≡ true =
    list_all-append (λ byte. not (byte == 10)) word (32 ∷ decimal n)
    ∙ both (is_one_line word) (is_one_line (decimal n)) (word_is_one_line word is) (number_is_one_line n small) in
    first_line (word ++ 32 ∷ decimal n) text one
