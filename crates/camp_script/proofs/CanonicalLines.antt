-- Lines of words, split into lines and words again.
use Rattle.camp_script.proofs.Common.{cond-true, and_parts, not-true, line_text, ◌≡◌, ℕ, Bool, true, false, not, ◌&&◌, ◌==◌, nat_lt, List, [], ◌∷◌, ◌++◌, length, filter, ap, ◌∙◌, refl, append_assoc, arith, lines_of, words_of, is_blank, without_empty_last, All, AllByRecursion, join_with_byte, list_all, length-slice_split, slice_split_none}
pub use Rattle.std.proofs.lemmas.Bool.{and_from as both}
use Rattle.std.specs.List.{slice_split}
use Rattle.std.proofs.lemmas.List.Elements.{All-weaker}
use Rattle.std.proofs.lemmas.List.Folds.{list_all-append}
use Rattle.std.proofs.lemmas.List.Splits.{slice_split_at}
use Rattle.std.proofs.lemmas.List.Sums.{AllPass-from_list_all}
use Rattle.camp_script.proofs.LineLemmas.{more-last}

pub all_weaker : (p q : ℕ → Bool) → ((x : ℕ) → p x ≡ true → q x ≡ true) → (xs : List ℕ) → list_all p xs ≡ true → list_all q xs ≡ true
all_weaker p q each [] h = refl
all_weaker p q each (x ∷ xs) h = both (q x) (list_all q xs) (each x ((and_parts (p x) (list_all p xs) h).0)) (all_weaker p q each xs ((and_parts (p x) (list_all p xs) h).1))

-- bytes of which none passes a test
nowhere : (cuts : ℕ → Bool) (xs : List ℕ) → list_all (λ byte. not (cuts byte)) xs ≡ true → All (λ byte. cuts byte ≡ false) xs
nowhere cuts xs h = All-weaker (λ byte. not (cuts byte) ≡ true) (λ byte. cuts byte ≡ false) (λ byte k. not-true (cuts byte) k) xs (AllPass-from_list_all (λ byte. not (cuts byte)) xs h)

-- whether bytes have no LF among them
abbrev pub is_one_line : List ℕ → Bool
is_one_line bytes = list_all (λ byte. not (byte == 10)) bytes

-- a line, its LF, and the rest of the lines
pub first_line : (line rest : List ℕ) → is_one_line line ≡ true → lines_of (line ++ 10 ∷ rest) ≡ line ∷ lines_of rest
first_line line rest one =
    ap without_empty_last (slice_split_at (λ byte. byte == 10) line 10 rest (nowhere (λ byte. byte == 10) line one) refl)
    ∙ more-last line (slice_split (λ byte. byte == 10) rest) (omega (arith, length-slice_split (λ byte. byte == 10) rest))

-- whether a byte can be part of a word
abbrev pub is_word_byte : ℕ → Bool
is_word_byte byte = not (is_blank byte) && not (byte == 10)

-- whether bytes are a word of a line
abbrev pub is_word : List ℕ → Bool
is_word bytes = nat_lt 0 (length bytes) && list_all is_word_byte bytes

word_lacks_blank : (word : List ℕ) → is_word word ≡ true → All (λ byte. is_blank byte ≡ false) word
word_lacks_blank word h =
    nowhere is_blank word (all_weaker is_word_byte (λ byte. not (is_blank byte)) (λ x h. (and_parts (not (is_blank x)) (not (x == 10)) h).0) word ((and_parts (nat_lt 0 (length word)) (list_all is_word_byte word) h).1))

word_is_one_line : (word : List ℕ) → is_word word ≡ true → is_one_line word ≡ true
word_is_one_line word h =
    all_weaker is_word_byte (λ byte. not (byte == 10)) (λ x h. (and_parts (not (is_blank x)) (not (x == 10)) h).1) word ((and_parts (nat_lt 0 (length word)) (list_all is_word_byte word) h).1)

abbrev pub AreWords : List (List ℕ) → Type 0
AreWords words = AllByRecursion (λ word. is_word word ≡ true) words

joined_is_one_line : (words : List (List ℕ)) → AreWords words → is_one_line (join_with_byte 32 words) ≡ true
joined_is_one_line [] h = refl
joined_is_one_line (word ∷ []) h = word_is_one_line word h.0
joined_is_one_line (word ∷ next ∷ words) h =
    list_all-append (λ byte. not (byte == 10)) word (32 ∷ join_with_byte 32 (next ∷ words))
    ∙ both (is_one_line word) (is_one_line (join_with_byte 32 (next ∷ words))) (word_is_one_line word h.0) (joined_is_one_line (next ∷ words) h.1)

-- words with one space between each two are the words of their line
pub words_joined : (words : List (List ℕ)) → AreWords words → words_of (join_with_byte 32 words) ≡ words
words_joined [] h = refl
words_joined (word ∷ []) h =
    ap (filter (λ w. nat_lt 0 (length w))) (slice_split_none is_blank word (word_lacks_blank word h.0))
    ∙ cond-true (nat_lt 0 (length word)) _ _ ((and_parts (nat_lt 0 (length word)) (list_all is_word_byte word) h.0).0)
words_joined (word ∷ next ∷ words) h =
    ap (filter (λ w. nat_lt 0 (length w))) (slice_split_at is_blank word 32 (join_with_byte 32 (next ∷ words)) (word_lacks_blank word h.0) refl)
    ∙ cond-true (nat_lt 0 (length word)) _ _ ((and_parts (nat_lt 0 (length word)) (list_all is_word_byte word) h.0).0)
    ∙ ap (λ ws. word ∷ ws) (words_joined (next ∷ words) h.1)

pub words_of-joined : (word : List ℕ) (words : List (List ℕ)) → AreWords (word ∷ words) → words_of (join_with_byte 32 (word ∷ words)) ≡ word ∷ words
words_of-joined word words h = words_joined (word ∷ words) h

-- the first line of a text that begins with a line of words
pub first_words : (words : List (List ℕ)) (rest : List ℕ) → AreWords words → lines_of (line_text words ++ rest) ≡ join_with_byte 32 words ∷ lines_of rest
first_words words rest h = ap lines_of (append_assoc (join_with_byte 32 words) (10 ∷ []) rest) ∙ first_line (join_with_byte 32 words) rest (joined_is_one_line words h)
