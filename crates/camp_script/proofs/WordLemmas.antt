-- The words of a line, taken one by one from its start.
use Rattle.std.specs.List.{slice_split, position, position_or_len, filter}
use Rattle.std.proofs.lemmas.List.{drop_all, drop_more, take_all, take_rest, nil_from_length}
use Rattle.camp_script.proofs.Common.{is_blank, words_of, ◌≡◌, ℕ, suc, ◌+◌, ◌-◌, ◌<◌, ◌≤◌, Bool, true, false, cond, not, List, [], ◌∷◌, length, get_or, take, drop, refl, sym, ap, ◌∙◌, arith, ⊎_elim, length-take, length-drop, get_or-drop, add-zero, Option, unwrap_or, ltb, cases_Bool, cases_lt, cond-true, cond-false, lt-ltb, le-ltb, not-true, not-false, both_ways, All-from_get_or, prefix_len-le-length, prefix_len_passes, prefix_len_stops, slice_split_first, slice_split_none, slice_split-cons_yes}

-- the first index that passes, or the end
pub position-at_end : (p : ℕ → Bool) (bytes : List ℕ) → unwrap_or (position p bytes) (length bytes) ≡ position_or_len p bytes
position-at_end p bytes =
    let short = prefix_len-le-length (λ x. not (p x)) bytes in
    ⊎_elim
    (λ lt. ap (λ (o : Option ℕ). unwrap_or o (length bytes)) (cond-true _ _ _ (lt-ltb _ _ lt)))
    (λ le. ap (λ (o : Option ℕ). unwrap_or o (length bytes)) (cond-false _ _ _ (le-ltb _ _ le)) ∙ omega arith)
    (cases_lt (position_or_len p bytes) (length bytes))

-- a blank at the front adds no word
words_of-blank : (byte : ℕ) (bytes : List ℕ) → is_blank byte ≡ true → words_of (byte ∷ bytes) ≡ words_of bytes
words_of-blank byte bytes blank = rw (slice_split-cons_yes is_blank byte bytes blank) refl

-- the number of blanks at the start
abbrev pub blanks : List ℕ → ℕ
blanks bytes = position_or_len (λ byte. not (is_blank byte)) bytes

blanks-yes : (byte : ℕ) (bytes : List ℕ) → is_blank byte ≡ true → blanks (byte ∷ bytes) ≡ suc (blanks bytes)
blanks-yes byte bytes blank = ap (λ b. cond (not (not b)) (1 + blanks bytes) 0) blank ∙ omega arith

blanks-no : (byte : ℕ) (bytes : List ℕ) → is_blank byte ≡ false → blanks (byte ∷ bytes) ≡ 0
blanks-no byte bytes word = ap (λ b. cond (not (not b)) (1 + blanks bytes) 0) word

-- nor do all blanks at the start together
words_of-blanks : (bytes : List ℕ) → words_of bytes ≡ words_of (drop (blanks bytes) bytes)
words_of-blanks [] = refl
words_of-blanks (byte ∷ bytes) =
    ⊎_elim
    (λ blank. words_of-blank byte bytes blank ∙ words_of-blanks bytes ∙ ap (λ n. words_of (drop n (byte ∷ bytes))) (sym (blanks-yes byte bytes blank)))
    (λ word. ap (λ n. words_of (drop n (byte ∷ bytes))) (sym (blanks-no byte bytes word)))
    (cases_Bool (is_blank byte))

-- no blank follows them
blanks-stop : (bytes : List ℕ) → blanks bytes < length bytes → is_blank (get_or bytes (blanks bytes) 0) ≡ false
blanks-stop bytes lt = not-true _ (not-false _ (prefix_len_stops (λ byte. not (not (is_blank byte))) bytes 0 lt))

-- the bytes before the first blank
abbrev pub word : List ℕ → ℕ
word bytes = position_or_len is_blank bytes

-- pieces without the empty ones, if the first is not empty
filter-first : (piece : List ℕ) (pieces : List (List ℕ)) → 0 < length piece → filter (λ w. ltb 0 (length w)) (piece ∷ pieces) ≡ piece ∷ filter (λ w. ltb 0 (length w)) pieces
filter-first piece pieces some = cond-true _ _ _ (lt-ltb 0 (length piece) some)

-- some bytes before a blank are a word
words_of-before : (bytes : List ℕ) → 0 < word bytes → word bytes < length bytes → words_of bytes ≡ take (word bytes) bytes ∷ words_of (drop (word bytes) bytes)
words_of-before bytes some lt =
    let long = length-take (word bytes) bytes in
    let blank : is_blank (get_or bytes (word bytes) 0) ≡ true = not-false _ (prefix_len_stops (λ byte. not (is_blank byte)) bytes 0 lt) in
    let rest : words_of (drop (word bytes) bytes) ≡ words_of (drop (word bytes + 1) bytes) =
    ap words_of (drop_more bytes (word bytes) 0 lt) ∙ words_of-blank (get_or bytes (word bytes) 0) (drop (word bytes + 1) bytes) blank in
    ap (λ (pieces : List (List ℕ)). filter (λ w. ltb 0 (length w)) pieces) (slice_split_first is_blank bytes 0 lt)
    ∙ filter-first (take (word bytes) bytes) (slice_split is_blank (drop (word bytes + 1) bytes)) (omega arith)
    ∙ ap (λ (rest : List (List ℕ)). take (word bytes) bytes ∷ rest) (sym rest)

-- some bytes without a blank are a word
words_of-whole : (bytes : List ℕ) → 0 < word bytes → length bytes ≤ word bytes → words_of bytes ≡ take (word bytes) bytes ∷ words_of (drop (word bytes) bytes)
words_of-whole bytes some all =
    let short = prefix_len-le-length (λ byte. not (is_blank byte)) bytes in
    let none = All-from_get_or (λ byte. is_blank byte ≡ false) bytes 0 (λ i lt. not-true _ (prefix_len_passes (λ byte. not (is_blank byte)) bytes i 0 (omega arith))) in
    ap (λ (pieces : List (List ℕ)). filter (λ w. ltb 0 (length w)) pieces) (slice_split_none is_blank bytes none)
    ∙ filter-first bytes [] (omega arith)
    ∙ ap (λ (front : List ℕ). front ∷ []) (sym (take_all (word bytes) bytes all))
    ∙ ap (λ (rest : List ℕ). take (word bytes) bytes ∷ words_of rest) (sym (drop_all (word bytes) bytes all))

words_of-word : (bytes : List ℕ) → 0 < word bytes → words_of bytes ≡ take (word bytes) bytes ∷ words_of (drop (word bytes) bytes)
words_of-word bytes some = ⊎_elim (words_of-before bytes some) (words_of-whole bytes some) (cases_lt (word bytes) (length bytes))

-- after the blanks at the start of a line comes its first word
words_of-cut : (line rest : List ℕ) (n : ℕ) → rest ≡ drop (blanks line) line → n ≡ word rest → 0 < length (take n rest) → words_of line ≡ take n rest ∷ words_of (drop n rest)
words_of-cut line rest n rest-is n-is some =
    let long = length-take n rest in
    words_of-blanks line ∙ ap words_of (sym rest-is) ∙ words_of-word rest (omega arith)
    ∙ ap (λ n. take n rest ∷ words_of (drop n rest)) (sym n-is)

-- if all bytes are blank, there is no word
nothing_behind : (line rest : List ℕ) → rest ≡ drop (blanks line) line → word rest ≡ 0 → rest ≡ []
nothing_behind line rest rest-is none =
    ⊎_elim
    (λ lt.
    let long = ap length rest-is ∙ length-drop (blanks line) line in
    let blank : is_blank (get_or rest 0 0) ≡ true = ap (λ n. is_blank (get_or rest n 0)) (sym none) ∙ not-false _ (prefix_len_stops (λ byte. not (is_blank byte)) rest 0 (omega arith)) in
    let place : get_or rest 0 0 ≡ get_or line (blanks line) 0 = ap (λ (r : List ℕ). get_or r 0 0) rest-is ∙ get_or-drop (blanks line) line 0 0 ∙ ap (λ n. get_or line n 0) (add-zero (blanks line)) in
    absurd (both_ways _ (blanks-stop line (omega arith)) (ap is_blank (sym place) ∙ blank)))
    (λ le. nil_from_length rest (omega arith))
    (cases_lt 0 (length rest))

words_of-none : (line rest : List ℕ) (n : ℕ) → rest ≡ drop (blanks line) line → n ≡ word rest → length (take n rest) ≡ 0 → (words_of line ≡ []) × (words_of (drop n rest) ≡ [])
words_of-none line rest n rest-is n-is none =
    let long = length-take n rest in
    let short = prefix_len-le-length (λ byte. not (is_blank byte)) rest in
    let gone = nothing_behind line rest rest-is (omega arith) in
    (words_of-blanks line ∙ ap words_of (sym rest-is) ∙ ap words_of gone, ap (λ (r : List ℕ). words_of (drop n r)) gone ∙ ap words_of (drop_all n [] (omega arith)))

-- a line without the blanks at its start, split at its next blank
pub record IsCut (line front rest : List ℕ) : Type 0 where
  pub cut : List ℕ
  pub end : ℕ
  pub cut-is : cut ≡ drop (blanks line) line
  pub end-is : end ≡ word cut
  pub front-is : front ≡ take end cut
  pub rest-is : rest ≡ drop end cut

pub IsCut-at : (line front rest : List ℕ) (n k : ℕ) → n ≡ blanks line → k ≡ word (take (length line - n) (drop n line))
    → front ≡ take k (take (length line - n) (drop n line)) → rest ≡ drop k (take (length line - n) (drop n line)) → IsCut line front rest
IsCut-at line front rest n k n-is k-is front-is rest-is = record {
  cut = take (length line - n) (drop n line);
  end = k;
  cut-is = take_rest line n ∙ ap (λ n. drop n line) n-is;
  end-is = k-is;
  front-is = front-is;
  rest-is = rest-is;
}

pub first_word : (line front rest : List ℕ) → IsCut line front rest → 0 < length front → words_of line ≡ front ∷ words_of rest
first_word line front rest h some =
    rw (h.front-is, h.rest-is) (words_of-cut line h.cut h.end h.cut-is h.end-is (omega (arith, ap length h.front-is)))

pub no_word : (line front rest : List ℕ) → IsCut line front rest → length front ≡ 0 → (words_of line ≡ []) × (words_of rest ≡ [])
no_word line front rest h none =
    rw h.rest-is (words_of-none line h.cut h.end h.cut-is h.end-is (omega (arith, ap length h.front-is)))
