-- The lines of bytes, each with its line feed, are those of a script.
use Rattle.camp_script.proofs.Common.{slice_split-cons_yes, slice_split-cons_no, length-slice_split, ◌≡◌, ℕ, suc, ◌-◌, ◌<◌, Bool, true, false, cond, ◌==◌, List, [], ◌∷◌, length, take, drop, map, refl, sym, ap, ◌∙◌, arith, ⊎_elim, slice_index, cases_Bool, lines_of, without_empty_last, without_end}
use Rattle.std.specs.List.{slice_split, onto_first}
use Rattle.bstr.specs.Text.{line_len, lines_of as ended_lines}
use Rattle.bstr.proofs.lemmas.LineLemmas.{lines-nil, lines-step}

-- ---- lines grow at their start

ended-feed : (byte : ℕ) (bytes : List ℕ) → (byte == 10) ≡ true → ended_lines (byte ∷ bytes) ≡ (byte ∷ []) ∷ ended_lines bytes
unfolding line_len
ended-feed byte bytes feed =
    let one : line_len (byte ∷ bytes) ≡ 1 = ap (λ b. cond b 1 (suc (line_len bytes))) feed in
    lines-step (byte ∷ bytes) (omega arith) ∙ ap (λ n. take n (byte ∷ bytes) ∷ ended_lines (drop n (byte ∷ bytes))) one

ended-more : (byte : ℕ) (bytes : List ℕ) → take (line_len bytes) bytes ∷ ended_lines (drop (line_len bytes) bytes) ≡ ended_lines bytes → (byte ∷ take (line_len bytes) bytes) ∷ ended_lines (drop (line_len bytes) bytes) ≡ onto_first byte (ended_lines bytes)
ended-more byte bytes first = ap (onto_first byte) first

ended-other : (byte : ℕ) (bytes : List ℕ) → (byte == 10) ≡ false → ended_lines (byte ∷ bytes) ≡ onto_first byte (ended_lines bytes)
unfolding line_len
ended-other byte [] other =
    let one : line_len (byte ∷ []) ≡ 1 = ap (λ b. cond b 1 1) other in
    lines-step (byte ∷ []) (omega arith) ∙ ap (λ n. take n (byte ∷ []) ∷ ended_lines (drop n (byte ∷ []))) one
    ∙ ap (λ (rest : List (List ℕ)). (byte ∷ []) ∷ rest) lines-nil ∙ sym (ap (onto_first byte) lines-nil)
ended-other byte (next ∷ bytes) other =
    let rest = next ∷ bytes in
    let long : line_len (byte ∷ rest) ≡ suc (line_len rest) = ap (λ b. cond b 1 (suc (line_len rest))) other in
    lines-step (byte ∷ rest) (omega arith) ∙ ap (λ n. take n (byte ∷ rest) ∷ ended_lines (drop n (byte ∷ rest))) long
    ∙ ended-more byte rest (sym (lines-step rest (omega arith)))

pub more-last : (piece : List ℕ) (pieces : List (List ℕ)) → 0 < length pieces → without_empty_last (piece ∷ pieces) ≡ piece ∷ without_empty_last pieces
more-last [] [] some = absurd (omega arith)
more-last [] (next ∷ pieces) some = refl
more-last (byte ∷ piece) pieces some = refl

onto-last : (byte : ℕ) (pieces : List (List ℕ)) → without_empty_last (onto_first byte pieces) ≡ onto_first byte (without_empty_last pieces)
onto-last byte [] = refl
onto-last byte ([] ∷ []) = refl
onto-last byte ([] ∷ next ∷ pieces) = refl
onto-last byte ((first ∷ piece) ∷ pieces) = refl

pub lines-feed : (byte : ℕ) (bytes : List ℕ) → (byte == 10) ≡ true → lines_of (byte ∷ bytes) ≡ [] ∷ lines_of bytes
lines-feed byte bytes feed =
    ap without_empty_last (slice_split-cons_yes (λ byte. byte == 10) byte bytes feed)
    ∙ more-last [] (slice_split (λ byte. byte == 10) bytes) (omega (arith, length-slice_split (λ byte. byte == 10) bytes))

pub lines-other : (byte : ℕ) (bytes : List ℕ) → (byte == 10) ≡ false → lines_of (byte ∷ bytes) ≡ onto_first byte (lines_of bytes)
lines-other byte bytes other =
    ap without_empty_last (slice_split-cons_no (λ byte. byte == 10) byte bytes other)
    ∙ onto-last byte (slice_split (λ byte. byte == 10) bytes)

-- ---- without the line feed

end-feed : (byte : ℕ) → (byte == 10) ≡ true → without_end (byte ∷ []) ≡ []
end-feed byte feed = ap (λ b. cond b [] (byte ∷ [])) feed

end-alone : (byte : ℕ) → (byte == 10) ≡ false → without_end (byte ∷ []) ≡ byte ∷ []
end-alone byte other = ap (λ b. cond b [] (byte ∷ [])) other

either_way : (b : Bool) (byte : ℕ) (front whole : List ℕ) → cond b (byte ∷ front) (byte ∷ whole) ≡ byte ∷ cond b front whole
either_way true byte front whole = refl
either_way false byte front whole = refl

end-more : (byte : ℕ) (line : List ℕ) → (byte == 10) ≡ false → without_end (byte ∷ line) ≡ byte ∷ without_end line
end-more byte [] other = end-alone byte other
end-more byte (next ∷ line) other =
    let rest = next ∷ line in
    let long : length (byte ∷ rest) - 1 ≡ suc (length line) = omega arith in
    let short : length rest - 1 ≡ length line = omega arith in
    ap (λ n. cond (slice_index (byte ∷ rest) n == 10) (take n (byte ∷ rest)) (byte ∷ rest)) long
    ∙ either_way (slice_index rest (length line) == 10) byte (take (length line) rest) rest
    ∙ ap (λ n. byte ∷ cond (slice_index rest n == 10) (take n rest) rest) (sym short)

end-onto : (byte : ℕ) (lines : List (List ℕ)) → (byte == 10) ≡ false → map without_end (onto_first byte lines) ≡ onto_first byte (map without_end lines)
end-onto byte [] other = ap (λ (line : List ℕ). line ∷ []) (end-alone byte other)
end-onto byte (line ∷ lines) other = ap (λ (first : List ℕ). first ∷ map without_end lines) (end-more byte line other)

pub lines_without_end : (bytes : List ℕ) → map without_end (ended_lines bytes) ≡ lines_of bytes
lines_without_end [] = ap (map without_end) lines-nil
lines_without_end (byte ∷ bytes) =
    let same = lines_without_end bytes in
    ⊎_elim
    (λ feed. ap (map without_end) (ended-feed byte bytes feed)
    ∙ ap (λ (first : List ℕ). first ∷ map without_end (ended_lines bytes)) (end-feed byte feed)
    ∙ ap (λ (rest : List (List ℕ)). [] ∷ rest) same ∙ sym (lines-feed byte bytes feed))
    (λ other. ap (map without_end) (ended-other byte bytes other) ∙ end-onto byte (ended_lines bytes) other
    ∙ ap (onto_first byte) same ∙ sym (lines-other byte bytes other))
    (cases_Bool (byte == 10))
