-- The lines of bytes.
use Rattle.camp_talk.proofs.Words.{◌≡◌, ◌≢◌, ℕ, List, [], ◌∷◌, ◌++◌, refl, sym, ap, ◌∙◌, append_assoc, append-nil, ne_eqb, All, onto_first, All-head, All-tail, lines_of, lines-feed, lines-other, IsLine, ended, with_last}

-- a line with its line feed at the start
pub lines-line : (line rest : List ℕ) → IsLine line → lines_of (line ++ 10 ∷ rest) ≡ line ∷ lines_of rest
lines-line [] rest is = lines-feed 10 rest refl
lines-line (byte ∷ line) rest is =
    lines-other byte (line ++ 10 ∷ rest) (ne_eqb byte 10 (All-head (λ b. b ≢ 10) byte line is))
    ∙ ap (onto_first byte) (lines-line line rest (All-tail (λ b. b ≢ 10) byte line is))

onto-last : (byte : ℕ) (last : List ℕ) → onto_first byte (with_last [] last) ≡ (byte ∷ last) ∷ []
onto-last byte [] = refl
onto-last byte (next ∷ last) = refl

-- bytes without a line feed are one line
pub lines-last : (last : List ℕ) → IsLine last → lines_of last ≡ with_last [] last
lines-last [] is = refl
lines-last (byte ∷ last) is =
    lines-other byte last (ne_eqb byte 10 (All-head (λ b. b ≢ 10) byte last is))
    ∙ ap (onto_first byte) (lines-last last (All-tail (λ b. b ≢ 10) byte last is)) ∙ onto-last byte last

one_more : (line : List ℕ) (lines : List (List ℕ)) (rest : List ℕ)
    → ended (line ∷ lines) ++ rest ≡ line ++ 10 ∷ (ended lines ++ rest)
one_more line lines rest = append_assoc (line ++ 10 ∷ []) (ended lines) rest ∙ append_assoc line (10 ∷ []) (ended lines ++ rest)

pub lines-ended : (lines : List (List ℕ)) (rest : List ℕ) → All IsLine lines
    → lines_of (ended lines ++ rest) ≡ lines ++ lines_of rest
lines-ended [] rest are = refl
lines-ended (line ∷ lines) rest are =
    ap lines_of (one_more line lines rest)
    ∙ lines-line line (ended lines ++ rest) (All-head IsLine line lines are)
    ∙ ap (λ ls. line ∷ ls) (lines-ended lines rest (All-tail IsLine line lines are))

with-last : (lines : List (List ℕ)) (last : List ℕ) → lines ++ with_last [] last ≡ with_last lines last
with-last lines [] = append-nil lines
with-last lines (byte ∷ last) = refl

-- the lines of what was read
pub lines_read : (lines : List (List ℕ)) (last : List ℕ) → All IsLine lines → IsLine last
    → lines_of (ended lines ++ last) ≡ with_last lines last
lines_read lines last are is =
    lines-ended lines last are ∙ ap (λ ls. lines ++ ls) (lines-last last is) ∙ with-last lines last

pub with_last-append : (lines more : List (List ℕ)) (last : List ℕ)
    → with_last (lines ++ more) last ≡ lines ++ with_last more last
with_last-append lines more [] = refl
with_last-append lines more (byte ∷ last) = append_assoc lines more ((byte ∷ last) ∷ [])

-- whole lines end with a line feed
pub record EndsWithLine (bytes : List ℕ) : Type 0 where
  pub front : List ℕ
  pub is : bytes ≡ front ++ 10 ∷ []

pub ends_with_line : (line : List ℕ) (lines : List (List ℕ)) → EndsWithLine (ended (line ∷ lines) ++ [])
ends_with_line line [] = record { front = line; is = append-nil _ ∙ append-nil _ }
ends_with_line line (next ∷ lines) =
    let others = ends_with_line next lines in
    record {
      front = line ++ 10 ∷ others.front;
      is = one_more line (next ∷ lines) [] ∙ ap (λ bytes. line ++ 10 ∷ bytes) others.is
          ∙ sym (append_assoc line (10 ∷ others.front) (10 ∷ []));
    }
