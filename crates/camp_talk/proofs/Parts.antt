-- What is read of a command, piece by piece.
use Rattle.camp_talk.proofs.Words.{◌≡◌, ◌≢◌, ℕ, ◌-◌, ◌<◌, Bool, true, false, cond, nat_lt, List, [], ◌∷◌, ◌++◌, length, map, take, drop, All, Consumes, Consumes-trans, drop-append_seam, take-append_seam, flat_map-append, lines_of, as_read, lines_in, Option, None, Some, refl, sym, ap, subst, ◌∙◌, append_assoc, append-nil, arith, length-append, map-append, All-append, All-cons, All-drop, All-head, All-nil, All-tail, All-take, CommandLines, Ends, GoesOn, HasRead, IsLine, ReadsLine, ReadsLines, ReadsNext, ended, with_last}
use Rattle.camp_talk.proofs.Cuts.{lines-ended, lines_read}

-- ---- lines as they are read

as_read_first : (first : ℕ) (rest : List ℕ) (fits : Bool) → IsLine (first ∷ rest)
    → IsLine (first ∷ cond fits rest (63 ∷ take 4_096 (drop 1 rest)))
as_read_first first rest true is = is
as_read_first first rest false is =
    let front = take 4_096 (drop 1 rest) in
    let differs : 63 ≢ 10 = λ (same : 63 ≡ 10). omega (arith, same) in
    let others : IsLine front =
    All-take (λ byte. byte ≢ 10) 4_096 (drop 1 rest) (All-drop (λ byte. byte ≢ 10) 1 rest (All-tail (λ byte. byte ≢ 10) first rest is)) in
    All-cons (λ byte. byte ≢ 10) first (63 ∷ front) (All-head (λ byte. byte ≢ 10) first rest is)
    (All-cons (λ byte. byte ≢ 10) 63 front differs others)

as_read_is_line : (line : List ℕ) → IsLine line → IsLine (as_read line)
as_read_is_line [] is = is
as_read_is_line (first ∷ rest) is = as_read_first first rest (nat_lt (length rest) 1_048_576) is

as_read_are_lines : (lines : List (List ℕ)) → All IsLine lines → All IsLine (map as_read lines)
as_read_are_lines [] are = All-nil IsLine
as_read_are_lines (line ∷ lines) are =
    All-cons IsLine (as_read line) (map as_read lines) (as_read_is_line line (All-head IsLine line lines are))
    (as_read_are_lines lines (All-tail IsLine line lines are))

-- nothing is read of no bytes
pub none_left : (left : List ℕ) → [] ≡ as_read left → left ≡ []
none_left [] is = refl
none_left (byte ∷ left) is = cc

as_read_with_last : (lines : List (List ℕ)) (last : List ℕ)
    → map as_read (with_last lines last) ≡ with_last (map as_read lines) (as_read last)
as_read_with_last lines [] = refl
as_read_with_last lines (byte ∷ last) = map-append as_read lines ((byte ∷ last) ∷ [])

module _ (a b : Option (List ℕ)) (old new : List ℕ) (lines : List (List ℕ)) (last : List ℕ) (reads : ReadsLines a b old new lines last) where
  -- the lines that were appended
  pub lines_held : lines_of (ended lines ++ last) ≡ with_last lines last
  lines_held =
      lines_read lines last (subst (All IsLine) (sym reads.are_read) (as_read_are_lines reads.whole reads.are_lines))
      (subst IsLine (sym reads.is_read) (as_read_is_line reads.left reads.is_line))

  -- are those that were read
  pub lines_are_read : lines_in (ended reads.whole ++ reads.left) ≡ with_last lines last
  lines_are_read =
      ap (map as_read) (lines_read reads.whole reads.left reads.are_lines reads.is_line)
      ∙ as_read_with_last reads.whole reads.left
      ∙ ap (λ (ls : List (List ℕ)). with_last ls (as_read reads.left)) (sym reads.are_read)
      ∙ ap (with_last lines) (sym reads.is_read)

-- ---- parts

pub ends_after : (a b c : Option (List ℕ)) (bytes : List ℕ) → Consumes a b bytes → Ends b c → Ends a c
ends_after None b c bytes consumes ends = tt
ends_after (Some xs) None c bytes consumes ends = absurd consumes
ends_after (Some xs) (Some ys) c bytes consumes ends = ends

-- the lines of the rest after whole lines
pub lines_after : (a b : Option (List ℕ)) (old new : List ℕ) (lines : List (List ℕ)) (reads : ReadsLines a b old new lines [])
    (some : List ℕ) → lines_in ((ended reads.whole ++ reads.left) ++ some) ≡ lines ++ lines_in some
lines_after a b old new lines reads some =
    ap (λ (left : List ℕ). lines_in ((ended reads.whole ++ left) ++ some)) (none_left reads.left reads.is_read)
    ∙ ap (λ (bytes : List ℕ). lines_in (bytes ++ some)) (append-nil (ended reads.whole))
    ∙ ap (map as_read) (lines-ended reads.whole some reads.are_lines)
    ∙ map-append as_read reads.whole (lines_of some)
    ∙ ap (λ (ls : List (List ℕ)). ls ++ lines_in some) (sym reads.are_read)

module _ (a b c : Option (List ℕ)) (old mid new : List ℕ) where
  -- lines after lines
  pub reads_on : (lines more : List (List ℕ)) (last : List ℕ) → ReadsLines a b old mid lines []
      → ReadsLines b c mid new more last → ReadsLines a c old new (lines ++ more) last
  reads_on lines more last first then = record {
    grows = then.grows ∙ ap (λ bytes. bytes ++ (ended more ++ last)) first.grows
        ∙ append_assoc old (ended lines ++ []) (ended more ++ last) ∙ ap (λ bytes. old ++ bytes) (joined lines more last);
    whole = first.whole ++ then.whole;
    left = then.left;
    are_read = ap (λ ls. ls ++ more) first.are_read ∙ ap (λ ls. map as_read first.whole ++ ls) then.are_read
        ∙ sym (map-append as_read first.whole then.whole);
    is_read = then.is_read;
    consumes = subst (Consumes a c) (joined first.whole then.whole then.left) (Consumes-trans a b c (ended first.whole ++ [])
        (ended then.whole ++ then.left) (subst (λ left. Consumes a b (ended first.whole ++ left)) (none_left first.left first.is_read) first.consumes) then.consumes);
    are_lines = All-append IsLine first.whole then.whole first.are_lines then.are_lines;
    is_line = then.is_line;
  }
    where
      joined : (lines more : List (List ℕ)) (last : List ℕ)
          → (ended lines ++ []) ++ (ended more ++ last) ≡ ended (lines ++ more) ++ last
      joined lines more last =
          ap (λ bytes. bytes ++ (ended more ++ last)) (append-nil (ended lines))
          ∙ sym (append_assoc (ended lines) (ended more) last)
          ∙ ap (λ bytes. bytes ++ last) (sym (flat_map-append (λ line. line ++ 10 ∷ []) lines more))

-- the last line of bytes
pub line_at : (a b : Option (List ℕ)) (old new line : List ℕ) → ReadsLines a b old new (line ∷ []) []
    → take (length new - 1 - length old) (drop (length old) new) ≡ line
line_at a b old new line reads =
    let all : new ≡ old ++ (line ++ 10 ∷ []) =
    reads.grows ∙ ap (λ bytes. old ++ bytes) (append-nil ((line ++ 10 ∷ []) ++ []) ∙ append-nil (line ++ 10 ∷ [])) in
    let long = ap (λ (bytes : List ℕ). length bytes) all ∙ length-append old (line ++ 10 ∷ []) in
    let short : length new - 1 - length old ≡ length line = omega (arith, long, length-append line (10 ∷ [])) in
    ap (λ n. take n (drop (length old) new)) short
    ∙ ap (λ bytes. take (length line) (drop (length old) bytes)) all
    ∙ ap (take (length line)) (drop-append_seam old (line ++ 10 ∷ [])) ∙ take-append_seam line (10 ∷ [])

-- ---- lines that are processed as part of a command

-- a line was read, and processed
module _ (a b : Option (List ℕ)) (old new given : List ℕ) (x y : CommandLines)
    (goes : (first : List ℕ) (rest : List (List ℕ)) → HasRead x first rest → HasRead y first (rest ++ given ∷ [])) where
  pub line_on : (reads : ReadsLine a b true old new) → given ≡ reads.0 → ReadsNext a b true old new x y
  line_on (line, reads) is = (line, reads, subst (λ (l : List ℕ). GoesOn x y (l ∷ [])) is goes)

  pub last_on : (reads : ReadsLine a b false old new) → given ≡ reads.0 → 0 < length given → ReadsNext a b false old new x y
  last_on ([], reads, ends) is some = absurd (omega (arith, some, ap (λ (bytes : List ℕ). length bytes) is))
  last_on (byte ∷ last, reads, ends) is some =
      (byte ∷ last, reads, subst (λ (l : List ℕ). GoesOn x y (l ∷ [])) is goes, ends)

-- the one without a line feed
pub last_is : (a b : Option (List ℕ)) (old new : List ℕ) (reads : ReadsLine a b false old new) → drop (length old) new ≡ reads.0
last_is a b old new (last, reads, ends) = ap (drop (length old)) reads.grows ∙ drop-append_seam old last
