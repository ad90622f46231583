-- Lines of contents, in pieces and as they are.
use Rattle.std.proofs.Common.{◌≡◌, ℕ, zero, suc, ◌+◌, ◌-◌, ◌<◌, ◌≤◌, Bool, true, false, true≢false, List, [], ◌∷◌, ◌++◌, length, take, drop, refl, sym, ◌∙◌, ap, subst, Option, Some, ◌⊎◌, ⊎_elim, arith, append_assoc, append-nil, length-append, length-drop, take-append-drop, take_at, not, ◌==◌}
use Rattle.std.specs.Prelude.{nat_lt}
use Rattle.std.specs.List.{flat_map, join_with_byte, slice_split}
use Rattle.std.proofs.lemmas.Bool.{cond-true, cond-false, cases_Bool, eqb-true, le-ltb, lt-ltb}
use Rattle.std.proofs.lemmas.Grind.{flat_map-append}
use Rattle.std.proofs.lemmas.List.Splits.{join_with_byte-slice_split}
use Rattle.camp_base.specs.Trees.{Lines}
use Rattle.camp_coding.specs.Contents.{ContentsComeBack, Encodes, HasLines, are_pieces_after, content_of_lines, content_lines, decoded, ended_line, ends, goes_on, has_full_last, lacks_last_newline, longest_piece, piece_content, without_empty_end, without_last_if, wrapped, wrapped_if, wrapped_in}
use Rattle.camp_coding.specs.Inside.Splitting.{AreLinesBefore}

-- pieces that are joined by line feeds have one after each but the last
join_is : (before : Lines) (last : List ℕ) → join_with_byte 10 (before ++ last ∷ []) ≡ flat_map ended_line before ++ last
join_is [] last = refl
join_is (x ∷ []) last =
    sym (ap (λ (l : List ℕ). l ++ last) (append-nil (ended_line x)) ∙ append_assoc x (10 ∷ []) last)
join_is (x ∷ y ∷ more) last =
    let rest : List ℕ = flat_map ended_line (y ∷ more) in
    ap (λ (l : List ℕ). x ++ (10 ∷ l)) (join_is (y ∷ more) last)
    ∙ sym (append_assoc x (10 ∷ []) (rest ++ last))
    ∙ sym (append_assoc (ended_line x) rest last)

take_all_but_last : (bytes : List ℕ) (byte : ℕ) → take (length (bytes ++ byte ∷ []) - 1) (bytes ++ byte ∷ []) ≡ bytes
take_all_but_last bytes byte =
    let size : length (bytes ++ byte ∷ []) - 1 ≡ length bytes = omega (arith, length-append bytes (byte ∷ [])) in
    ap (λ (n : ℕ). take n (bytes ++ byte ∷ [])) size ∙ take_at bytes (byte ∷ []) (length bytes) refl

-- the lines of a content, from its pieces
pub lines_from_pieces : (content : List ℕ) (before : Lines) (last : List ℕ) (lines : Lines) (lacks : Bool) → before ++ last ∷ [] ≡ slice_split (λ byte. byte == 10) content → AreLinesBefore before last lines lacks → HasLines content lines lacks
lines_from_pieces content before last lines false pieces are = record {
  content_is = (
      ap (flat_map ended_line) are.0
      ∙ sym (append-nil (flat_map ended_line before))
      ∙ ap (λ (l : List ℕ). flat_map ended_line before ++ l) (sym are.1)
      ∙ sym (join_is before last)
      ∙ ap (join_with_byte 10) pieces
      ∙ join_with_byte-slice_split 10 content
      );
  last = λ lacks. absurd (true≢false (sym lacks));
}
lines_from_pieces content before last lines true pieces are =
    let whole : List ℕ = flat_map ended_line before ++ last in
    let text : flat_map ended_line lines ≡ whole ++ 10 ∷ [] =
    ap (flat_map ended_line) are.0
    ∙ flat_map-append ended_line before (last ∷ [])
    ∙ ap (λ (l : List ℕ). flat_map ended_line before ++ l) (append-nil (ended_line last))
    ∙ sym (append_assoc (flat_map ended_line before) last (10 ∷ [])) in
    record {
      content_is = (
          ap (without_last_if true) text
          ∙ take_all_but_last whole 10
          ∙ sym (join_is before last)
          ∙ ap (join_with_byte 10) pieces
          ∙ join_with_byte-slice_split 10 content
          );
      last = λ _. (before, last, are.0, are.1);
    }

-- no pieces: no content
pub no_pieces : (content : List ℕ) (lines : Lines) → lines ≡ slice_split (λ byte. byte == 10) content → lines ≡ [] → HasLines content lines false
no_pieces content lines pieces none = record {
  content_is = ap (flat_map ended_line) none ∙ ap (join_with_byte 10) (sym none ∙ pieces) ∙ join_with_byte-slice_split 10 content;
  last = λ lacks. absurd (true≢false (sym lacks));
}

without_last_of : (before : Lines) (last : List ℕ) → without_empty_end (before ++ last ∷ []) ≡ before ++ without_empty_end (last ∷ [])
without_last_of [] last = refl
without_last_of (x ∷ []) last = refl
without_last_of (x ∷ y ∷ more) last = ap (λ (l : Lines). x ∷ l) (without_last_of (y ∷ more) last)

full_last_of : (before : Lines) (last : List ℕ) → has_full_last (before ++ last ∷ []) ≡ not (length last == 0)
full_last_of [] last = refl
full_last_of (x ∷ []) last = refl
full_last_of (x ∷ y ∷ more) last = full_last_of (y ∷ more) last

full : (last : List ℕ) → 0 < length last → (length last == 0) ≡ false
full last some =
    ⊎_elim (λ is. absurd (omega (arith, eqb-true (length last) 0 is, some))) (λ other. other) (cases_Bool (length last == 0))

-- the lines of a content are those of its pieces
pub content_lines_from_pieces : (content : List ℕ) (before : Lines) (last : List ℕ) (lines : Lines) (lacks : Bool) → before ++ last ∷ [] ≡ slice_split (λ byte. byte == 10) content → AreLinesBefore before last lines lacks → lines ≡ content_lines content
content_lines_from_pieces content before last lines false pieces are =
    are.0
    ∙ sym (append-nil before)
    ∙ ap (λ (l : List ℕ). before ++ without_empty_end (l ∷ [])) (sym are.1)
    ∙ sym (without_last_of before last)
    ∙ ap without_empty_end pieces
content_lines_from_pieces content before last lines true pieces are =
    are.0
    ∙ ap (λ (l : Lines). before ++ l) (sym (cond-false _ _ _ (full last are.1)))
    ∙ sym (without_last_of before last)
    ∙ ap without_empty_end pieces

-- its last line lacks its LF where the last piece is not empty
pub lacks_from_pieces : (content : List ℕ) (before : Lines) (last : List ℕ) (lines : Lines) (lacks : Bool) → before ++ last ∷ [] ≡ slice_split (λ byte. byte == 10) content → AreLinesBefore before last lines lacks → lacks ≡ lacks_last_newline content
lacks_from_pieces content before last lines false pieces are =
    ap (λ (l : List ℕ). not (length l == 0)) (sym are.1) ∙ sym (full_last_of before last) ∙ ap has_full_last pieces
lacks_from_pieces content before last lines true pieces are =
    ap not (sym (full last are.1)) ∙ sym (full_last_of before last) ∙ ap has_full_last pieces

-- a longer line in pieces: one, and those of the rest
pub wrapped_more : (count : ℕ) (line : List ℕ) → nat_lt longest_piece (length line) ≡ true → wrapped_in (suc count) line ≡ (goes_on ∷ take longest_piece line) ∷ wrapped_in count (drop longest_piece line)
wrapped_more count line long = cond-true _ _ _ long

-- a short line in pieces is one
pub wrapped_done : (count : ℕ) (line : List ℕ) → nat_lt longest_piece (length line) ≡ false → wrapped_in count line ≡ (ends ∷ line) ∷ []
wrapped_done zero line short = refl
wrapped_done (suc count) line short = cond-false _ _ _ short

-- a piece of a longer line is stored
piece_of_rest_taken : (stored next : Lines) (rest : List ℕ) (count : ℕ) (whole : Lines) → longest_piece < length rest → length rest ≤ count → stored ++ wrapped_in count rest ≡ whole → next ≡ stored ++ (goes_on ∷ take longest_piece rest) ∷ [] → (fewer : ℕ) × (length (drop longest_piece rest) ≤ fewer) × (next ++ wrapped_in fewer (drop longest_piece rest) ≡ whole)
piece_of_rest_taken stored next rest zero whole long le is pushed = absurd (omega (arith, long, le))
piece_of_rest_taken stored next rest (suc count) whole long le is pushed =
    let more : Lines = wrapped_in count (drop longest_piece rest) in (
      count,
      omega (arith, long, le, length-drop longest_piece rest),
      ap (λ (l : Lines). l ++ more) pushed
          ∙ append_assoc stored ((goes_on ∷ take longest_piece rest) ∷ []) more
          ∙ ap (λ (l : Lines). stored ++ l) (sym (wrapped_more count rest (lt-ltb longest_piece (length rest) long)))
          ∙ is,
    )

-- the same by the two parts of the line
pub piece_taken : (stored next : Lines) (rest piece after : List ℕ) (count : ℕ) (whole : Lines) → longest_piece < length rest → length rest ≤ count → stored ++ wrapped_in count rest ≡ whole → piece ≡ take longest_piece rest → after ≡ drop longest_piece rest → next ≡ stored ++ (goes_on ∷ piece) ∷ [] → (fewer : ℕ) × (length after ≤ fewer) × (next ++ wrapped_in fewer after ≡ whole)
piece_taken stored next rest piece after count whole long le is piece_is after_is pushed =
    subst (λ (l : List ℕ). (fewer : ℕ) × (length l ≤ fewer) × (next ++ wrapped_in fewer l ≡ whole)) (sym after_is)
    (piece_of_rest_taken stored next rest count whole long le is (pushed ∙ ap (λ (l : List ℕ). stored ++ (goes_on ∷ l) ∷ []) piece_is))

-- the last piece of a line is stored
pub last_piece_taken : (stored next : Lines) (rest : List ℕ) (count : ℕ) (whole : Lines) → length rest ≤ longest_piece → stored ++ wrapped_in count rest ≡ whole → next ≡ stored ++ (ends ∷ rest) ∷ [] → next ≡ whole
last_piece_taken stored next rest count whole short is pushed =
    let no : nat_lt longest_piece (length rest) ≡ false = le-ltb longest_piece (length rest) short in
    pushed ∙ ap (λ (l : Lines). stored ++ l) (sym (wrapped_done count rest no)) ∙ is

-- the text of a line in pieces
text_of_wrapped : (count : ℕ) (line : List ℕ) (rest : Lines) → flat_map piece_content (wrapped_in count line ++ rest) ≡ ended_line line ++ flat_map piece_content rest
text_of_wrapped zero line rest = refl
text_of_wrapped (suc count) line rest =
    let first : List ℕ = take longest_piece line in
    let more : List ℕ = drop longest_piece line in
    let after : List ℕ = flat_map piece_content rest in
    ⊎_elim
    (λ long.
    ap (λ (pieces : Lines). flat_map piece_content (pieces ++ rest)) (wrapped_more count line long)
    ∙ ap (λ (l : List ℕ). first ++ l) (text_of_wrapped count more rest)
    ∙ sym (append_assoc first (ended_line more) after)
    ∙ ap (λ (l : List ℕ). l ++ after) (sym (append_assoc first more (10 ∷ [])) ∙ ap ended_line (take-append-drop longest_piece line)))
    (λ short. ap (λ (pieces : Lines). flat_map piece_content (pieces ++ rest)) (wrapped_done (suc count) line short))
    (cases_Bool (nat_lt longest_piece (length line)))

text_of_all_wrapped : (lines : Lines) → flat_map piece_content (flat_map wrapped lines) ≡ flat_map ended_line lines
text_of_all_wrapped [] = refl
text_of_all_wrapped (line ∷ lines) =
    text_of_wrapped (length line) line (flat_map wrapped lines)
    ∙ ap (λ (l : List ℕ). ended_line line ++ l) (text_of_all_wrapped lines)

-- lines in pieces are pieces
wrapped_are_pieces : (ended : Bool) (count : ℕ) (line : List ℕ) (rest : Lines) → are_pieces_after ended (wrapped_in count line ++ rest) ≡ are_pieces_after true rest
wrapped_are_pieces ended zero line rest = refl
wrapped_are_pieces ended (suc count) line rest =
    ⊎_elim
    (λ long.
    ap (λ (pieces : Lines). are_pieces_after ended (pieces ++ rest)) (wrapped_more count line long)
    ∙ wrapped_are_pieces false count (drop longest_piece line) rest)
    (λ short. ap (λ (pieces : Lines). are_pieces_after ended (pieces ++ rest)) (wrapped_done (suc count) line short))
    (cases_Bool (nat_lt longest_piece (length line)))

all_wrapped_are_pieces : (lines : Lines) → are_pieces_after true (flat_map wrapped lines) ≡ true
all_wrapped_are_pieces [] = refl
all_wrapped_are_pieces (line ∷ lines) =
    wrapped_are_pieces true (length line) line (flat_map wrapped lines) ∙ all_wrapped_are_pieces lines

back : (content : List ℕ) (stored : Lines) (is_wrapped lacks : Bool) (lines : Lines) → stored ≡ wrapped_if is_wrapped lines → content_of_lines lines lacks ≡ content → decoded stored is_wrapped lacks ≡ Some content
back content stored false lacks lines is content_is = ap (λ (l : Lines). Some (content_of_lines l lacks)) is ∙ ap Some content_is
back content stored true lacks lines is content_is =
    ap (λ (l : Lines). decoded l true lacks) is
    ∙ cond-false _ _ _ (ap (λ (b : Bool). not b) (all_wrapped_are_pieces lines))
    ∙ ap (λ (text : List ℕ). Some (without_last_if lacks text)) (text_of_all_wrapped lines)
    ∙ ap Some content_is

pub come_back : ContentsComeBack
come_back content stored is_wrapped lacks encodes =
    back content stored is_wrapped lacks encodes.lines encodes.stored_is encodes.has.content_is
