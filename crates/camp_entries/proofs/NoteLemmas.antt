-- Notes at the beginning of bytes.
use Rattle.std.proofs.Common.{◌≡◌, ◌≢◌, ℕ, ◌+◌, ◌-◌, ◌<◌, ◌≤◌, Bool, true, false, not, ◌&&◌, ◌==◌, List, [], ◌∷◌, ◌++◌, length, take, drop, codes, refl, sym, ap, subst, ◌∙◌, arith, rules, inl, inr, ◌⊎◌, Option, None, Some, get_or, length-append, length-drop, append_assoc, append-nil}
use Rattle.std.proofs.Math.Seq.{drop-append_seam, take-append_seam}
use Rattle.std.proofs.Math.Seq.{take-add}
use Rattle.std.proofs.lemmas.Bool.{and_from, and_parts, false≢true}
use Rattle.std.proofs.lemmas.Bool.Decides.{nat_tests}
use Rattle.std.proofs.lemmas.List.{drop-drop, length-take-le, take-append-drop, take_all, take_more}
use Rattle.std.proofs.lemmas.Grind.{flat_map-append}
use Rattle.std.proofs.lemmas.List.Concat.{flat_map-cons}
use Rattle.std.specs.List.{AllByRecursion, flat_map}
use Rattle.camp_entries.specs.Inside.{IsLineLength, IsNoteLength}
use Rattle.camp_entries.specs.Texts.{IsNote, begins_note, is_note_line, is_one_line, text_of_lines}

-- no note
pub no_note : IsNote []
no_note = ([], tt, refl)

lines-push : (lines : List (List ℕ)) (line : List ℕ) → AllByRecursion (λ l. is_note_line l ≡ true) lines → is_note_line line ≡ true → AllByRecursion (λ l. is_note_line l ≡ true) (lines ++ line ∷ [])
lines-push [] line all is = (is, tt)
lines-push (l ∷ lines) line all is = (all.0, lines-push lines line all.1 is)

-- a note with one more line
pub note_more : (note line : List ℕ) → IsNote note → is_note_line line ≡ true → IsNote (note ++ (line ++ 10 ∷ []))
note_more note line is more = (
  is.0 ++ line ∷ [],
  lines-push is.0 line is.1 more,
  ap (λ n. n ++ (line ++ 10 ∷ [])) is.2 ∙ sym (flat_map-append (λ l. l ++ 10 ∷ []) is.0 (line ∷ []) ∙ ap (λ t. text_of_lines is.0 ++ t) (append-nil (line ++ 10 ∷ []))),
)

-- bytes that are a note before others: they are just the others, or begin with a line of it
pub record Follows (bytes note rest : List ℕ) : Type 0 where
  pub line : List ℕ
  pub more : List ℕ
  pub begins : begins_note line ≡ true
  pub one : is_one_line line ≡ true
  pub is_note : IsNote more
  pub is : bytes ≡ line ++ 10 ∷ (more ++ rest)
  pub long : length note ≡ length line + 1 + length more

pub next_line : (bytes note rest : List ℕ) → IsNote note → bytes ≡ note ++ rest → ((note ≡ []) × (bytes ≡ rest)) ⊎ Follows bytes note rest
next_line bytes note rest ([], all, are) is = let none : note ≡ [] = are in inl (none, is ∙ ap (λ n. n ++ rest) none)
next_line bytes note rest (line ∷ lines, all, are) is =
    let parts = and_parts (begins_note line) (is_one_line line) all.0 in
    let text : note ≡ (line ++ 10 ∷ []) ++ text_of_lines lines = are ∙ flat_map-cons (λ l. l ++ 10 ∷ []) line lines in
    let whole : bytes ≡ line ++ 10 ∷ (text_of_lines lines ++ rest) = is ∙ ap (λ n. n ++ rest) text ∙ append_assoc (line ++ 10 ∷ []) (text_of_lines lines) rest ∙ append_assoc line (10 ∷ []) (text_of_lines lines ++ rest) in
    let long = length-append (line ++ 10 ∷ []) (text_of_lines lines) in
    let one = length-append line (10 ∷ []) in
    let size = ap length text in
    inr (record {
      line = line;
      more = text_of_lines lines;
      begins = parts.0;
      one = parts.1;
      is_note = (lines, all.1, refl);
      is = whole;
      long = omega (arith, long, one, size);
    })

-- the rest of a note, after a part of it
pub record RestOf (bytes : List ℕ) (at : ℕ) (note rest : List ℕ) : Type 0 where
  pub more : List ℕ
  pub is_note : IsNote more
  pub is : drop at bytes ≡ more ++ rest
  pub long : length note ≡ at + length more

-- bytes begin with lines of a note, and with no others
pub record AfterNotes (bytes : List ℕ) (at : ℕ) : Type 0 where
  pub within : at ≤ length bytes
  pub note : IsNote (take at bytes)
  pub rest : (note rest : List ℕ) → IsNote note → begins_note rest ≢ true → bytes ≡ note ++ rest → RestOf bytes at note rest

pub at_first : (bytes : List ℕ) → AfterNotes bytes 0
at_first bytes = record {
  within = omega arith;
  note = no_note;
  rest = λ note rest is_note none is. record { more = note; is_note = is_note; is = is; long = omega arith };
}

starts_so : (line rest : List ℕ) → begins_note line ≡ true → begins_note (line ++ rest) ≡ true
starts_so [] rest is = absurd (false≢true is)
starts_so (a ∷ line) rest is = is

stops_so : (line more : List ℕ) → begins_note (line ++ 10 ∷ more) ≡ true → begins_note line ≡ true
stops_so [] more is = absurd (false≢true is)
stops_so (a ∷ line) more is = is

-- no line of a note follows
pub ends_here : (bytes : List ℕ) (at : ℕ) → AfterNotes bytes at → begins_note (drop at bytes) ≢ true → IsNoteLength bytes at
ends_here bytes at after none = record {
  within = after.within;
  note = after.note;
  whole = λ note rest is_note stops is.
      let left = after.rest note rest is_note stops is in
      elim (next_line (drop at bytes) left.more rest left.is_note left.is) as (λ _. at ≡ length note) [
        | inl over ↦ let long = left.long in let empty = ap length over.0 in omega (arith, long, empty)
        | inr follows ↦ absurd (none (subst (λ b. begins_note b ≡ true) (sym follows.is) (starts_so follows.line (10 ∷ (follows.more ++ rest)) follows.begins)))
      ];
}

-- no line ends
pub not_ended : (bytes : List ℕ) (at : ℕ) → AfterNotes bytes at → begins_note (drop at bytes) ≡ true → IsLineLength (drop at bytes) None → IsNoteLength bytes at
not_ended bytes at after begins none = record {
  within = after.within;
  note = after.note;
  whole = λ note rest is_note stops is.
      let left = after.rest note rest is_note stops is in
      elim (next_line (drop at bytes) left.more rest left.is_note left.is) as (λ _. at ≡ length note) [
        | inl over ↦ let long = left.long in let empty = ap length over.0 in omega (arith, long, empty)
        | inr follows ↦ absurd (none follows.line (follows.more ++ rest) follows.one follows.is)
      ];
}

-- one more line of a note
pub goes_on : (bytes : List ℕ) (at line : ℕ) → AfterNotes bytes at → begins_note (drop at bytes) ≡ true → IsLineLength (drop at bytes) (Some line) → AfterNotes bytes (at + line)
goes_on bytes at line after begins (few, is_line, counts) =
    let rest = drop at bytes in
    let few_bytes : at + line ≤ length bytes = let cut = length-drop at bytes in let within = after.within in omega (arith, cut, within, few) in
    let whole : rest ≡ is_line.0 ++ 10 ∷ drop line rest = sym (take-append-drop line rest) ∙ ap (λ t. t ++ drop line rest) is_line.2 ∙ append_assoc is_line.0 (10 ∷ []) (drop line rest) in
    let noted : begins_note is_line.0 ≡ true = stops_so is_line.0 (drop line rest) (subst (λ b. begins_note b ≡ true) whole begins) in
    let taken : take (at + line) bytes ≡ take at bytes ++ (is_line.0 ++ 10 ∷ []) = take-add at line bytes ∙ ap (λ t. take at bytes ++ t) is_line.2 in
    record {
      within = few_bytes;
      note = subst (λ n. IsNote n) (sym taken) (note_more (take at bytes) is_line.0 after.note (and_from (begins_note is_line.0) (is_one_line is_line.0) noted is_line.1));
      rest = λ note others is_note stops is.
          let left = after.rest note others is_note stops is in
          elim (next_line rest left.more others left.is_note left.is) as (λ _. RestOf bytes (at + line) note others) [
            | inl over ↦ absurd (stops (subst (λ b. begins_note b ≡ true) over.1 begins))
            | inr follows ↦
                let counted : line ≡ length follows.line + 1 = counts follows.line (follows.more ++ others) follows.one follows.is in
                let size : line ≡ length (follows.line ++ 10 ∷ []) = let one = length-append follows.line (10 ∷ []) in omega (arith, one, counted) in
                let long = left.long in
                let more = follows.long in
                record {
                  more = follows.more;
                  is_note = follows.is_note;
                  is = sym (drop-drop line at bytes) ∙ ap (λ (b : List ℕ). drop line b) (follows.is ∙ sym (append_assoc follows.line (10 ∷ []) (follows.more ++ others))) ∙ ap (λ n. drop n ((follows.line ++ 10 ∷ []) ++ (follows.more ++ others))) size
                      ∙ drop-append_seam (follows.line ++ 10 ∷ []) (follows.more ++ others);
                  long = omega (arith, long, more, counted);
                }
          ];
    }

-- lines of bytes: how long the first is
first_ends : (line other rest more : List ℕ) → is_one_line line ≡ true → is_one_line other ≡ true → line ++ 10 ∷ rest ≡ other ++ 10 ∷ more → length line ≡ length other
first_ends [] [] rest more one two same = refl
first_ends [] (x ∷ other) rest more one two same = absurd (ends_other x other more two (ap (λ b. get_or b 0 0) same))
  where
    ends_other : (x : ℕ) (other more : List ℕ) → is_one_line (x ∷ other) ≡ true → 10 ≡ x → ⊥
    ends_other x other more one e = absurd (false≢true (subst (λ y. is_one_line (y ∷ other) ≡ true) (sym e) one))
first_ends (x ∷ line) [] rest more one two same = absurd (false≢true (subst (λ y. is_one_line (y ∷ line) ≡ true) (ap (λ b. get_or b 0 0) same) one))
first_ends (x ∷ line) (y ∷ other) rest more one two same =
    let shorter = first_ends line other rest more ((and_parts (not (x == 10)) (is_one_line line) one).1) ((and_parts (not (y == 10)) (is_one_line other) two).1) (ap (λ (b : List ℕ). drop 1 b) same) in
    omega (arith, shorter)

pub ends_line : (bytes : List ℕ) (at : ℕ) → at < length bytes → is_one_line (take at bytes) ≡ true → get_or bytes at 0 ≡ 10 → IsLineLength bytes (Some (at + 1))
ends_line bytes at within one ends =
    let next : take (at + 1) bytes ≡ take at bytes ++ 10 ∷ [] = take_more bytes at 0 within ∙ ap (λ b. take at bytes ++ b ∷ []) ends in
    let whole : bytes ≡ take at bytes ++ 10 ∷ drop (at + 1) bytes =
    sym (take-append-drop (at + 1) bytes) ∙ ap (λ t. t ++ drop (at + 1) bytes) next ∙ append_assoc (take at bytes) (10 ∷ []) (drop (at + 1) bytes) in
    let size = length-take-le at bytes (omega (arith, within)) in (
      omega (arith, within),
      (take at bytes, one, next),
      λ line rest is_line is.
          let same = first_ends (take at bytes) line (drop (at + 1) bytes) rest one is_line (sym whole ∙ is) in
          omega (arith, same, size),
    )

-- the rest of bytes, as a slice
pub rest_is : (at : ℕ) (bytes : List ℕ) → take (length bytes - at) (drop at bytes) ≡ drop at bytes
rest_is at bytes = let size = length-drop at bytes in take_all (length bytes - at) (drop at bytes) (omega (arith, size))

pub some_line : (bytes : List ℕ) (found : ℕ) → IsLineLength bytes (Some found) → 0 < found
some_line bytes found is =
    let whole : bytes ≡ is.1.0 ++ 10 ∷ drop found bytes =
    sym (take-append-drop found bytes) ∙ ap (λ t. t ++ drop found bytes) is.1.2 ∙ append_assoc is.1.0 (10 ∷ []) (drop found bytes) in
    let counted = is.2 is.1.0 (drop found bytes) is.1.1 whole in
    omega (arith, counted)

-- bytes are a note exactly if the note that they begin with is as long
pub note_is : (bytes : List ℕ) (found : ℕ) → IsNoteLength bytes found → found ≡ length bytes → IsNote bytes
note_is bytes found is long = subst (λ (b : List ℕ). IsNote b) (take_all found bytes (omega (arith, long))) is.note

pub note_long : (bytes : List ℕ) (found : ℕ) → IsNoteLength bytes found → IsNote bytes → found ≡ length bytes
note_long bytes found is note = is.whole bytes [] note (λ begins. false≢true begins) (sym (append-nil bytes))

pub is_note_exactly : (bytes : List ℕ) (found : ℕ) → IsNoteLength bytes found → ((found == length bytes) ≡ true → IsNote bytes) × (IsNote bytes → (found == length bytes) ≡ true)
is_note_exactly bytes found is = (
  λ same. note_is bytes found is (grind (arith, nat_tests)),
  λ note. let long = note_long bytes found is note in grind (arith, nat_tests),
)
