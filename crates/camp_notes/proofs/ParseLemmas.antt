-- Notes that were parsed so far, and what was found after them.
use Rattle.std.specs.Prelude.{bytes_eq}
use Rattle.std.proofs.Common.{◌≡◌, ◌≢◌, ℕ, ◌+◌, ◌-◌, ◌<◌, Bool, true, false, ◌&&◌, ◌==◌, List, [], ◌∷◌, ◌++◌, length, take, drop, codes, refl, sym, ap, subst, ◌∙◌, arith, inl, inr, length-append, append_assoc, append-nil}
use Rattle.std.proofs.Math.Seq.{take-append_seam}
use Rattle.std.proofs.lemmas.Bool.{false≢true}
use Rattle.std.proofs.lemmas.Bool.Decides.{nat_tests}
use Rattle.std.proofs.lemmas.Grind.{flat_map-append}
use Rattle.std.specs.List.{AllByRecursion}
use Rattle.camp_notes.specs.Faults.{AreNotesBefore, AreNotesOf, AreOnlyNotesBefore, BeginNoNote, RefusesNotes, RefusesNotesBefore, feeds_in}
use Rattle.camp_notes.specs.Inside.{BeginNoLines, BeginNoTitle, BeginsLines, BeginsNote, BeginsTitle, FailsNote, FailsTitle, HasNoNote}
use Rattle.camp_notes.specs.Notes.{CanBeNote}
use Rattle.camp_notes.specs.Texts.{begins_comment, begins_text_line, begins_title, note_text, notes_text, signed_bytes, signed_lines, title_line}
use Rattle.camp_notes.specs.declared.faults.NoteFault.{NoteFault}
use Rattle.camp_notes.specs.declared.faults.NoteFault.TheVariants.{Line, Memory}
use Rattle.camp_notes.specs.declared.faults.NoteFaultKind.{NoteFaultKind}
use Rattle.camp_notes.specs.declared.faults.NoteFaultKind.TheVariants.{BadName, Misplaced, NotEnded, TooLong}
use Rattle.camp_notes.specs.declared.notes.Note.{Note}
use Rattle.camp_notes.proofs.TitleLemmas.{with_sign}
use Rattle.camp_notes.proofs.TextLemmas.{as_long, lines_shown, name_line, note_parts, same_note, same_titles, unended}

-- bytes after the sign of a line
pub after_sign : (name bytes lines rest : List ℕ) → bytes_eq (take 2 lines) (codes "#+") ≡ true → rest ≡ drop 2 lines → BeginsTitle bytes name lines → BeginsTitle bytes name (codes "#+" ++ rest)
after_sign name bytes lines rest is left begins = subst (λ (l : List ℕ). BeginsTitle bytes name l) (with_sign (codes "#+") lines rest is left) begins

-- what comes before the rest of a text
pub front_is : (text front rest : List ℕ) → text ≡ front ++ rest → take (length text - length rest) text ≡ front
front_is text front rest same =
    let size = ap length same in
    let sum = length-append front rest in
    let long : length text - length rest ≡ length front = omega (arith, size, sum) in
    ap (λ (l : List ℕ). take (length text - length rest) l) same ∙ ap (λ n. take n (front ++ rest)) long ∙ take-append_seam front rest

-- ---- one note

title_fault : (kind : NoteFaultKind) (bytes : List ℕ) → BeginNoTitle kind bytes → BeginNoNote kind bytes
title_fault Misplaced bytes is = is
title_fault BadName bytes is = is
title_fault TooLong bytes is = absurd is
title_fault NotEnded bytes is = inl is

-- bytes without a first line have no note
pub title_fails : (kind : NoteFaultKind) (bytes : List ℕ) → FailsTitle bytes kind → FailsNote bytes kind
title_fails kind bytes fails = (
  title_fault kind bytes fails.0,
  λ note more can ends same. fails.1 note.name (signed_lines note.text ++ more) can.0 (same ∙ note_parts note more),
)

-- what comes after the header line of a note
lines_of_note : (bytes name lines : List ℕ) (note : Note) (more : List ℕ) → BeginsTitle bytes name lines → CanBeNote note → bytes ≡ note_text note ++ more → lines ≡ 35 ∷ 43 ∷ (signed_bytes note.text ++ 10 ∷ more)
lines_of_note bytes name lines note more begins can same =
    (same_titles name note.name lines (signed_lines note.text ++ more) (name_line name begins.named) (name_line note.name can.0) (sym begins.is ∙ same ∙ note_parts note more)).1
    ∙ lines_shown note.text more

-- no line follows a first line
pub unlined : (bytes name lines : List ℕ) → begins_text_line lines ≡ false → BeginsTitle bytes name lines → FailsNote bytes NotEnded
unlined bytes name lines none begins = (
  inr (inl (record { name = name; more = lines; is = begins.is; named = begins.named; none = none })),
  λ note more can ends same. false≢true (sym none ∙ ap (λ (l : List ℕ). begins_text_line l) (lines_of_note bytes name lines note more begins can same)),
)

-- the lines after a first line have a fault
lines_fault : (kind : NoteFaultKind) (bytes name rest : List ℕ) → BeginsTitle bytes name (codes "#+" ++ rest) → BeginNoLines kind rest → BeginNoNote kind bytes
lines_fault Misplaced bytes name rest begins wrong = absurd wrong
lines_fault BadName bytes name rest begins wrong = absurd wrong
lines_fault TooLong bytes name rest begins wrong = record {
  name = name;
  text = wrong.text;
  more = wrong.more;
  is = begins.is ∙ ap (λ (l : List ℕ). title_line name ++ (codes "#+" ++ l)) wrong.is;
  named = begins.named;
  long = wrong.long;
}
lines_fault NotEnded bytes name rest begins wrong =
    inr (inr (record {
      name = name;
      text = wrong.text;
      short = wrong.short;
      is = begins.is ∙ ap (λ (l : List ℕ). title_line name ++ (codes "#+" ++ l)) wrong.is;
      named = begins.named;
    }))

no_lines : (kind : NoteFaultKind) (rest : List ℕ) (note : Note) (more : List ℕ) → BeginNoLines kind rest → CanBeNote note → begins_text_line more ≡ false → rest ≢ signed_bytes note.text ++ 10 ∷ more
no_lines Misplaced rest note more wrong can ends is = wrong
no_lines BadName rest note more wrong can ends is = wrong
no_lines TooLong rest note more wrong can ends is =
    let long = wrong.long in
    let short = can.1 in
    let within = as_long wrong.text note.text wrong.more more ends (sym wrong.is ∙ is) in
    omega (arith, long, short, within)
no_lines NotEnded rest note more wrong can ends is = unended wrong.text note.text more ends (sym wrong.is ∙ is)

pub lines_fail : (kind : NoteFaultKind) (bytes name rest : List ℕ) → BeginNoLines kind rest → BeginsTitle bytes name (codes "#+" ++ rest) → FailsNote bytes kind
lines_fail kind bytes name rest wrong begins = (
  lines_fault kind bytes name rest begins wrong,
  λ note more can ends same. no_lines kind rest note more wrong can ends (ap (λ (l : List ℕ). drop 2 l) (lines_of_note bytes name (codes "#+" ++ rest) note more begins can same)),
)

-- a first line and the lines after it are a note
pub whole_note : (bytes name rest text after : List ℕ) → BeginsLines rest text after → BeginsTitle bytes name (codes "#+" ++ rest) → BeginsNote bytes (record { name = name; text = text }) after
whole_note bytes name rest text after found begins = record {
  can = (begins.named, found.short);
  is = begins.is ∙ ap (λ (l : List ℕ). title_line name ++ l) (ap (λ (l : List ℕ). codes "#+" ++ l) found.is ∙ sym (lines_shown text after)) ∙ sym (append_assoc (title_line name) (signed_lines text) after);
  ends = found.ends;
}

-- ---- notes one after the other

-- a rest that is no comment is no line of a note, and no first line of one
plain_first : (x : ℕ) (bytes : List ℕ) → begins_comment (x ∷ bytes) ≡ false → (x == 35) ≡ false
plain_first x bytes none = elim (x == 35) as (λ b. (x == 35) ≡ b → b ≡ false) [
  | true ↦ λ e. let is : x ≡ 35 = grind (arith, nat_tests) in absurd (false≢true (sym none ∙ ap (λ (y : ℕ). begins_comment (y ∷ bytes)) is))
  | false ↦ λ e. refl
] refl

pub no_signed : (bytes : List ℕ) → begins_comment bytes ≡ false → begins_text_line bytes ≡ false
no_signed [] none = refl
no_signed (x ∷ bytes) none = ap (λ (b : Bool). b && bytes_eq (take 1 bytes) (43 ∷ [])) (plain_first x bytes none)

pub no_title : (bytes : List ℕ) → begins_comment bytes ≡ false → begins_title bytes ≡ false
no_title [] none = refl
no_title (x ∷ bytes) none = ap (λ (b : Bool). b && bytes_eq (take 5 bytes) (codes "note ")) (plain_first x bytes none)

no_lines_left : (notes : List Note) (more : List ℕ) → begins_comment more ≡ false → begins_text_line (notes_text notes ++ more) ≡ false
no_lines_left [] more none = no_signed more none
no_lines_left (note ∷ notes) more none = refl

-- other notes before a rest have the parsed ones first, and then those in the rest of the text
pub record RestOf (notes : List Note) (rest : List ℕ) (others : List Note) (more : List ℕ) : Type 0 where
  pub after : List Note
  pub can : AllByRecursion CanBeNote after
  pub is : others ≡ notes ++ after
  pub left : rest ≡ notes_text after ++ more

-- notes were parsed from a text; this is the rest of it
pub record AreParsed (text : List ℕ) (notes : List Note) (rest : List ℕ) : Type 0 where
  pub can : AllByRecursion CanBeNote notes
  pub is : text ≡ notes_text notes ++ rest
  pub whole : notes ≢ [] → begins_text_line rest ≡ false
  pub others : (others : List Note) (more : List ℕ) → AreNotesBefore text others more → RestOf notes rest others more

pub none_parsed : (text : List ℕ) → AreParsed text [] text
none_parsed text = record {
  can = tt;
  is = refl;
  whole = λ some. absurd (some refl);
  others = λ others more before. record { after = others; can = before.can; is = refl; left = before.is };
}

push_can : (notes : List Note) (note : Note) → AllByRecursion CanBeNote notes → CanBeNote note → AllByRecursion CanBeNote (notes ++ note ∷ [])
push_can [] note all can = (can, tt)
push_can (n ∷ notes) note all can = (all.0, push_can notes note all.1 can)

push_text : (notes : List Note) (note : Note) → notes_text (notes ++ note ∷ []) ≡ notes_text notes ++ note_text note
push_text notes note = flat_map-append note_text notes (note ∷ []) ∙ ap (λ (l : List ℕ). notes_text notes ++ l) (append-nil (note_text note))

stepped : (notes : List Note) (rest : List ℕ) (note : Note) (after : List ℕ) (others : List Note) (more : List ℕ) (left : List Note) → begins_comment rest ≡ true → BeginsNote rest note after → begins_comment more ≡ false → AllByRecursion CanBeNote left → others ≡ notes ++ left → rest ≡ notes_text left ++ more → RestOf (notes ++ note ∷ []) after others more
stepped notes rest note after others more [] comment begins none can is same = absurd (false≢true (sym none ∙ ap (λ (l : List ℕ). begins_comment l) (sym same) ∙ comment))
stepped notes rest note after others more (m ∷ ms) comment begins none can is same =
    let both = same_note note m after (notes_text ms ++ more) begins.can can.0 begins.ends (no_lines_left ms more none) (sym begins.is ∙ same ∙ append_assoc (note_text m) (notes_text ms) more) in
    record {
      after = ms;
      can = can.1;
      is = is ∙ ap (λ (n : Note). notes ++ n ∷ ms) (sym both.0) ∙ sym (append_assoc notes (note ∷ []) ms);
      left = both.1;
    }

pub one_more : (text : List ℕ) (notes : List Note) (rest : List ℕ) (note : Note) (after : List ℕ) → AreParsed text notes rest → begins_comment rest ≡ true → BeginsNote rest note after → AreParsed text (notes ++ note ∷ []) after
one_more text notes rest note after parsed comment begins = record {
  can = push_can notes note parsed.can begins.can;
  is = parsed.is ∙ ap (λ (l : List ℕ). notes_text notes ++ l) begins.is ∙ sym (append_assoc (notes_text notes) (note_text note) after) ∙ ap (λ (l : List ℕ). l ++ after) (sym (push_text notes note));
  whole = λ some. begins.ends;
  others = λ others more before. let left = parsed.others others more before in stepped notes rest note after others more left.after comment begins before.ends left.can left.is left.left;
}

no_more : (notes : List Note) (rest : List ℕ) (others : List Note) (more : List ℕ) (left : List Note) → begins_comment rest ≡ false → others ≡ notes ++ left → rest ≡ notes_text left ++ more → (notes ≡ others) × (rest ≡ more)
no_more notes rest others more [] none is same = (sym (is ∙ append-nil notes), same)
no_more notes rest others more (m ∷ ms) none is same = absurd (false≢true (sym none ∙ ap (λ (l : List ℕ). begins_comment l) same))

pub all_parsed : (text : List ℕ) (notes : List Note) (rest : List ℕ) → AreParsed text notes rest → begins_comment rest ≡ false → AreOnlyNotesBefore text notes rest
all_parsed text notes rest parsed none = (
  record { can = parsed.can; is = parsed.is; ends = none },
  λ others more before. let left = parsed.others others more before in no_more notes rest others more left.after none left.is left.left,
)

no_note_left : (rest more : List ℕ) (left : List Note) → begins_comment rest ≡ true → begins_comment more ≡ false → AllByRecursion CanBeNote left → HasNoNote rest → rest ≢ notes_text left ++ more
no_note_left rest more [] comment ends can none same = false≢true (sym ends ∙ ap (λ (l : List ℕ). begins_comment l) (sym same) ∙ comment)
no_note_left rest more (m ∷ ms) comment ends can none same = none m (notes_text ms ++ more) can.0 (no_lines_left ms more ends) (same ∙ append_assoc (note_text m) (notes_text ms) more)

pub faulty : (kind : NoteFaultKind) (text : List ℕ) (notes : List Note) (rest : List ℕ) → AreParsed text notes rest → begins_comment rest ≡ true → FailsNote rest kind → RefusesNotesBefore text (Line (feeds_in (notes_text notes) + 1) kind)
faulty kind text notes rest parsed comment fails = (
  record { before = notes; can = parsed.can; rest = rest; split = parsed.is; whole = parsed.whole; at = refl; wrong = fails.0 },
  λ others more before. let left = parsed.others others more before in no_note_left rest more left.after comment before.ends left.can fails.1 left.left,
)

-- ---- a text of notes alone

as_before : (text : List ℕ) (notes : List Note) → AllByRecursion CanBeNote notes → notes_text notes ≡ text → AreNotesBefore text notes []
as_before text notes can is = record { can = can; is = sym (append-nil (notes_text notes) ∙ is); ends = refl }

pub notes_alone : (text : List ℕ) (notes : List Note) (rest : List ℕ) → AreOnlyNotesBefore text notes rest → rest ≡ [] → AreNotesOf text notes
notes_alone text notes rest found empty = (
  found.0.can,
  sym (found.0.is ∙ ap (λ (l : List ℕ). notes_text notes ++ l) empty ∙ append-nil (notes_text notes)),
  λ others can is. (found.1 others [] (as_before text others can is)).0,
)

pub misplaced : (text : List ℕ) (notes : List Note) (rest : List ℕ) → AreOnlyNotesBefore text notes rest → 0 < length rest → RefusesNotes text (Line (feeds_in (notes_text notes) + 1) Misplaced)
misplaced text notes rest found some = (
  record { before = notes; can = found.0.can; rest = rest; split = found.0.is; whole = λ some. no_signed rest found.0.ends; at = refl; wrong = no_title rest found.0.ends },
  λ others can is.
      let size = ap length (found.1 others [] (as_before text others can is)).1 in
      omega (arith, some, size),
)

pub refused_alone : (text : List ℕ) (fault : NoteFault) → RefusesNotesBefore text fault → RefusesNotes text fault
refused_alone text Memory refuses = tt
refused_alone text (Line line kind) refuses = (refuses.0, λ others can is. refuses.1 others [] (as_before text others can is))

-- ---- the rest of a text gets shorter

pub shorter : (rest : List ℕ) (note : Note) (after : List ℕ) → BeginsNote rest note after → length after < length rest
shorter rest note after begins =
    let size = ap length begins.is in
    let sum = length-append (note_text note) after in
    let some = length-append (title_line note.name) (signed_lines note.text) in
    let title = length-append (codes "#note ") (note.name ++ 10 ∷ []) in
    omega (arith, size, sum, some, title)

-- ---- notes before a rest that is no comment

-- notes and the rest after them are told by their text
pub same_before : (notes others : List Note) (rest more : List ℕ) → AllByRecursion CanBeNote notes → AllByRecursion CanBeNote others → begins_comment rest ≡ false → begins_comment more ≡ false
    → notes_text notes ++ rest ≡ notes_text others ++ more → (notes ≡ others) × (rest ≡ more)
same_before [] others rest more can could none ends same = no_more [] rest others more others none refl same
same_before (n ∷ ns) [] rest more can could none ends same =
    absurd (false≢true (sym ends ∙ ap (λ (l : List ℕ). begins_comment l) (sym same)))
same_before (n ∷ ns) (m ∷ ms) rest more can could none ends same =
    let both =
    same_note n m (notes_text ns ++ rest) (notes_text ms ++ more) can.0 could.0 (no_lines_left ns rest none) (no_lines_left ms more ends)
    (sym (append_assoc (note_text n) (notes_text ns) rest) ∙ same ∙ append_assoc (note_text m) (notes_text ms) more) in
    let others_are = same_before ns ms rest more can.1 could.1 none ends both.1 in
    (ap (λ (x : Note). x ∷ ns) both.0 ∙ ap (λ (l : List Note). m ∷ l) others_are.0, others_are.1)
