-- The texts of notes, taken apart.
use Rattle.std.specs.Prelude.{if◌then◌else◌, IsTrue, slice_index, nat_le}
use Rattle.std.proofs.Common.{◌≡◌, ◌≢◌, ◌⊎◌, ℕ, ◌≤◌, Bool, true, false, not, ◌&&◌, ◌==◌, List, [], ◌∷◌, ◌++◌, length, drop, codes, refl, sym, ap, subst, ◌∙◌, arith, inl, inr, length-append, append_assoc, append-nil}
use Rattle.std.proofs.lemmas.Bool.{and_from, and_parts, false≢true}
use Rattle.std.proofs.lemmas.Bool.Decides.{nat_tests}
use Rattle.std.specs.List.{AllByRecursion, list_all}
use Rattle.camp_base.specs.Bytes.{is_name, is_name_byte}
use Rattle.camp_base.specs.Limits.{longest_name}
use Rattle.camp_base.specs.Signs.{hyphen}
use Rattle.camp_notes.specs.Faults.{has_no_feed}
use Rattle.camp_notes.specs.Notes.{CanBeNote}
use Rattle.camp_notes.specs.Texts.{begins_text_line, note_text, notes_text, signed_byte, signed_bytes, signed_lines, title_line}
use Rattle.camp_notes.specs.declared.notes.Note.{Note}

-- ---- bytes of a text

pub is_feed : (x : ℕ) → (x == 10) ≡ true → x ≡ 10
is_feed x e = grind (arith, nat_tests)

pub no_feed_is : (x : ℕ) → (x == 10) ≡ false → x ≢ 10
no_feed_is x e same = false≢true (sym e ∙ ap (λ (y : ℕ). y == 10) same)

-- what shows a byte
pub shown : (x : ℕ) → ((x ≡ 10) × (signed_byte x ≡ 10 ∷ 35 ∷ 43 ∷ [])) ⊎ ((x ≢ 10) × (signed_byte x ≡ x ∷ []))
shown x = elim (x == 10) as (λ b. (x == 10) ≡ b → ((x ≡ 10) × (signed_byte x ≡ 10 ∷ 35 ∷ 43 ∷ [])) ⊎ ((x ≢ 10) × (signed_byte x ≡ x ∷ []))) [
  | true ↦ λ e. inl (is_feed x e, ap (λ (b : Bool). if b then 10 ∷ codes "#+" else x ∷ []) e)
  | false ↦ λ e. inr (no_feed_is x e, ap (λ (b : Bool). if b then 10 ∷ codes "#+" else x ∷ []) e)
] refl

-- what shows two bytes tells them apart
pub first_bytes : (x y : ℕ) (u v : List ℕ) → signed_byte x ++ u ≡ signed_byte y ++ v → (x ≡ y) × (u ≡ v)
first_bytes x y u v same = elim (shown x) as (λ _. (x ≡ y) × (u ≡ v)) [
  | inl feed ↦ elim (shown y) as (λ _. (x ≡ y) × (u ≡ v)) [
    | inl other ↦
        let all : 10 ∷ 35 ∷ 43 ∷ u ≡ 10 ∷ 35 ∷ 43 ∷ v = sym (ap (λ (s : List ℕ). s ++ u) feed.1) ∙ same ∙ ap (λ (s : List ℕ). s ++ v) other.1 in
        (feed.0 ∙ sym other.0, cc)
    | inr other ↦
        let all : 10 ∷ 35 ∷ 43 ∷ u ≡ y ∷ v = sym (ap (λ (s : List ℕ). s ++ u) feed.1) ∙ same ∙ ap (λ (s : List ℕ). s ++ v) other.1 in
        let is : y ≡ 10 = cc in
        absurd (other.0 is)
  ]
  | inr plain ↦ elim (shown y) as (λ _. (x ≡ y) × (u ≡ v)) [
    | inl other ↦
        let all : x ∷ u ≡ 10 ∷ 35 ∷ 43 ∷ v = sym (ap (λ (s : List ℕ). s ++ u) plain.1) ∙ same ∙ ap (λ (s : List ℕ). s ++ v) other.1 in
        let is : x ≡ 10 = cc in
        absurd (plain.0 is)
    | inr other ↦
        let all : x ∷ u ≡ y ∷ v = sym (ap (λ (s : List ℕ). s ++ u) plain.1) ∙ same ∙ ap (λ (s : List ℕ). s ++ v) other.1 in
        (cc, cc)
  ]
]

-- no byte of a text is shown where the text ends
pub no_end : (x : ℕ) (u more : List ℕ) → signed_byte x ++ u ≡ 10 ∷ more → begins_text_line more ≡ false → ⊥
no_end x u more same none = elim (shown x) as (λ _. ⊥) [
  | inl feed ↦
      let all : 10 ∷ 35 ∷ 43 ∷ u ≡ 10 ∷ more = sym (ap (λ (s : List ℕ). s ++ u) feed.1) ∙ same in
      let tail : 35 ∷ 43 ∷ u ≡ more = cc in
      false≢true (sym none ∙ ap (λ (l : List ℕ). begins_text_line l) (sym tail))
  | inr plain ↦
      let all : x ∷ u ≡ 10 ∷ more = sym (ap (λ (s : List ℕ). s ++ u) plain.1) ∙ same in
      let is : x ≡ 10 = cc in
      plain.0 is
]

-- ---- whole texts

-- a text `t` begins with another, and these bytes show the rest of it
pub record Extends (text t r more : List ℕ) : Type 0 where
  pub rest : List ℕ
  pub is : t ≡ text ++ rest
  pub left : r ≡ signed_bytes rest ++ 10 ∷ more

pub extends : (text t r more : List ℕ) → begins_text_line more ≡ false → signed_bytes text ++ r ≡ signed_bytes t ++ 10 ∷ more → Extends text t r more
extends [] t r more none same = record { rest = t; is = refl; left = same }
extends (x ∷ text) [] r more none same = absurd (no_end x (signed_bytes text ++ r) more (sym (append_assoc (signed_byte x) (signed_bytes text) r) ∙ same) none)
extends (x ∷ text) (y ∷ t) r more none same =
    let both = first_bytes x y (signed_bytes text ++ r) (signed_bytes t ++ 10 ∷ more) (sym (append_assoc (signed_byte x) (signed_bytes text) r) ∙ same ∙ append_assoc (signed_byte y) (signed_bytes t) (10 ∷ more)) in
    let below = extends text t r more none both.1 in
    record {
      rest = below.rest;
      is = ap (λ (z : ℕ). z ∷ t) (sym both.0) ∙ ap (λ (l : List ℕ). x ∷ l) below.is;
      left = below.left;
    }

ended : (text t rest more left : List ℕ) → begins_text_line rest ≡ false → t ≡ text ++ left → 10 ∷ rest ≡ signed_bytes left ++ 10 ∷ more → (text ≡ t) × (rest ≡ more)
ended text t rest more [] none is all =
    let tail : 10 ∷ rest ≡ 10 ∷ more = all in
    (sym (is ∙ append-nil text), cc)
ended text t rest more (x ∷ left) none is all =
    absurd (no_end x (signed_bytes left ++ 10 ∷ more) rest (sym (append_assoc (signed_byte x) (signed_bytes left) (10 ∷ more)) ∙ sym all) none)

-- a text that ends is told by its bytes
pub same_lines : (text t rest more : List ℕ) → begins_text_line rest ≡ false → begins_text_line more ≡ false → signed_bytes text ++ 10 ∷ rest ≡ signed_bytes t ++ 10 ∷ more → (text ≡ t) × (rest ≡ more)
same_lines text t rest more none others same =
    let found = extends text t (10 ∷ rest) more others same in
    ended text t rest more found.rest none found.is found.left

-- a text that has not ended is none that ends
pub unended : (text t more : List ℕ) → begins_text_line more ≡ false → signed_bytes text ≡ signed_bytes t ++ 10 ∷ more → ⊥
unended text t more none same =
    let found = extends text t [] more none (append-nil (signed_bytes text) ∙ same) in
    let long = ap length found.left in
    let size = length-append (signed_bytes found.rest) (10 ∷ more) in
    omega (arith, long, size)

-- a text that begins with another is as long at least
pub as_long : (text t r more : List ℕ) → begins_text_line more ≡ false → signed_bytes text ++ r ≡ signed_bytes t ++ 10 ∷ more → length text ≤ length t
as_long text t r more none same =
    let found = extends text t r more none same in
    let size = ap length found.is in
    let sum = length-append text found.rest in
    omega (arith, size, sum)

-- ---- names

no_feed : (x : ℕ) → is_name_byte x ≡ true → not (x == 10) ≡ true
no_feed x is = elim (x == 10) as (λ b. (x == 10) ≡ b → not b ≡ true) [
  | true ↦ λ e. absurd (false≢true (ap (λ (y : ℕ). is_name_byte y) (sym (is_feed x e)) ∙ is))
  | false ↦ λ e. refl
] refl

no_feeds : (bytes : List ℕ) → list_all is_name_byte bytes ≡ true → has_no_feed bytes
no_feeds [] all = refl
no_feeds (x ∷ bytes) all =
    let parts = and_parts (is_name_byte x) (list_all is_name_byte bytes) all in
    and_from (not (x == 10)) (list_all (λ byte. not (byte == 10)) bytes) (no_feed x parts.0) (no_feeds bytes parts.1)

pub name_line : (name : List ℕ) → IsTrue (is_name name) → has_no_feed name
name_line name is =
    let some = and_parts (not (length name == 0)) (not (slice_index name 0 == hyphen) && (nat_le (length name) longest_name && list_all is_name_byte name)) is in
    let plain = and_parts (not (slice_index name 0 == hyphen)) (nat_le (length name) longest_name && list_all is_name_byte name) some.1 in
    let short = and_parts (nat_le (length name) longest_name) (list_all is_name_byte name) plain.1 in
    no_feeds name short.1

feedless : (x : ℕ) (rest : List ℕ) → has_no_feed (x ∷ rest) → x ≢ 10
feedless x rest one same = false≢true (subst (λ (y : ℕ). has_no_feed (y ∷ rest)) same one)

-- two first lines of the same bytes are one
pub same_names : (name other u v : List ℕ) → has_no_feed name → has_no_feed other → name ++ 10 ∷ u ≡ other ++ 10 ∷ v → (name ≡ other) × (u ≡ v)
same_names [] [] u v one two same =
    let all : 10 ∷ u ≡ 10 ∷ v = same in
    (refl, cc)
same_names [] (y ∷ other) u v one two same =
    let all : 10 ∷ u ≡ y ∷ (other ++ 10 ∷ v) = same in
    let is : y ≡ 10 = cc in
    absurd (feedless y other two is)
same_names (x ∷ name) [] u v one two same =
    let all : x ∷ (name ++ 10 ∷ u) ≡ 10 ∷ v = same in
    let is : x ≡ 10 = cc in
    absurd (feedless x name one is)
same_names (x ∷ name) (y ∷ other) u v one two same =
    let all : x ∷ (name ++ 10 ∷ u) ≡ y ∷ (other ++ 10 ∷ v) = same in
    let first : x ≡ y = cc in
    let tail : name ++ 10 ∷ u ≡ other ++ 10 ∷ v = cc in
    let left = and_parts (not (x == 10)) (list_all (λ byte. not (byte == 10)) name) one in
    let right = and_parts (not (y == 10)) (list_all (λ byte. not (byte == 10)) other) two in
    let below = same_names name other u v left.1 right.1 tail in
    (ap (λ (z : ℕ). z ∷ name) first ∙ ap (λ (l : List ℕ). y ∷ l) below.0, below.1)

-- ---- notes

pub title_shown : (name w : List ℕ) → title_line name ++ w ≡ codes "#note " ++ (name ++ 10 ∷ w)
title_shown name w = ap (λ (l : List ℕ). codes "#note " ++ l) (append_assoc name (10 ∷ []) w)

pub lines_shown : (text u : List ℕ) → signed_lines text ++ u ≡ 35 ∷ 43 ∷ (signed_bytes text ++ 10 ∷ u)
lines_shown text u = ap (λ (l : List ℕ). 35 ∷ 43 ∷ l) (append_assoc (signed_bytes text) (10 ∷ []) u)

pub note_parts : (note : Note) (u : List ℕ) → note_text note ++ u ≡ title_line note.name ++ (signed_lines note.text ++ u)
note_parts note u = append_assoc (title_line note.name) (signed_lines note.text) u

pub same_titles : (name other u v : List ℕ) → has_no_feed name → has_no_feed other → title_line name ++ u ≡ title_line other ++ v → (name ≡ other) × (u ≡ v)
same_titles name other u v one two same =
    same_names name other u v one two (ap (λ (l : List ℕ). drop 6 l) (sym (title_shown name u) ∙ same ∙ title_shown other v))

note_is : (note other : Note) → note.name ≡ other.name → note.text ≡ other.text → note ≡ other
note_is note other names texts = λ i. record { name = names i; text = texts i }

-- a note that ends is told by its bytes
pub same_note : (note other : Note) (u v : List ℕ) → CanBeNote note → CanBeNote other → begins_text_line u ≡ false → begins_text_line v ≡ false → note_text note ++ u ≡ note_text other ++ v → (note ≡ other) × (u ≡ v)
same_note note other u v can could none others same =
    let names = same_titles note.name other.name (signed_lines note.text ++ u) (signed_lines other.text ++ v) (name_line note.name can.0) (name_line other.name could.0) (sym (note_parts note u) ∙ same ∙ note_parts other v) in
    let texts = same_lines note.text other.text u v none others (ap (λ (l : List ℕ). drop 2 l) (sym (lines_shown note.text u) ∙ names.1 ∙ lines_shown other.text v)) in
    (note_is note other names.0 texts.0, texts.1)

pub no_line_first : (notes : List Note) → begins_text_line (notes_text notes) ≡ false
no_line_first [] = refl
no_line_first (note ∷ notes) = refl

pub some_text : (note : Note) (u : List ℕ) → [] ≢ note_text note ++ u
some_text note u same =
    let all : [] ≡ codes "#note " ++ (note.name ++ 10 ∷ (signed_lines note.text ++ u)) = same ∙ note_parts note u ∙ title_shown note.name (signed_lines note.text ++ u) in
    let long = ap length all in
    omega (arith, long)

pub tell_notes : (notes others : List Note) → AllByRecursion CanBeNote notes → AllByRecursion CanBeNote others → notes_text notes ≡ notes_text others → notes ≡ others
tell_notes [] [] can could same = refl
tell_notes [] (m ∷ ms) can could same = absurd (some_text m (notes_text ms) same)
tell_notes (n ∷ ns) [] can could same = absurd (some_text n (notes_text ns) (sym same))
tell_notes (n ∷ ns) (m ∷ ms) can could same =
    let both = same_note n m (notes_text ns) (notes_text ms) can.0 could.0 (no_line_first ns) (no_line_first ms) same in
    ap (λ (x : Note). x ∷ ns) both.0 ∙ ap (λ (l : List Note). m ∷ l) (tell_notes ns ms can.1 could.1 both.1)
