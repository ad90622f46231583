-- The canonical text of a call, line by line.
use Rattle.camp_script.proofs.Common.{◌≡◌, ℕ, ◌≤◌, ◌==◌, true, false, List, [], ◌∷◌, ◌++◌, map, codes, count_by, refl, sym, ap, ◌∙◌, append_assoc, append-nil, arith, Ok, flat_map, flat_map-cons, AllByRecursion, join_with_byte, Primitive, Add, Remove, Hunk, is_writing, Call, lines_of, words_of, line_text, signed_line, Lines, is_line, IsChange, IsScriptCall, call_text, change_body, canonical_change, record_text, section_text, script_of, call_words}
use Rattle.camp_call.specs.declared.calls.Call.TheVariants as call
use Rattle.camp_script.specs.Canonical.{change_head, script_text}
use Rattle.camp_script.proofs.CanonicalCalls.{next_line, reads_back, regrouped, words_are}
pub use Rattle.camp_script.proofs.CanonicalCalls.{first_words_of, head_are, record_words, regrouped as regrouped_lines}
use Rattle.camp_script.proofs.CanonicalLines.{AreWords, first_line, first_words, words_joined}

-- ---- the text of a call is a script of this call

few_writes : (c : Call) → count_by is_writing (c ∷ []) ≤ 65_536
few_writes (call.Tree branch) = omega arith
few_writes other = omega arith

pub text_reads : (c : Call) → IsScriptCall c → script_of (call_text c) ≡ Ok ((c ∷ []) ∷ [])
text_reads c can =
    let e : script_text ((c ∷ []) ∷ []) ≡ call_text c =
    append-nil (section_text (c ∷ [])) ∙ flat_map-cons call_text c [] ∙ append-nil (call_text c) in
    ap script_of (sym e)
    ∙ reads_back ((c ∷ []) ∷ []) (record {
      calls = ((can, tt), tt);
      limits = record { has_opening = omega arith; sections_within = omega arith; writes_within = (few_writes c, tt) };
    })

-- ---- the lines of a call

-- the lines of a body
abbrev pub body_lines : Primitive → List (List ℕ)
body_lines (Add path) = []
body_lines (Remove path) = []
body_lines (Hunk hunk) = map (λ line. 45 ∷ line) hunk.old ++ map (λ line. 43 ∷ line) hunk.new ++ codes "end" ∷ []

-- the lines of a change of a group
abbrev pub change_lines : Primitive → List (List ℕ)
change_lines change = join_with_byte 32 (change_head change) ∷ body_lines change

-- the lines of a record after its first
abbrev pub record_rest : List Primitive → List (List ℕ)
record_rest (change ∷ []) = body_lines change
record_rest changes = flat_map change_lines changes ++ codes "done" ∷ []

-- the lines of a call after its first
abbrev pub lines_behind : Call → List (List ℕ)
lines_behind (call.Record branch name changes) = record_rest changes
lines_behind other = []

side_lines : (sign : ℕ) (lines : Lines) (rest : List ℕ) → (sign == 10) ≡ false → AllByRecursion (λ line. is_line line ≡ true) lines
    → lines_of (flat_map (signed_line sign) lines ++ rest) ≡ map (λ line. sign ∷ line) lines ++ lines_of rest
side_lines sign [] rest signed h = refl
side_lines sign (line ∷ lines) rest signed h =
    next_line sign line lines rest signed h.0 ∙ ap (λ ls. (sign ∷ line) ∷ ls) (side_lines sign lines rest signed h.1)

body_read : (change : Primitive) (rest : List ℕ) → IsChange change → lines_of (change_body change ++ rest) ≡ body_lines change ++ lines_of rest
body_read (Hunk edit) rest h =
    let (p, range, old, new) = h in
    let news = flat_map (signed_line 43) edit.new in
    let end = line_text (codes "end" ∷ []) in
    let minus = map (λ (line : List ℕ). 45 ∷ line) edit.old in
    let plus = map (λ (line : List ℕ). 43 ∷ line) edit.new in
    ap lines_of (regrouped (flat_map (signed_line 45) edit.old) news end rest)
    ∙ side_lines 45 edit.old (news ++ (end ++ rest)) refl old
    ∙ ap (λ ls. minus ++ ls) (side_lines 43 edit.new (end ++ rest) refl new ∙ ap (λ ls. plus ++ ls) (first_line (codes "end") rest refl))
    ∙ sym (regrouped_lines minus plus (codes "end" ∷ []) (lines_of rest))
body_read change rest h = refl

change_read : (change : Primitive) (rest : List ℕ) → IsChange change → lines_of (canonical_change change ++ rest) ≡ change_lines change ++ lines_of rest
change_read change rest h =
    ap lines_of (append_assoc (line_text (change_head change)) (change_body change) rest)
    ∙ first_words (change_head change) (change_body change ++ rest) (head_are change h)
    ∙ ap (λ ls. join_with_byte 32 (change_head change) ∷ ls) (body_read change rest h)

changes_read : (changes : List Primitive) (rest : List ℕ) → AllByRecursion IsChange changes → lines_of (flat_map canonical_change changes ++ rest) ≡ flat_map change_lines changes ++ lines_of rest
changes_read [] rest h = refl
changes_read (change ∷ changes) rest h =
    let text = flat_map canonical_change changes in
    ap (λ t. lines_of (t ++ rest)) (flat_map-cons canonical_change change changes)
    ∙ ap lines_of (append_assoc (canonical_change change) text rest)
    ∙ change_read change (text ++ rest) h.0
    ∙ ap (λ ls. change_lines change ++ ls) (changes_read changes rest h.1)
    ∙ sym (append_assoc (change_lines change) (flat_map change_lines changes) (lines_of rest))
    ∙ ap (λ ls. ls ++ lines_of rest) (sym (flat_map-cons change_lines change changes))

-- a group, by the words of its first line
group_read : (words : List (List ℕ)) (changes : List Primitive) (rest : List ℕ) → AreWords words → AllByRecursion IsChange changes
    → lines_of (((line_text words ++ flat_map canonical_change changes) ++ line_text (codes "done" ∷ [])) ++ rest)
    ≡ (join_with_byte 32 words ∷ (flat_map change_lines changes ++ codes "done" ∷ [])) ++ lines_of rest
group_read words changes rest are h =
    let text = flat_map canonical_change changes in
    let done = line_text (codes "done" ∷ []) in
    ap lines_of (regrouped (line_text words) text done rest)
    ∙ first_words words (text ++ (done ++ rest)) are
    ∙ ap (λ ls. join_with_byte 32 words ∷ ls) (
    changes_read changes (done ++ rest) h
    ∙ ap (λ ls. flat_map change_lines changes ++ ls) (first_line (codes "done") rest refl)
    ∙ sym (append_assoc (flat_map change_lines changes) (codes "done" ∷ []) (lines_of rest))
    )

record_read : (branch name : List ℕ) (changes : List Primitive) (rest : List ℕ) → AreWords (record_words branch name changes) → AllByRecursion IsChange changes
    → lines_of (record_text branch name changes ++ rest) ≡ (join_with_byte 32 (record_words branch name changes) ∷ record_rest changes) ++ lines_of rest
record_read branch name (change ∷ []) rest are h =
    let words = codes "record" ∷ branch ∷ name ∷ change_head change in
    ap lines_of (append_assoc (line_text words) (change_body change) rest)
    ∙ first_words words (change_body change ++ rest) are
    ∙ ap (λ ls. join_with_byte 32 words ∷ ls) (body_read change rest h.0)
record_read branch name changes rest are h = group_read (codes "record" ∷ branch ∷ name ∷ codes "group" ∷ []) changes rest are h

call_read : (c : Call) (rest : List ℕ) → IsScriptCall c → lines_of (call_text c ++ rest) ≡ (join_with_byte 32 (first_words_of c) ∷ lines_behind c) ++ lines_of rest
call_read (call.Record branch name changes) rest h = record_read branch name changes rest (words_are (call.Record branch name changes) h) h.3
call_read other rest h = first_words (first_words_of other) rest (words_are other h)

-- the lines of the text of a call
pub lines_called : (c : Call) → IsScriptCall c → lines_of (call_text c) ≡ join_with_byte 32 (first_words_of c) ∷ lines_behind c
lines_called c can =
    ap lines_of (sym (append-nil (call_text c))) ∙ call_read c [] can ∙ append-nil (join_with_byte 32 (first_words_of c) ∷ lines_behind c)

-- the words of its first line
pub words_called : (c : Call) → IsScriptCall c → words_of (join_with_byte 32 (first_words_of c)) ≡ first_words_of c
words_called c h = words_joined (first_words_of c) (words_are c h)

-- ---- the text ends with an LF

-- bytes that end with an LF
abbrev pub EndsWithFeed : List ℕ → Type 0
EndsWithFeed bytes = (front : List ℕ) × (bytes ≡ front ++ 10 ∷ [])

group_ends : (words : List (List ℕ)) (changes : List Primitive) → EndsWithFeed ((line_text words ++ flat_map canonical_change changes) ++ line_text (codes "done" ∷ []))
group_ends words changes =
    let front = line_text words ++ flat_map canonical_change changes in
    (front ++ codes "done", sym (append_assoc front (codes "done") (10 ∷ [])))

alone_ends : (words : List (List ℕ)) (change : Primitive) → EndsWithFeed (line_text words ++ change_body change)
alone_ends words (Hunk edit) =
    let sides = flat_map (signed_line 45) edit.old ++ flat_map (signed_line 43) edit.new in (
      line_text words ++ (sides ++ codes "end"),
      sym (append_assoc (line_text words) (sides ++ codes "end") (10 ∷ []) ∙ ap (λ t. line_text words ++ t) (append_assoc sides (codes "end") (10 ∷ []))),
    )
alone_ends words change = (join_with_byte 32 words, append-nil (line_text words))

record_ends : (branch name : List ℕ) (changes : List Primitive) → EndsWithFeed (record_text branch name changes)
record_ends branch name (change ∷ []) = alone_ends (codes "record" ∷ branch ∷ name ∷ change_head change) change
record_ends branch name changes = group_ends (codes "record" ∷ branch ∷ name ∷ codes "group" ∷ []) changes

pub ends_called : (c : Call) → EndsWithFeed (call_text c)
ends_called (call.Record branch name changes) = record_ends branch name changes
ends_called other = (join_with_byte 32 (call_words other), refl)
