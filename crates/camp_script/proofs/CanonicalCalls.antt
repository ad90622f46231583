-- Reads the canonical text of sections back, call by call.
use Rattle.camp_script.proofs.Common.{◌≡◌, ℕ, ◌+◌, ◌^◌, ◌<◌, ◌≤◌, Bool, true, false, not, ◌&&◌, ◌==◌, nat_lt, nat_le, cond, List, [], ◌∷◌, ◌++◌, length, codes, count_by, slice_index, sym, ap, subst, ◌∙◌, refl, append_assoc, append-nil, None, Some, Option, Result, Ok, arith, length-append, cond-true, cond-false, false≢true, and_parts, nat_tests, flat_map-cons, sum_by-append, sum_by-cons, list_all, flat_map, AllByRecursion, decimal, Primitive, Hunk, is_writing, Call, ◌>>=◌, name_at, names_at, path_at, number_at, is_line_number, call_words, GroupLine, WholeChange, EditChange, EndGroup, group_line_of, Command, Ask, BeginEdit, BeginGroup, BeginSection, command_of, lines_of, is_full, read_from, after_command, after_group_line, after_body, LineFault, line_text, signed_line, Progress, OpenRecord, after_change, record_at, with_open_edit, Lines, is_name, is_path, is_line, is_name_byte, is_graphic, listed_words, Edit, IsInRange}
use Rattle.camp_base.specs.declared.TheConstants.{MAX_NAME_LENGTH, MAX_PATH_LENGTH}
use Rattle.camp_call.specs.declared.calls.Call.TheVariants as call
use Rattle.camp_prim.specs.Commuting.{path_of}
use Rattle.camp_script.specs.Canonical.{ReadsBack, IsScriptCall, IsChange, AreLines, AreNames, IsListed, change_head, change_body, canonical_change, record_text, call_text, section_text, client_text, script_text}
use Rattle.camp_script.proofs.CanonicalLines.{both, all_weaker, is_word, is_word_byte, is_one_line, AreWords, first_line, first_words, words_joined}
use Rattle.camp_script.proofs.Agreement.{reads_as_defined}
use Rattle.camp_script.proofs.CanonicalNumbers.{decimal_is_word, decimal_is_line_number, value_of-decimal}

-- from some bytes to the rest of them the reader goes from one progress to another
pub record Reads (n : ℕ) (p : Progress) (bytes : List ℕ) (q : Progress) (rest : List ℕ) : Type 0 where
  pub line : ℕ
  pub is : read_from n p (lines_of bytes) ≡ read_from line q (lines_of rest)

-- the calls that are read, and no record open
abbrev pub after : List (List Call) → List Call → Progress
after closed done = record { closed = closed; calls = done; open_record = None }

-- the calls that are read, and an open record
abbrev within : List (List Call) → List Call → OpenRecord → Progress
within closed done begun = record { closed = closed; calls = done; open_record = Some begun }

-- a group so far
abbrev group : List ℕ → List ℕ → ℕ → List Primitive → OpenRecord
group branch name opened changes =
    record { branch = branch; name = name; opened = opened; grouped = true; changes = changes; open_edit = None }

-- one way, and then another
pub then : {n : ℕ} {p q r : Progress} {bytes rest last : List ℕ} → Reads n p bytes q rest → ((m : ℕ) → Reads m q rest r last) → Reads n p bytes r last
then first next = record { line = (next first.line).line; is = first.is ∙ (next first.line).is }

-- the same bytes, written in another way
pub same_bytes : {n : ℕ} {p q : Progress} {rest : List ℕ} (bytes written : List ℕ) → bytes ≡ written → Reads n p written q rest → Reads n p bytes q rest
same_bytes {n} {p} {q} {rest} bytes written is reads = subst (λ t. Reads n p t q rest) (sym is) reads

passes : {A B E : Type 0} (r : Result A E) (x : A) (next : A → Result B E) → r ≡ Ok x → (r >>= next) ≡ next x
passes r x next is = ap (λ s. s >>= next) is

pub name_is_word : (name : List ℕ) → is_name name ≡ true → is_word name ≡ true
name_is_word name h =
    let rest = (and_parts (not (length name == 0)) (not (slice_index name 0 == 45) && (nat_le (length name) MAX_NAME_LENGTH && list_all is_name_byte name)) h).1 in
    let bytes = (and_parts (nat_le (length name) MAX_NAME_LENGTH) (list_all is_name_byte name) ((and_parts (not (slice_index name 0 == 45)) _ rest).1)).1 in
    let some = (and_parts (not (length name == 0)) _ h).0 in
    both (nat_lt 0 (length name)) (list_all is_word_byte name) (grind (arith, nat_tests)) (all_weaker is_name_byte is_word_byte (λ x k. grind (arith, nat_tests)) name bytes)

pub path_is_word : (path : List ℕ) → is_path path ≡ true → is_word path ≡ true
path_is_word [] h = absurd (false≢true h)
path_is_word (x ∷ path) h =
    let bytes = (and_parts (list_all is_graphic (x ∷ path)) _ ((and_parts (nat_le (length (x ∷ path)) MAX_PATH_LENGTH) _ h).1)).0 in
    both (nat_lt 0 (length (x ∷ path))) (list_all is_word_byte (x ∷ path)) (grind (arith, nat_tests)) (all_weaker is_graphic is_word_byte (λ x k. grind (arith, nat_tests)) (x ∷ path) bytes)

named : (n : ℕ) (name : List ℕ) → is_name name ≡ true → name_at n name ≡ Ok name
named n name h = cond-true (is_name name) _ _ h

placed : (n : ℕ) (path : List ℕ) → is_path path ≡ true → path_at n path ≡ Ok path
placed n path h = cond-true (is_path path) _ _ h

numbered : (at n : ℕ) → 1 ≤ n → n ≤ 1_073_741_823 → number_at at (decimal n) ≡ Ok n
numbered at n low high = cond-true (is_line_number (decimal n)) _ _ (decimal_is_line_number n low high) ∙ ap Ok (value_of-decimal n (omega arith))

-- two names, from left to right
two_named : {A : Type 0} (n : ℕ) (first second : List ℕ) (next : List ℕ → List ℕ → Result A LineFault) → is_name first ≡ true → is_name second ≡ true → (name_at n first >>= λ a. name_at n second >>= next a) ≡ next first second
two_named n first second next a b = passes (name_at n first) first _ (named n first a) ∙ passes (name_at n second) second (next first) (named n second b)

-- a line of words, outside groups and bodies, by its meaning
words_read : (n : ℕ) (closed : List (List Call)) (done : List Call) (words : List (List ℕ)) (rest : List ℕ) (asked : Command) (next : Progress) → AreWords words
    → command_of n words ≡ Ok asked → after_command n (after closed done) asked ≡ Ok next → Reads n (after closed done) (line_text words ++ rest) next rest
words_read n closed done words rest asked next are asks is = record {
  line = n + 1;
  is = ap (read_from n (after closed done)) (first_words words rest are)
      ∙ ap (λ (r : Result Command LineFault). (r >>= after_command n (after closed done)) >>= λ p. read_from (n + 1) p (lines_of rest)) (ap (command_of n) (words_joined words are) ∙ asks)
      ∙ ap (λ (r : Result Progress LineFault). r >>= λ p. read_from (n + 1) p (lines_of rest)) is;
}

one_lacks : (a b : Bool) → (a ≡ true → b ≡ false) → (a && b) ≡ false
one_lacks true b h = h refl
one_lacks false b h = refl

pub names_are_words : (names : List (List ℕ)) → AreNames names → AreWords names
names_are_words [] h = tt
names_are_words (name ∷ names) h = (name_is_word name h.0, names_are_words names h.1)

names_read : (n : ℕ) (names : List (List ℕ)) → AreNames names → names_at n names ≡ Ok names
names_read n [] h = refl
names_read n (name ∷ names) h = passes (name_at n name) name _ (named n name h.0) ∙ passes (names_at n names) names _ (names_read n names h.1)

-- the meaning of the lines of these calls
module _ (n : ℕ) where
  pull_asks : (from to : List ℕ) (names : Option (List (List ℕ))) → is_name from ≡ true → is_name to ≡ true → IsListed names → command_of n (codes "pull" ∷ from ∷ to ∷ listed_words names) ≡ Ok (Ask (call.Pull from to names))
  pull_asks from to None a b h = two_named n from to _ a b
  pull_asks from to (Some []) a b h = absurd (omega (arith, h.0))
  pull_asks from to (Some (name ∷ names)) a b h = two_named n from to _ a b ∙ passes (names_at n (name ∷ names)) (name ∷ names) _ (names_read n (name ∷ names) h.1)

  obliterate_asks : (branch : List ℕ) (names : List (List ℕ)) → is_name branch ≡ true → 1 ≤ length names → AreNames names → command_of n (codes "obliterate" ∷ branch ∷ names) ≡ Ok (Ask (call.Obliterate branch names))
  obliterate_asks branch [] a some h = absurd (omega arith)
  obliterate_asks branch (name ∷ names) a some h = passes (name_at n branch) branch _ (named n branch a) ∙ passes (names_at n (name ∷ names)) (name ∷ names) _ (names_read n (name ∷ names) h)

pub listed_are_words : (names : Option (List (List ℕ))) → IsListed names → AreWords (listed_words names)
listed_are_words None h = tt
listed_are_words (Some names) h = names_are_words names h.1

-- the first of the lines of a side
pub next_line : (sign : ℕ) (line : List ℕ) (lines : Lines) (rest : List ℕ) → (sign == 10) ≡ false → is_line line ≡ true → lines_of (flat_map (signed_line sign) (line ∷ lines) ++ rest) ≡ (sign ∷ line) ∷ lines_of (flat_map (signed_line sign) lines ++ rest)
next_line sign line lines rest signed h =
    ap lines_of (ap (λ t. t ++ rest) (flat_map-cons (signed_line sign) line lines) ∙ append_assoc (signed_line sign line) (flat_map (signed_line sign) lines) rest ∙ append_assoc (sign ∷ line) (10 ∷ []) (flat_map (signed_line sign) lines ++ rest))
    ∙ first_line (sign ∷ line) (flat_map (signed_line sign) lines ++ rest) (both (not (sign == 10)) (is_one_line line) (ap not signed) ((and_parts (nat_le (length line) _) (is_one_line line) h).1))

pub regrouped : {A : Type 0} (a b c d : List A) → ((a ++ b) ++ c) ++ d ≡ a ++ (b ++ (c ++ d))
regrouped a b c d = simp append_assoc

module _ (closed : List (List Call)) (done : List Call) (begun : OpenRecord) (opened : ℕ) where
  -- a record with this edit so far
  abbrev editing : Edit → OpenRecord
  editing edit = with_open_edit begun (record { opened = opened; edit = edit })

  abbrev in_edit : Edit → Progress
  in_edit edit = within closed done (editing edit)

  -- the lines of a side, each appended to those before it
  side_read : (n sign : ℕ) (side : Lines → Edit) (before lines : Lines) (rest : List ℕ) → (sign == 10) ≡ false
      → ((m : ℕ) (before : Lines) (next : List ℕ) → is_line next ≡ true → after_body m (in_edit (side before)) (editing (side before)) (record { opened = opened; edit = side before }) (sign ∷ next) ≡ Ok (in_edit (side (before ++ next ∷ []))))
      → AreLines lines → Reads n (in_edit (side before)) (flat_map (signed_line sign) lines ++ rest) (in_edit (side (before ++ lines))) rest
  side_read n sign side before [] rest signed grows h = record { line = n; is = ap (λ ls. read_from n (in_edit (side ls)) (lines_of rest)) (sym (append-nil before)) }
  side_read n sign side before (next ∷ lines) rest signed grows h =
      let more = side_read (n + 1) sign side (before ++ next ∷ []) lines rest signed grows h.1 in
      record {
        line = more.line;
        is = ap (read_from n (in_edit (side before))) (next_line sign next lines rest signed h.0)
            ∙ ap (λ (r : Result Progress LineFault). r >>= λ p. read_from (n + 1) p (lines_of (flat_map (signed_line sign) lines ++ rest))) (grows n before next h.0)
            ∙ more.is ∙ ap (λ ls. read_from more.line (in_edit (side ls)) (lines_of rest)) (append_assoc before (next ∷ []) lines);
      }

  end_read : (n : ℕ) (edit : Edit) (rest : List ℕ) (next : Progress) → IsInRange edit → after_change n (in_edit edit) (editing edit) (Hunk edit) ≡ Ok next → Reads n (in_edit edit) (line_text (codes "end" ∷ []) ++ rest) next rest
  end_read n edit rest next range is =
      let some : 1 ≤ length edit.old + length edit.new = range.changes in
      let ends : edit.line + length edit.old + length edit.new ≤ 2 ^ 30 = range.within in
      record {
        line = n + 1;
        is = ap (read_from n (in_edit edit)) (first_line (codes "end") rest refl)
            ∙ ap (λ (r : Result Progress LineFault). r >>= λ p. read_from (n + 1) p (lines_of rest))
            (ap (λ (r : Result Edit LineFault). r >>= λ whole. after_change n (in_edit edit) (editing edit) (Hunk whole))
            (cond-false (length edit.old + length edit.new == 0) _ _ (grind (arith, nat_tests)) ∙ cond-false (nat_lt (2 ^ 30) (edit.line + length edit.old + length edit.new)) _ _ (grind (arith, nat_tests))) ∙ is);
      }

  -- the body of an edit, from its first line on
  body_read : (n : ℕ) (edit : Edit) (rest : List ℕ) (next : Progress) → IsInRange edit → AreLines edit.old → AreLines edit.new → ((m : ℕ) → after_change m (in_edit edit) (editing edit) (Hunk edit) ≡ Ok next)
      → Reads n (in_edit (record { path = edit.path; line = edit.line; old = []; new = [] })) (change_body (Hunk edit) ++ rest) next rest
  body_read n edit rest next range old new is =
      let news = flat_map (signed_line 43) edit.new in
      let end = line_text (codes "end" ∷ []) in
      same_bytes (change_body (Hunk edit) ++ rest) _ (regrouped (flat_map (signed_line 45) edit.old) news end rest)
      (then (side_read n 45 (λ lines. record { path = edit.path; line = edit.line; old = lines; new = [] }) [] edit.old (news ++ (end ++ rest)) refl
      (λ m before next h. ap (λ (r : Result Edit LineFault). r >>= λ edit. Ok (in_edit edit)) (cond-true (is_line next) _ _ h)) old) (λ k.
      then (side_read k 43 (λ lines. record { path = edit.path; line = edit.line; old = edit.old; new = lines }) [] edit.new (end ++ rest) refl
      (λ m before next h. ap (λ (r : Result Edit LineFault). r >>= λ edit. Ok (in_edit edit)) (cond-true (is_line next) _ _ h)) new) (λ l.
      end_read l edit rest next range (is l))))

-- a line number of a file, as a number that a script can contain
place_asks : (n : ℕ) (edit : Edit) → IsInRange edit → number_at n (decimal edit.line) ≡ Ok edit.line
place_asks n edit range = numbered n edit.line range.counted (omega (arith, range.within, range.changes))

pub place_is_word : (edit : Edit) → IsInRange edit → is_word (decimal edit.line) ≡ true
place_is_word edit range = decimal_is_word edit.line (omega (arith, range.within))

-- the words of the first line of a record
abbrev pub record_words : List ℕ → List ℕ → List Primitive → List (List ℕ)
record_words branch name (change ∷ []) = codes "record" ∷ branch ∷ name ∷ change_head change
record_words branch name changes = codes "record" ∷ branch ∷ name ∷ codes "group" ∷ []

-- the words of the first line of a call
abbrev pub first_words_of : Call → List (List ℕ)
first_words_of (call.Record branch name changes) = record_words branch name changes
first_words_of other = call_words other

-- the words of the first line of a call are words
pub head_are : (change : Primitive) → IsChange change → AreWords (change_head change)
head_are (Hunk edit) h = (refl, (path_is_word edit.path h.0, (place_is_word edit h.1, tt)))
head_are change h = (refl, (path_is_word (path_of change) h, tt))

record_are : (branch name : List ℕ) (changes : List Primitive) → is_name branch ≡ true → is_name name ≡ true → AllByRecursion IsChange changes → AreWords (record_words branch name changes)
record_are branch name (change ∷ []) b m h = (refl, (name_is_word branch b, (name_is_word name m, head_are change h.0)))
record_are branch name changes b m h = (refl, (name_is_word branch b, (name_is_word name m, (refl, tt))))

pub words_are : (c : Call) → IsScriptCall c → AreWords (first_words_of c)
words_are (call.Branch new from) h = (refl, (name_is_word new h.0, (name_is_word from h.1, tt)))
words_are (call.Record branch name changes) h = record_are branch name changes h.0 h.1 h.3
words_are (call.Pull from to names) h = (refl, (name_is_word from h.0, (name_is_word to h.1, listed_are_words names h.2)))
words_are (call.Obliterate branch names) h = (refl, (name_is_word branch h.0, names_are_words names h.2))
words_are (call.Tree branch) h = (refl, (name_is_word branch h, tt))
words_are (call.Conflicts branch) h = (refl, (name_is_word branch h, tt))
words_are (call.Names branch) h = (refl, (name_is_word branch h, tt))

-- a call on a line of its own, if it is within the limits when it writes
call_line_read : (n : ℕ) (closed : List (List Call)) (done : List Call) (new : Call) (rest : List ℕ) → IsScriptCall new → command_of n (first_words_of new) ≡ Ok (Ask new)
    → (is_writing new ≡ true → is_full done ≡ false) → Reads n (after closed done) (line_text (first_words_of new) ++ rest) (after closed (done ++ new ∷ [])) rest
call_line_read n closed done new rest can asks room =
    words_read n closed done (first_words_of new) rest (Ask new) _ (words_are new can) asks
    (cond-false (is_writing new && is_full done) _ _ (one_lacks (is_writing new) (is_full done) room))

-- a record of one change: its line, followed by the body
alone_read : (n : ℕ) (closed : List (List Call)) (done : List Call) (branch name : List ℕ) (change : Primitive) (rest : List ℕ) → is_name branch ≡ true → is_name name ≡ true → IsChange change → is_full done ≡ false
    → Reads n (after closed done) (line_text (codes "record" ∷ branch ∷ name ∷ change_head change) ++ (change_body change ++ rest)) (after closed (done ++ call.Record branch name (change ∷ []) ∷ [])) rest
alone_read n closed done branch name (Hunk edit) rest b m h room =
    let (p, range, old, new) = h in
    then (words_read n closed done (record_words branch name (Hunk edit ∷ [])) (change_body (Hunk edit) ++ rest) (BeginEdit branch name edit.path edit.line) _
    (record_are branch name (Hunk edit ∷ []) b m (h, tt))
    (two_named n branch name _ b m ∙ passes (path_at n edit.path) edit.path _ (placed n edit.path p) ∙ passes (number_at n (decimal edit.line)) edit.line _ (place_asks n edit range))
    (cond-false (is_full done) _ _ room)) (λ k.
    body_read closed done (record_at n branch name false) n k edit rest (after closed (done ++ call.Record branch name (Hunk edit ∷ []) ∷ [])) range old new (λ l. refl))
alone_read n closed done branch name change rest b m h room =
    call_line_read n closed done (call.Record branch name (change ∷ [])) rest (b, m, (omega arith, omega arith), (h, tt))
    (two_named n branch name _ b m ∙ passes (path_at n (path_of change)) (path_of change) _ (placed n (path_of change) h)) (λ _. room)

has_room : (changes : List Primitive) → length changes < 64 → nat_le 64 (length changes) ≡ false
has_room changes few = grind (arith, nat_tests)

module _ (closed : List (List Call)) (done : List Call) (branch name : List ℕ) (opened : ℕ) where
  abbrev in_group : List Primitive → Progress
  in_group changes = within closed done (group branch name opened changes)

  -- a line of words in a group, by its meaning
  group_words_read : (n : ℕ) (changes : List Primitive) (words : List (List ℕ)) (rest : List ℕ) (said : GroupLine) (next : Progress) → AreWords words
      → group_line_of n (length changes) words ≡ Ok said → after_group_line n (in_group changes) (group branch name opened changes) said ≡ Ok next → Reads n (in_group changes) (line_text words ++ rest) next rest
  group_words_read n changes words rest said next are says is = record {
    line = n + 1;
    is = ap (read_from n (in_group changes)) (first_words words rest are)
        ∙ ap (λ (r : Result GroupLine LineFault). (r >>= after_group_line n (in_group changes) (group branch name opened changes)) >>= λ p. read_from (n + 1) p (lines_of rest))
        (ap (group_line_of n (length changes)) (words_joined words are) ∙ says)
        ∙ ap (λ (r : Result Progress LineFault). r >>= λ p. read_from (n + 1) p (lines_of rest)) is;
  }

  -- a change of a group: its line, followed by the body
  change_read : (n : ℕ) (changes : List Primitive) (change : Primitive) (rest : List ℕ) → length changes < 64 → IsChange change
      → Reads n (in_group changes) (line_text (change_head change) ++ (change_body change ++ rest)) (in_group (changes ++ change ∷ [])) rest
  change_read n changes (Hunk edit) rest few h =
      let (p, range, old, new) = h in
      then (group_words_read n changes (change_head (Hunk edit)) (change_body (Hunk edit) ++ rest) (EditChange edit.path edit.line) _
      (head_are (Hunk edit) h)
      (cond-false (nat_le 64 (length changes)) _ _ (has_room changes few) ∙ passes (path_at n edit.path) edit.path _ (placed n edit.path p)
      ∙ passes (number_at n (decimal edit.line)) edit.line _ (place_asks n edit range)) refl) (λ k.
      body_read closed done (group branch name opened changes) n k edit rest (in_group (changes ++ Hunk edit ∷ [])) range old new (λ l. refl))
  change_read n changes change rest few h =
      group_words_read n changes (change_head change) rest (WholeChange change) _ (head_are change h)
      (cond-false (nat_le 64 (length changes)) _ _ (has_room changes few) ∙ passes (path_at n (path_of change)) (path_of change) _ (placed n (path_of change) h)) refl

  -- the changes of a group
  changes_read : (n : ℕ) (before changes : List Primitive) (rest : List ℕ) → length before + length changes ≤ 64 → AllByRecursion IsChange changes
      → Reads n (in_group before) (flat_map canonical_change changes ++ rest) (in_group (before ++ changes)) rest
  changes_read n before [] rest few h = record { line = n; is = ap (λ cs. read_from n (in_group cs) (lines_of rest)) (sym (append-nil before)) }
  changes_read n before (change ∷ changes) rest few h =
      let text = flat_map canonical_change changes in
      let long : length (before ++ change ∷ []) ≡ length before + 1 = length-append before (change ∷ []) in
      same_bytes (flat_map canonical_change (change ∷ changes) ++ rest) _ (ap (λ t. t ++ rest) (flat_map-cons canonical_change change changes) ∙ regrouped (line_text (change_head change)) (change_body change) text rest)
      (then (change_read n before change (text ++ rest) (omega arith) h.0) (λ k.
      subst (λ cs. Reads k (in_group (before ++ change ∷ [])) (text ++ rest) (in_group cs) rest) (append_assoc before (change ∷ []) changes)
      (changes_read k (before ++ change ∷ []) changes rest (omega (arith, long)) h.1)))

-- a patch whose changes are in a group
group_read : (n : ℕ) (closed : List (List Call)) (done : List Call) (branch name : List ℕ) (changes : List Primitive) (rest : List ℕ) → is_name branch ≡ true → is_name name ≡ true → 1 ≤ length changes → length changes ≤ 64 → AllByRecursion IsChange changes → is_full done ≡ false
    → Reads n (after closed done) (((line_text (codes "record" ∷ branch ∷ name ∷ codes "group" ∷ []) ++ flat_map canonical_change changes) ++ line_text (codes "done" ∷ [])) ++ rest) (after closed (done ++ call.Record branch name changes ∷ [])) rest
group_read n closed done branch name changes rest b m some few h room =
    let first = line_text (codes "record" ∷ branch ∷ name ∷ codes "group" ∷ []) in
    let text = flat_map canonical_change changes in
    let end = line_text (codes "done" ∷ []) in
    same_bytes (((first ++ text) ++ end) ++ rest) (first ++ (text ++ (end ++ rest))) (regrouped first text end rest)
    (then (words_read n closed done (codes "record" ∷ branch ∷ name ∷ codes "group" ∷ []) (text ++ (end ++ rest)) (BeginGroup branch name) _
    (refl, (name_is_word branch b, (name_is_word name m, (refl, tt)))) (two_named n branch name _ b m) (cond-false (is_full done) _ _ room)) (λ k.
    then (changes_read closed done branch name n k [] changes (end ++ rest) (omega arith) h) (λ l.
    group_words_read closed done branch name n l changes (codes "done" ∷ []) rest EndGroup (after closed (done ++ call.Record branch name changes ∷ [])) (refl, tt) refl (cond-false (length changes == 0) _ _ (grind (arith, nat_tests))))))

record_read : (n : ℕ) (closed : List (List Call)) (done : List Call) (branch name : List ℕ) (changes : List Primitive) (rest : List ℕ) → is_name branch ≡ true → is_name name ≡ true → 1 ≤ length changes → length changes ≤ 64 → AllByRecursion IsChange changes → is_full done ≡ false
    → Reads n (after closed done) (record_text branch name changes ++ rest) (after closed (done ++ call.Record branch name changes ∷ [])) rest
record_read n closed done branch name [] rest b m some few h room = absurd (omega arith)
record_read n closed done branch name (change ∷ []) rest b m some few h room =
    same_bytes _ _ (append_assoc (line_text (codes "record" ∷ branch ∷ name ∷ change_head change)) (change_body change) rest) (alone_read n closed done branch name change rest b m h.0 room)
record_read n closed done branch name (change ∷ next ∷ changes) rest b m some few h room = group_read n closed done branch name (change ∷ next ∷ changes) rest b m some few h room

pub call_read : (n : ℕ) (closed : List (List Call)) (done : List Call) (new : Call) (rest : List ℕ) → IsScriptCall new → (is_writing new ≡ true → is_full done ≡ false) → Reads n (after closed done) (call_text new ++ rest) (after closed (done ++ new ∷ [])) rest
call_read n closed done (call.Branch new from) rest h room = call_line_read n closed done (call.Branch new from) rest h (two_named n new from _ h.0 h.1) room
call_read n closed done (call.Record branch name changes) rest h room = record_read n closed done branch name changes rest h.0 h.1 h.2.0 h.2.1 h.3 (room refl)
call_read n closed done (call.Pull from to names) rest h room = call_line_read n closed done (call.Pull from to names) rest h (pull_asks n from to names h.0 h.1 h.2) room
call_read n closed done (call.Obliterate branch names) rest h room = call_line_read n closed done (call.Obliterate branch names) rest h (obliterate_asks n branch names h.0 h.1 h.2) room
call_read n closed done (call.Tree branch) rest h room = call_line_read n closed done (call.Tree branch) rest h (passes (name_at n branch) branch _ (named n branch h)) room
call_read n closed done (call.Conflicts branch) rest h room = call_line_read n closed done (call.Conflicts branch) rest h (passes (name_at n branch) branch _ (named n branch h)) room
call_read n closed done (call.Names branch) rest h room = call_line_read n closed done (call.Names branch) rest h (passes (name_at n branch) branch _ (named n branch h)) room

-- if more calls follow that write, and all are within the limit, one more call is
pub room_for : (done : List Call) (new : Call) (calls : List Call) → count_by is_writing (done ++ new ∷ calls) ≤ 65_536 → is_writing new ≡ true → is_full done ≡ false
room_for done new calls few writes =
    let split = sum_by-append (λ c. cond {A = ℕ} (is_writing c) 1 0) done (new ∷ calls) in
    let first = sum_by-cons (λ c. cond {A = ℕ} (is_writing c) 1 0) new calls in
    let one : cond {A = ℕ} (is_writing new) 1 0 ≡ 1 = cond-true (is_writing new) 1 0 writes in
    let less : count_by is_writing done < 65_536 = omega arith in
    grind (arith, nat_tests)

section_read : (n : ℕ) (closed : List (List Call)) (done calls : List Call) (rest : List ℕ) → AllByRecursion IsScriptCall calls → count_by is_writing (done ++ calls) ≤ 65_536 → Reads n (after closed done) (section_text calls ++ rest) (after closed (done ++ calls)) rest
section_read n closed done [] rest h few = record { line = n; is = ap (λ d. read_from n (after closed d) (lines_of rest)) (sym (append-nil done)) }
section_read n closed done (new ∷ calls) rest h few =
    same_bytes (section_text (new ∷ calls) ++ rest) _ (ap (λ t. t ++ rest) (flat_map-cons call_text new calls) ∙ append_assoc (call_text new) (section_text calls) rest)
    (then (call_read n closed done new (section_text calls ++ rest) h.0 (room_for done new calls few)) (λ k.
    subst (λ d. Reads k (after closed (done ++ new ∷ [])) (section_text calls ++ rest) (after closed d) rest) (append_assoc done (new ∷ []) calls)
    (section_read k closed (done ++ new ∷ []) calls rest h.1 (rw append_assoc few))))

-- the writing calls of each section are within the limit
abbrev AreFew : List (List Call) → Type 0
AreFew sections = AllByRecursion (λ section. count_by is_writing section ≤ 65_536) sections

clients_read : (n : ℕ) (closed : List (List Call)) (done : List Call) (clients : List (List Call)) → AllByRecursion (AllByRecursion IsScriptCall) clients → AreFew clients → length closed + length clients ≤ 63
    → read_from n (after closed done) (lines_of (flat_map client_text clients)) ≡ Ok (closed ++ done ∷ clients)
clients_read n closed done [] h writes few = refl
clients_read n closed done (calls ∷ clients) h writes few =
    let rest = flat_map client_text clients in
    let begins = words_read n closed done (codes "client" ∷ []) (section_text calls ++ rest) BeginSection (after (closed ++ done ∷ []) []) (refl, tt) refl (cond-false (nat_le 63 (length closed)) _ _ (grind (arith, nat_tests))) in
    let reads = section_read begins.line (closed ++ done ∷ []) [] calls rest h.0 writes.0 in
    let long : length (closed ++ done ∷ []) ≡ length closed + 1 = length-append closed (done ∷ []) in
    ap (λ t. read_from n (after closed done) (lines_of t)) (flat_map-cons client_text calls clients ∙ append_assoc (line_text (codes "client" ∷ [])) (section_text calls) rest)
    ∙ begins.is ∙ reads.is ∙ clients_read reads.line (closed ++ done ∷ []) calls clients h.1 writes.1 (omega (arith, long)) ∙ ap Ok (append_assoc closed (done ∷ []) (calls ∷ clients))

pub reads_back : ReadsBack
reads_back [] h = absurd (omega (arith, h.limits.has_opening))
reads_back (opening ∷ clients) h =
    let reads = section_read 1 [] [] opening (flat_map client_text clients) h.calls.0 h.limits.writes_within.0 in
    sym (reads_as_defined (lines_of (script_text (opening ∷ clients)))) ∙ reads.is ∙ clients_read reads.line [] opening clients h.calls.1 h.limits.writes_within.1 (omega (arith, h.limits.sections_within))
