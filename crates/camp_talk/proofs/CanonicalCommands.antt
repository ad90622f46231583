-- The canonical text of a call is a command for exactly this call, and no other command is a prefix of it.
use Rattle.camp_talk.proofs.Words.{◌≡◌, ℕ, ◌+◌, ◌≤◌, Bool, true, false, cond, ◌==◌, List, [], ◌∷◌, ◌++◌, length, length-append, map, drop, codes, Ok, refl, sym, ap, subst, ◌∙◌, arith, append_assoc, append-nil, map-append, length-map, ⊎_elim, cases_Bool, flat_map, onto_first, lines-feed, lines-other, Call, lines_of, words_of, begins_with, begins_edit, script_of_lines, IsCommand, IsLeft, TakesAll, as_read, bytes_eq, call_part, lines_in, script_in, lines_taken, wants, parsed_command, parsed_lines, first_of}
use Rattle.std.specs.List.{AllByRecursion, join_with_byte}
use Rattle.std.proofs.lemmas.List.Concat.{flat_map-cons}
use Rattle.camp_call.specs.declared.calls.Call.TheVariants as call
use Rattle.camp_prim.specs.declared.primitives.Primitive.{Primitive}
use Rattle.camp_prim.specs.declared.primitives.Primitive.TheVariants.{Add, Remove, Hunk}
use Rattle.camp_script.specs.AfterWords.{after_word}
use Rattle.camp_script.specs.Canonical.{IsChange, IsScriptCall, call_text, change_head}
use Rattle.camp_script.specs.CommandLines as command
use Rattle.camp_script.specs.CommandLines.{wanted_after, wanted_lines}
use Rattle.camp_script.specs.declared.grouping.Expected.{Expected}
use Rattle.camp_script.specs.declared.grouping.Expected.TheVariants as want
use Rattle.camp_script.proofs.CanonicalLines.{words_of-joined}
use Rattle.camp_script.proofs.CommandCuts.{first_takes_by_words, nothing_wanted, wanted_words}
use Rattle.camp_script.proofs.CalledLines.{body_lines, change_lines, ends_called, first_words_of, head_are, lines_behind, lines_called, record_rest, record_words, regrouped_lines, text_reads, words_called}
use Rattle.camp_talk.proofs.LineReads.{as_read_short}
use Rattle.camp_talk.specs.Parsing.{parsed_words}
use Rattle.camp_talk.specs.Laws.{IsReadWhole}
use Rattle.camp_talk.specs.declared.questions.ParsedCommand.TheVariants as parsed

-- ---- what belongs to the first line of a call

-- the lines of a body, if this is wanted in it and that after it
module _ (want next : Expected) (more : wants want ≡ true) (after : (line : List ℕ) → wanted_after want line ≡ cond (bytes_eq line (codes "end")) next want) where
  line_wanted : (line : List ℕ) (others : List (List ℕ)) → wanted_lines want (line ∷ others) ≡ line ∷ wanted_lines (cond (bytes_eq line (codes "end")) next want) others
  line_wanted line others =
      ap (λ b. cond b (line ∷ wanted_lines (wanted_after want line) others) []) more ∙ ap (λ w. line ∷ wanted_lines w others) (after line)

  side_wanted : (sign : ℕ) → ((line : List ℕ) → bytes_eq (sign ∷ line) (codes "end") ≡ false) → (lines others : List (List ℕ))
      → wanted_lines want (map (λ line. sign ∷ line) lines ++ others) ≡ map (λ line. sign ∷ line) lines ++ wanted_lines want others
  side_wanted sign goes [] others = refl
  side_wanted sign goes (line ∷ lines) others =
      line_wanted (sign ∷ line) (map (λ line. sign ∷ line) lines ++ others)
      ∙ ap (λ b. (sign ∷ line) ∷ wanted_lines (cond b next want) (map (λ line. sign ∷ line) lines ++ others)) (goes line)
      ∙ ap (λ ls. (sign ∷ line) ∷ ls) (side_wanted sign goes lines others)

  body_wanted : (old new others : List (List ℕ))
      → wanted_lines want (((map (λ line. 45 ∷ line) old ++ map (λ line. 43 ∷ line) new) ++ codes "end" ∷ []) ++ others)
      ≡ ((map (λ line. 45 ∷ line) old ++ map (λ line. 43 ∷ line) new) ++ codes "end" ∷ []) ++ wanted_lines next others
  body_wanted old new others =
      let minus = map (λ (line : List ℕ). 45 ∷ line) old in
      let plus = map (λ (line : List ℕ). 43 ∷ line) new in
      ap (wanted_lines want) (regrouped_lines minus plus (codes "end" ∷ []) others)
      ∙ side_wanted 45 (λ line. refl) old (plus ++ (codes "end" ∷ others))
      ∙ ap (λ ls. minus ++ ls) (side_wanted 43 (λ line. refl) new (codes "end" ∷ others) ∙ ap (λ ls. plus ++ ls) (line_wanted (codes "end") others))
      ∙ sym (regrouped_lines minus plus (codes "end" ∷ []) (wanted_lines next others))

-- the line of a group
head_wanted : (head : List ℕ) (words : List (List ℕ)) (others : List (List ℕ)) → words_of head ≡ words
    → wanted_lines want.Group (head ∷ others) ≡ head ∷ wanted_lines (cond (begins_edit words) want.GroupBody (cond (begins_with (codes "done") words) want.Nothing want.Group)) others
head_wanted head words others is =
    ap (λ ws. head ∷ wanted_lines (cond (begins_edit ws) want.GroupBody (cond (begins_with (codes "done") ws) want.Nothing want.Group)) others) is

-- a change of a group followed by others
change_wanted : (change : Primitive) (others : List (List ℕ)) → IsChange change → wanted_lines want.Group (change_lines change ++ others) ≡ change_lines change ++ wanted_lines want.Group others
change_wanted (Add path) others h = head_wanted _ _ others (words_of-joined (codes "add") (path ∷ []) (head_are (Add path) h))
change_wanted (Remove path) others h = head_wanted _ _ others (words_of-joined (codes "remove") (path ∷ []) (head_are (Remove path) h))
change_wanted (Hunk edit) others h =
    head_wanted (join_with_byte 32 (change_head (Hunk edit))) (change_head (Hunk edit)) (body_lines (Hunk edit) ++ others) (words_of-joined (codes "edit") _ (head_are (Hunk edit) h))
    ∙ ap (λ ls. join_with_byte 32 (change_head (Hunk edit)) ∷ ls) (body_wanted want.GroupBody want.Group refl (λ line. refl) edit.old edit.new others)

-- and so do all
group_wanted : (changes : List Primitive) (others : List (List ℕ)) → AllByRecursion IsChange changes
    → wanted_lines want.Group ((flat_map change_lines changes ++ codes "done" ∷ []) ++ others) ≡ flat_map change_lines changes ++ codes "done" ∷ []
group_wanted [] others h =
    head_wanted (codes "done") (codes "done" ∷ []) others (words_of-joined (codes "done") [] (refl, tt)) ∙ ap (λ ls. codes "done" ∷ ls) (nothing_wanted others)
group_wanted (change ∷ changes) others h =
    let done = codes "done" ∷ [] in
    let after = flat_map change_lines changes ++ done in
    let whole : flat_map change_lines (change ∷ changes) ++ done ≡ change_lines change ++ after =
    ap (λ ls. ls ++ done) (flat_map-cons change_lines change changes) ∙ append_assoc (change_lines change) (flat_map change_lines changes) done in
    ap (λ ls. wanted_lines want.Group (ls ++ others)) whole ∙ ap (wanted_lines want.Group) (append_assoc (change_lines change) after others)
    ∙ change_wanted change (after ++ others) h.0 ∙ ap (λ ls. change_lines change ++ ls) (group_wanted changes others h.1) ∙ sym whole

record_wanted : (branch name : List ℕ) (changes : List Primitive) (others : List (List ℕ)) → AllByRecursion IsChange changes
    → wanted_lines (wanted_words (record_words branch name changes)) (record_rest changes ++ others) ≡ record_rest changes
record_wanted branch name [] others h = group_wanted [] others h
record_wanted branch name (Add path ∷ []) others h = nothing_wanted others
record_wanted branch name (Remove path ∷ []) others h = nothing_wanted others
record_wanted branch name (Hunk edit ∷ []) others h =
    body_wanted want.Body want.Nothing refl (λ line. refl) edit.old edit.new others
    ∙ ap (λ ls. body_lines (Hunk edit) ++ ls) (nothing_wanted others) ∙ append-nil (body_lines (Hunk edit))
record_wanted branch name (change ∷ next ∷ changes) others h = group_wanted (change ∷ next ∷ changes) others h

behind_wanted : (c : Call) (others : List (List ℕ)) → IsScriptCall c → wanted_lines (wanted_words (first_words_of c)) (lines_behind c ++ others) ≡ lines_behind c
behind_wanted (call.Record branch name changes) others h = record_wanted branch name changes others h.3
behind_wanted other others h = nothing_wanted others

-- ---- the call of a command, by its words

foresees : (c : Call) → begins_with (codes "whatif") (first_words_of c) ≡ false
foresees (call.Record branch name (change ∷ [])) = refl
foresees other = refl

asks : (c : Call) → parsed_words (first_words_of c) (Ok ((c ∷ []) ∷ [])) ≡ Ok (parsed.Call c)
asks (call.Record branch name (change ∷ [])) = refl
asks other = refl

-- ---- lines that are read whole

whole_lines : (lines : List (List ℕ)) → AllByRecursion (λ line. length line ≤ 1_048_576) lines → map as_read lines ≡ lines
whole_lines [] short = refl
whole_lines (line ∷ lines) short = λ i. as_read_short line short.0 i ∷ whole_lines lines short.1 i

-- ---- the text of a call is a command

module _ (c : Call) (can : IsScriptCall c) (short : IsReadWhole c) where
  abbrev first : List ℕ
  first = join_with_byte 32 (first_words_of c)

  lines_are : lines_in (call_text c) ≡ first ∷ lines_behind c
  lines_are = whole_lines (lines_of (call_text c)) short ∙ lines_called c can

  call_is : call_part first ≡ first
  call_is =
      ap (λ b. cond b (after_word first) first) (ap (begins_with (codes "whatif")) (words_called c can) ∙ foresees c)

  whole : script_of_lines (first ∷ lines_behind c) ≡ Ok ((c ∷ []) ∷ [])
  whole = ap script_of_lines (sym (lines_called c can)) ∙ text_reads c can

  takes_just : (others : List (List ℕ)) → lines_taken first (lines_behind c ++ others) ≡ lines_behind c
  takes_just others =
      ap (λ line. command.taken line (lines_behind c ++ others)) call_is
      ∙ first_takes_by_words first (lines_behind c) ((c ∷ []) ∷ []) whole (lines_behind c ++ others)
      ∙ ap (λ words. wanted_lines (wanted_words words) (lines_behind c ++ others)) (words_called c can)
      ∙ behind_wanted c others can

  pub is_command : IsCommand (call_text c)
  is_command = record {
    first = first;
    rest = lines_behind c;
    lines = lines_are;
    front = (ends_called c).0;
    ended = (ends_called c).1;
    takes = takes_just;
  }

  -- and it is this call
  pub asks_call : parsed_command (call_text c) ≡ Ok (parsed.Call c)
  asks_call =
      ap parsed_lines lines_are
      ∙ ap (λ words. parsed_words words (script_in (first ∷ lines_behind c))) (words_called c can)
      ∙ ap (parsed_words (first_words_of c)) (ap (λ line. script_of_lines (line ∷ lines_behind c)) call_is ∙ whole)
      ∙ asks c

-- ---- one command at the start

-- the number of line feeds in bytes
abbrev feeds : List ℕ → ℕ
feeds [] = 0
feeds (byte ∷ bytes) = cond {A = ℕ} (byte == 10) 1 0 + feeds bytes

-- lines that are split after a line feed
record CutBehind (front : List ℕ) : Type 0 where
  head : List ℕ
  rest : List (List ℕ)
  are : (others : List ℕ) → lines_of (front ++ 10 ∷ others) ≡ head ∷ (rest ++ lines_of others)
  many : length rest ≡ feeds front

cut_at : (byte : ℕ) (front : List ℕ) → CutBehind front → (b : Bool) → (byte == 10) ≡ b → CutBehind (byte ∷ front)
cut_at byte front cut true feed =
    let one : cond {A = ℕ} (byte == 10) 1 0 ≡ 1 = ap (λ b. cond {A = ℕ} b 1 0) feed in
    let more : length (cut.head ∷ cut.rest) ≡ cond {A = ℕ} (byte == 10) 1 0 + feeds front = omega (arith, one, cut.many) in
    record {
      head = [];
      rest = cut.head ∷ cut.rest;
      are = λ others. lines-feed byte (front ++ 10 ∷ others) feed ∙ ap (λ ls. [] ∷ ls) (cut.are others);
      many = more;
    }
cut_at byte front cut false other =
    let none : cond {A = ℕ} (byte == 10) 1 0 ≡ 0 = ap (λ b. cond {A = ℕ} b 1 0) other in
    let more : length cut.rest ≡ cond {A = ℕ} (byte == 10) 1 0 + feeds front = omega (arith, none, cut.many) in
    record {
      head = byte ∷ cut.head;
      rest = cut.rest;
      are = λ others. lines-other byte (front ++ 10 ∷ others) other ∙ ap (onto_first byte) (cut.are others);
      many = more;
    }

cut_behind : (front : List ℕ) → CutBehind front
cut_behind [] = record { head = []; rest = []; are = λ others. lines-feed 10 others refl; many = refl }
cut_behind (byte ∷ front) = cut_at byte front (cut_behind front) (byte == 10) refl

abbrev head_byte : List ℕ → ℕ
head_byte [] = 0
head_byte (byte ∷ bytes) = byte

same_front : (one two x y : List ℕ) → one ++ 10 ∷ x ≡ two ++ 10 ∷ y → feeds one ≡ feeds two → one ≡ two
same_front [] [] x y same many = refl
same_front [] (byte ∷ two) x y same many =
    let is : cond {A = ℕ} (byte == 10) 1 0 ≡ 1 = ap (λ bytes. cond {A = ℕ} (head_byte bytes == 10) 1 0) (sym same) in
    let none : 0 ≡ cond {A = ℕ} (byte == 10) 1 0 + feeds two = many in
    absurd (omega (arith, is, none))
same_front (byte ∷ one) [] x y same many =
    let is : cond {A = ℕ} (byte == 10) 1 0 ≡ 1 = ap (λ bytes. cond {A = ℕ} (head_byte bytes == 10) 1 0) same in
    let none : cond {A = ℕ} (byte == 10) 1 0 + feeds one ≡ 0 = many in
    absurd (omega (arith, is, none))
same_front (byte ∷ one) (other ∷ two) x y same many =
    let is : cond {A = ℕ} (byte == 10) 1 0 ≡ cond {A = ℕ} (other == 10) 1 0 = ap (λ bytes. cond {A = ℕ} (head_byte bytes == 10) 1 0) same in
    let all : cond {A = ℕ} (byte == 10) 1 0 + feeds one ≡ cond {A = ℕ} (other == 10) 1 0 + feeds two = many in
    let rest = same_front one two x y (ap (drop 1) same) (omega (arith, is, all)) in
    λ i. head_byte (same i) ∷ rest i

abbrev other_lines : List (List ℕ) → List (List ℕ)
other_lines [] = []
other_lines (line ∷ lines) = lines

module _ (d : List ℕ) (is : IsCommand d) where
  cut : CutBehind is.front
  cut = cut_behind is.front

  joined : (y : List ℕ) → d ++ y ≡ is.front ++ 10 ∷ y
  joined y = ap (λ bytes. bytes ++ y) is.ended ∙ append_assoc is.front (10 ∷ []) y

  alone : as_read cut.head ∷ map as_read cut.rest ≡ is.first ∷ is.rest
  alone =
      sym (ap lines_in is.ended ∙ ap (map as_read) (cut.are []) ∙ ap (λ ls. map as_read (cut.head ∷ ls)) (append-nil cut.rest)) ∙ is.lines

  -- the lines of a command, and of what follows it
  lines_with : (y : List ℕ) → lines_in (d ++ y) ≡ is.first ∷ (is.rest ++ lines_in y)
  lines_with y =
      ap lines_in (joined y) ∙ ap (map as_read) (cut.are y)
      ∙ ap (λ ls. as_read cut.head ∷ ls) (map-append as_read cut.rest (lines_of y))
      ∙ ap (λ ls. ls ++ lines_in y) alone

  many_lines : feeds is.front ≡ length is.rest
  many_lines =
      sym cut.many ∙ sym (length-map cut.rest as_read) ∙ ap (λ ls. length (other_lines ls)) alone

module _ (c d x y : List ℕ) (is : IsCommand c) (too : IsCommand d) (same : c ++ x ≡ d ++ y) where
  both_lines : is.first ∷ (is.rest ++ lines_in x) ≡ too.first ∷ (too.rest ++ lines_in y)
  both_lines = sym (lines_with c is x) ∙ ap lines_in same ∙ lines_with d too y

  same_rest : is.rest ≡ too.rest
  same_rest =
      sym (is.takes (lines_in x)) ∙ (λ i. lines_taken (first_of (both_lines i)) (other_lines (both_lines i))) ∙ too.takes (lines_in y)

  -- bytes that begin with a command begin with no other
  pub one_command : c ≡ d
  one_command =
      let fronts = same_front is.front too.front x y (sym (joined c is x) ∙ same ∙ joined d too y)
      (many_lines c is ∙ ap (λ ls. length ls) same_rest ∙ sym (many_lines d too)) in
      is.ended ∙ ap (λ bytes. bytes ++ 10 ∷ []) fronts ∙ sym too.ended

onto_long : (byte : ℕ) (lines : List (List ℕ)) → 1 ≤ length (onto_first byte lines)
onto_long byte [] = omega arith
onto_long byte (line ∷ lines) = omega arith

some_lines : (byte : ℕ) (bytes : List ℕ) → 1 ≤ length (lines_of (byte ∷ bytes))
some_lines byte bytes =
    ⊎_elim
    (λ feed. omega (arith, ap (λ ls. length ls) (lines-feed byte bytes feed)))
    (λ other. omega (arith, ap (λ ls. length ls) (lines-other byte bytes other), onto_long byte (lines_of bytes)))
    (cases_Bool (byte == 10))

no_bytes : (bytes : List ℕ) → length (lines_of bytes) ≡ 0 → bytes ≡ []
no_bytes [] none = refl
no_bytes (byte ∷ bytes) none = absurd (omega (arith, none, some_lines byte bytes))

-- if a command is at the start, the last command left by the end of the input is exactly that
pub left_is : (d y : List ℕ) → IsCommand d → IsLeft (d ++ y) → y ≡ []
left_is d y is left =
    let all : lines_taken is.first (is.rest ++ lines_in y) ≡ is.rest ++ lines_in y = subst TakesAll (lines_with d is y) left in
    let long : length is.rest ≡ length (is.rest ++ lines_in y) = ap (λ ls. length ls) (sym (is.takes (lines_in y)) ∙ all) in
    no_bytes y (omega (arith, long, length-append is.rest (lines_in y), length-map (lines_of y) as_read))

-- a command is not empty
pub not_empty : (d y : List ℕ) → IsCommand d → d ++ y ≡ [] → ⊥
not_empty d y is none =
    absurd (omega (arith, ap (λ bytes. length bytes) (sym (joined d is y) ∙ none), length-append is.front (10 ∷ y)))
