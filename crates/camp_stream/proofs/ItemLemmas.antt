-- Items that are written are read.
use Rattle.std.proofs.Common.{◌≡◌, ℕ, ◌+◌, ◌-◌, ◌*◌, ◌^◌, ◌<◌, ◌≤◌, Bool, true, false, true≢false, not, cond, ◌==◌, List, [], ◌∷◌, ◌++◌, length, take, drop, refl, sym, ◌∙◌, ap, Option, None, Some, Result, Ok, Err, ⊎_elim, arith, rules, append_assoc, length-append, take_at, drop-drop}
use Rattle.std.specs.Prelude.{codes, fold, nat_lt, nat_le, unwrap_or}
use Rattle.std.specs.Fmt.{decimal}
use Rattle.std.specs.List.{list_all, position, position_or_len}
use Rattle.std.proofs.lemmas.Bool.{and_from, and_parts, cond-true, cond-false, cases_Bool, eqb-true, le-ltb, lt-ltb, le-leb}
use Rattle.std.proofs.lemmas.Fmt.{digits_decimal, digits_value-decimal, length-decimal-le, decimal_nonempty}
use Rattle.std.proofs.lemmas.Str.Parse.{IsNumeralModel, numerals_by_fold}
use Rattle.std.proofs.lemmas.List.{drop_at, take_rest}
use Rattle.std.proofs.lemmas.List.Sums.{prefix_len-le-length}
use Rattle.std.proofs.lemmas.Bool.{cases_lt}
use Rattle.std.proofs.lemmas.Bool.Decides.{Decides-eqb}
use Rattle.camp_base.specs.Signs.{is_between, is_digit, newline, space}
use Rattle.camp_coding.specs.Modes.{mode_text}
use Rattle.camp_coding.specs.declared.modes.Mode.{Mode}
use Rattle.camp_coding.specs.declared.modes.Mode.TheVariants.{Regular, Executable, Symlink, Submodule}
use Rattle.camp_stream.specs.StreamValues.{Bare, Blank, Data, Delete, Mark, Modify, Text}
use Rattle.camp_stream.specs.StreamItems.{ItemAndRest, ItemsComeBack, bare_item, bare_word, cut_at, data_item, decimal_value, has_no, is_data_length, is_mark, item_at, line_item, mode_of_digits, modify_item, read_or, spaced_item, text_item, text_word, word_item}
use Rattle.camp_stream.specs.declared.items.BareItem.{BareItem}
use Rattle.camp_stream.specs.declared.items.BareItem.TheVariants.{Blob, Checkpoint, DeleteAll, Done}
use Rattle.camp_stream.specs.declared.items.StreamFaultKind.{StreamFaultKind}
use Rattle.camp_stream.specs.declared.items.StreamFaultKind.TheVariants.{BadMode, BadModify, CutOff, UnknownCommand}
use Rattle.camp_stream.specs.declared.items.TextItem.{TextItem}
use Rattle.camp_stream.specs.declared.items.TextItem.TheVariants as text

-- the first place that passes, or the end
pub position-at_end : (p : ℕ → Bool) (bytes : List ℕ) → unwrap_or (position p bytes) (length bytes) ≡ position_or_len p bytes
position-at_end p bytes =
    let short = prefix_len-le-length (λ x. not (p x)) bytes in
    ⊎_elim
    (λ lt. ap (λ (o : Option ℕ). unwrap_or o (length bytes)) (cond-true _ _ _ (lt-ltb _ _ lt)))
    (λ le. ap (λ (o : Option ℕ). unwrap_or o (length bytes)) (cond-false _ _ _ (le-ltb _ _ le)) ∙ omega arith)
    (cases_lt (position_or_len p bytes) (length bytes))

same_byte : (byte : ℕ) → (byte == byte) ≡ true
same_byte byte = (Decides-eqb byte byte).1 refl

-- the first mark comes after the bytes that have none
place_of_mark : (mark : ℕ) (bytes rest : List ℕ) → has_no mark bytes ≡ true → position_or_len (λ byte. byte == mark) (bytes ++ mark ∷ rest) ≡ length bytes
place_of_mark mark [] rest none = cond-false _ _ _ (ap not (same_byte mark))
place_of_mark mark (byte ∷ bytes) rest none =
    let both = and_parts (not (byte == mark)) (has_no mark bytes) none in
    cond-true _ _ _ both.0 ∙ ap (λ (n : ℕ). 1 + n) (place_of_mark mark bytes rest both.1) ∙ omega arith

drop_one : (mark : ℕ) (bytes rest : List ℕ) → drop (length bytes + 1) (bytes ++ mark ∷ rest) ≡ rest
drop_one mark bytes rest =
    ap (drop (length bytes + 1)) (sym (append_assoc bytes (mark ∷ []) rest))
    ∙ drop_at (bytes ++ mark ∷ []) rest (length bytes + 1) (omega (arith, length-append bytes (mark ∷ [])))

-- bytes are cut at the first mark
pub cut_there : (mark : ℕ) (bytes rest : List ℕ) → has_no mark bytes ≡ true → cut_at mark (bytes ++ mark ∷ rest) ≡ Some (bytes, rest)
cut_there mark bytes rest none =
    let whole : List ℕ = bytes ++ mark ∷ rest in
    let size : length bytes < length whole = omega (arith, length-append bytes (mark ∷ rest)) in
    ap (λ (n : ℕ). cond (nat_lt n (length whole)) (Some (take n whole, drop (n + 1) whole)) None) (place_of_mark mark bytes rest none)
    ∙ cond-true _ _ _ (lt-ltb _ _ size)
    ∙ ap (λ (l : List ℕ). Some (l, drop (length bytes + 1) whole)) (take_at bytes (mark ∷ rest) (length bytes) refl)
    ∙ ap (λ (l : List ℕ). Some (bytes, l)) (drop_one mark bytes rest)

-- the two parts before and from the first mark on
pub cut_by_parts : (mark len : ℕ) (bytes before after : List ℕ) → len ≡ position_or_len (λ byte. byte == mark) bytes → len < length bytes → before ≡ take len bytes → after ≡ drop len bytes → Some (before, take (length after - 1) (drop 1 after)) ≡ cut_at mark bytes
cut_by_parts mark len bytes before after place lt front back =
    let rest : take (length after - 1) (drop 1 after) ≡ drop (len + 1) bytes =
    take_rest after 1 ∙ ap (drop 1) back ∙ drop-drop 1 len bytes in
    ap (λ (l : List ℕ). Some (l, take (length after - 1) (drop 1 after))) front
    ∙ ap (λ (l : List ℕ). Some (take len bytes, l)) rest
    ∙ sym (cond-true (nat_lt len (length bytes)) _ _ (lt-ltb _ _ lt))
    ∙ ap (λ (n : ℕ). cond (nat_lt n (length bytes)) (Some (take n bytes, drop (n + 1) bytes)) None) place

-- the item of the first line
pub at_line : (line rest : List ℕ) → has_no newline line ≡ true → item_at (line ++ newline ∷ rest) ≡ line_item line rest
at_line line rest none = ap (λ (found : Option (List ℕ × List ℕ)). read_or found (Err CutOff) (λ parts. line_item parts.0 parts.1)) (cut_there newline line rest none)

has_none_both : (mark : ℕ) (bytes more : List ℕ) → has_no mark bytes ≡ true → has_no mark more ≡ true → has_no mark (bytes ++ more) ≡ true
has_none_both mark [] more none none' = none'
has_none_both mark (byte ∷ bytes) more none none' =
    let both = and_parts (not (byte == mark)) (has_no mark bytes) none in
    and_from _ _ both.0 (has_none_both mark bytes more both.1 none')

not_empty : (line : List ℕ) → 0 < length line → (length line == 0) ≡ false
not_empty line some =
    ⊎_elim (λ is. absurd (omega (arith, eqb-true (length line) 0 is, some))) (λ other. other) (cases_Bool (length line == 0))

-- a line with a space that is no word alone
spaced_line : (word line rest : List ℕ) → has_no space word ≡ true → bare_item (word ++ space ∷ line) ≡ None → line_item (word ++ space ∷ line) rest ≡ spaced_item word line rest
spaced_line word line rest none no_word =
    let whole : List ℕ = word ++ space ∷ line in
    let some : 0 < length whole = omega (arith, length-append word (space ∷ line)) in
    let parts : Result ItemAndRest StreamFaultKind = read_or (cut_at space whole) (Err UnknownCommand) (λ parts. spaced_item parts.0 parts.1 rest) in
    cond-false (length whole == 0) _ _ (not_empty whole some)
    ∙ ap (λ (found : Option BareItem). read_or found parts (λ item. Ok (Bare item, rest))) no_word
    ∙ ap (λ (found : Option (List ℕ × List ℕ)). read_or found (Err UnknownCommand) (λ parts. spaced_item parts.0 parts.1 rest)) (cut_there space word line none)

-- an item that is a word and a text in one line
spaced_item_back : (word line rest : List ℕ) → has_no space word ≡ true → has_no newline word ≡ true → has_no newline line ≡ true → bare_item (word ++ space ∷ line) ≡ None → item_at ((word ++ space ∷ line ++ newline ∷ []) ++ rest) ≡ spaced_item word line rest
spaced_item_back word line rest none none_word none_line no_word =
    ap item_at (append_assoc (word ++ space ∷ line) (newline ∷ []) rest)
    ∙ at_line (word ++ space ∷ line) rest (has_none_both newline word (space ∷ line) none_word none_line)
    ∙ spaced_line word line rest none no_word

bare_back : (item : BareItem) (rest : List ℕ) → item_at ((bare_word item ++ newline ∷ []) ++ rest) ≡ Ok (Bare item, rest)
bare_back Blob rest = at_line (codes "blob") rest refl
bare_back DeleteAll rest = at_line (codes "deleteall") rest refl
bare_back Checkpoint rest = at_line (codes "checkpoint") rest refl
bare_back Done rest = at_line (codes "done") rest refl

text_no_space : (item : TextItem) → has_no space (text_word item) ≡ true
text_no_space text.Commit = refl
text_no_space text.Tag = refl
text_no_space text.Reset = refl
text_no_space text.OriginalOid = refl
text_no_space text.Author = refl
text_no_space text.Committer = refl
text_no_space text.Tagger = refl
text_no_space text.Encoding = refl
text_no_space text.From = refl
text_no_space text.Merge = refl
text_no_space text.Progress = refl
text_no_space text.Feature = refl
text_no_space text.Option = refl

text_no_newline : (item : TextItem) → has_no newline (text_word item) ≡ true
text_no_newline text.Commit = refl
text_no_newline text.Tag = refl
text_no_newline text.Reset = refl
text_no_newline text.OriginalOid = refl
text_no_newline text.Author = refl
text_no_newline text.Committer = refl
text_no_newline text.Tagger = refl
text_no_newline text.Encoding = refl
text_no_newline text.From = refl
text_no_newline text.Merge = refl
text_no_newline text.Progress = refl
text_no_newline text.Feature = refl
text_no_newline text.Option = refl

text_not_bare : (item : TextItem) (line : List ℕ) → bare_item (text_word item ++ space ∷ line) ≡ None
text_not_bare text.Commit line = refl
text_not_bare text.Tag line = refl
text_not_bare text.Reset line = refl
text_not_bare text.OriginalOid line = refl
text_not_bare text.Author line = refl
text_not_bare text.Committer line = refl
text_not_bare text.Tagger line = refl
text_not_bare text.Encoding line = refl
text_not_bare text.From line = refl
text_not_bare text.Merge line = refl
text_not_bare text.Progress line = refl
text_not_bare text.Feature line = refl
text_not_bare text.Option line = refl

text_found : (item : TextItem) → text_item (text_word item) ≡ Some item
text_found text.Commit = refl
text_found text.Tag = refl
text_found text.Reset = refl
text_found text.OriginalOid = refl
text_found text.Author = refl
text_found text.Committer = refl
text_found text.Tagger = refl
text_found text.Encoding = refl
text_found text.From = refl
text_found text.Merge = refl
text_found text.Progress = refl
text_found text.Feature = refl
text_found text.Option = refl

mode_no_newline : (mode : Mode) → has_no newline (mode_text mode) ≡ true
mode_no_newline Regular = refl
mode_no_newline Executable = refl
mode_no_newline Symlink = refl
mode_no_newline Submodule = refl

mode_no_space : (mode : Mode) → has_no space (mode_text mode) ≡ true
mode_no_space Regular = refl
mode_no_space Executable = refl
mode_no_space Symlink = refl
mode_no_space Submodule = refl

mode_found : (mode : Mode) → mode_of_digits (mode_text mode) ≡ Some mode
mode_found Regular = refl
mode_found Executable = refl
mode_found Symlink = refl
mode_found Submodule = refl

-- digits have no LF
digits_no_newline : (digits : List ℕ) → list_all is_digit digits ≡ true → has_no newline digits ≡ true
digits_no_newline [] all = refl
digits_no_newline (digit ∷ digits) all =
    let both = and_parts (is_digit digit) (list_all is_digit digits) all in
    and_from _ _
    (⊎_elim
    (λ is. absurd (true≢false (sym both.0 ∙ ap is_digit (eqb-true digit newline is))))
    (λ other. ap not other)
    (cases_Bool (digit == newline)))
    (digits_no_newline digits both.1)

mark_no_newline : (mark : List ℕ) → is_mark mark ≡ true → has_no newline mark ≡ true
mark_no_newline [] is = absurd (true≢false (sym is))
mark_no_newline (colon ∷ digits) is =
    let both = and_parts (colon == 58) _ is in
    let more = and_parts (not (length digits == 0)) (list_all is_digit digits) both.1 in
    and_from _ _ (ap (λ (byte : ℕ). not (byte == newline)) (eqb-true colon 58 both.0)) (digits_no_newline digits more.1)

abbrev are_digits : List ℕ → Bool
are_digits digits = list_all (is_between 48 57) digits

abbrev value_on : ℕ → List ℕ → ℕ
value_on n digits = fold (λ value digit. value * 10 + (digit - 48)) n digits

own : IsNumeralModel (λ ds. are_digits ds ≡ true) (value_on 0)
own = numerals_by_fold _ (search rules) value_on (search rules)

data_back : (bytes rest : List ℕ) → length bytes < 10 ^ 10 → data_item (decimal (length bytes)) (bytes ++ rest) ≡ Ok (Data bytes, rest)
data_back bytes rest small =
    let n : ℕ = length bytes in
    let fits : n < 2 ^ 64 = omega (arith, small) in
    let some = decimal_nonempty n fits in
    let short = length-decimal-le 10 n (omega arith) small fits in
    let is : is_data_length (decimal n) ≡ true =
    and_from _ _
    (and_from _ _ (le-leb 1 (length (decimal n)) (omega (arith, some))) (le-leb (length (decimal n)) 10 (omega (arith, short))))
    (digits_decimal own n fits) in
    let value : decimal_value (decimal n) ≡ n = digits_value-decimal own n fits in
    let within : n ≤ length (bytes ++ rest) = omega (arith, length-append bytes rest) in
    cond-true (is_data_length (decimal n)) _ _ is
    ∙ ap (λ (v : ℕ). cond (nat_le v (length (bytes ++ rest))) (Ok (Data (take v (bytes ++ rest)), drop v (bytes ++ rest))) (Err CutOff)) value
    ∙ cond-true _ _ _ (le-leb n (length (bytes ++ rest)) within)
    ∙ ap (λ (l : List ℕ). Ok (Data l, drop n (bytes ++ rest))) (take_at bytes rest n refl)
    ∙ ap (λ (l : List ℕ). Ok (Data bytes, l)) (drop_at bytes rest n refl)

modify_back : (mode : Mode) (content path rest : List ℕ) → has_no space content ≡ true → modify_item (mode_text mode ++ space ∷ content ++ space ∷ path) rest ≡ Ok (Modify mode content path, rest)
modify_back mode content path rest none =
    let more : List ℕ = content ++ space ∷ path in
    ap (λ (l : List ℕ). modify_item l rest) (append_assoc (mode_text mode) (space ∷ content) (space ∷ path))
    ∙ ap
    (λ (found : Option (List ℕ × List ℕ)). read_or found (Err BadModify) (λ first. read_or (mode_of_digits first.0) (Err BadMode) (λ mode. read_or (cut_at space first.1) (Err BadModify) (λ second. Ok (Modify mode second.0 second.1, rest)))))
    (cut_there space (mode_text mode) more (mode_no_space mode))
    ∙ ap (λ (found : Option Mode). read_or found (Err BadMode) (λ mode. read_or (cut_at space more) (Err BadModify) (λ second. Ok (Modify mode second.0 second.1, rest)))) (mode_found mode)
    ∙ ap (λ (found : Option (List ℕ × List ℕ)). read_or found (Err BadModify) (λ second. Ok (Modify mode second.0 second.1, rest))) (cut_there space content path none)

pub items_back : ItemsComeBack
items_back Blank rest can = at_line [] rest refl
items_back (Bare item) rest can = bare_back item rest
items_back (Text item line) rest can =
    spaced_item_back (text_word item) line rest (text_no_space item) (text_no_newline item) can (text_not_bare item line)
    ∙ ap (λ (found : Option TextItem). read_or found (word_item (text_word item) line rest) (λ item. Ok (Text item line, rest))) (text_found item)
items_back (Mark mark) rest can =
    spaced_item_back (codes "mark") mark rest refl refl (mark_no_newline mark can) refl ∙ cond-true (is_mark mark) _ _ can
items_back (Data bytes) rest can =
    let n : ℕ = length bytes in
    let fits : n < 2 ^ 64 = omega (arith, can) in
    ap item_at (append_assoc (codes "data " ++ decimal n) (newline ∷ bytes) rest)
    ∙ at_line (codes "data " ++ decimal n) (bytes ++ rest) (digits_no_newline (decimal n) (digits_decimal own n fits))
    ∙ spaced_line (codes "data") (decimal n) (bytes ++ rest) refl refl
    ∙ data_back bytes rest can
items_back (Modify mode content path) rest can =
    let line : List ℕ = mode_text mode ++ space ∷ content ++ space ∷ path in
    let none : has_no newline line ≡ true =
    has_none_both newline (mode_text mode ++ space ∷ content) (space ∷ path)
    (has_none_both newline (mode_text mode) (space ∷ content) (mode_no_newline mode) can.0) can.2 in
    spaced_item_back (codes "M") line rest refl refl none refl ∙ modify_back mode content path rest can.1
items_back (Delete path) rest can = spaced_item_back (codes "D") path rest refl refl can refl
