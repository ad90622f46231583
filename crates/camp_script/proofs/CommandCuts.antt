-- The lines that belong to a first line, one by one.
use Rattle.camp_script.proofs.Common.{◌≡◌, ℕ, ◌+◌, ◌≤◌, ◌&&◌, Bool, true, false, not, cond, List, [], ◌∷◌, ◌++◌, length, map, codes, refl, sym, ap, subst, ◌∙◌, append_assoc, append-nil, arith, ⊎_elim, cases_Bool, false≢true, Option, None, Some, Result, Ok, Err, bytes_eq, flat_map, is_writing, Call, Command, Nothing, Ask, BeginEdit, BeginGroup, command_of, words_of, NumberedLine, numbered, up_to, begins_with, begins_edit, begins_group, ends_body, ends_group, Progress, start, after_command, after_line, read_from, LineFault, ScriptFault, Line, Memory, IsFaultFirst, IsFaultOf, finished, script_of_lines, ◌>>=◌}
use Rattle.std.specs.Option.{is_some}
use Rattle.camp_script.specs.Gives.{Gives, GivesFaultFirst}
use Rattle.std.proofs.lemmas.Slice.Eq.{bytes_eq-Decides}
use Rattle.camp_script.specs.CommandLines.{GivesScript, HasRead, entry_lines, taken, taken_by, wanted_after, wanted_lines, wants}
use Rattle.camp_script.specs.Inside.Steps.{wanted_in}
use Rattle.camp_script.specs.declared.command_lines.CommandLines.{CommandLines}
use Rattle.camp_script.specs.declared.grouping.Expected.{Expected}
use Rattle.camp_script.specs.declared.grouping.Expected.TheVariants as want
use Rattle.camp_script.proofs.Agreement.{entries_from, reads_as_defined}
use Rattle.camp_script.proofs.ParsedLine.{Fits, fits, is_edit, is_group}
use Rattle.camp_script.proofs.Holding.{Holds}

abbrev bytes_of : List NumberedLine → List (List ℕ)
bytes_of lines = map (λ line. line.bytes) lines

-- the lines of the rest of a group, of which the first are in a body or not
abbrev rest_of_group : Bool → List NumberedLine → List NumberedLine
rest_of_group in_body lines = flat_map entry_lines (up_to ends_group (entries_from in_body lines))

-- ---- bodies

pub nothing_wanted : (lines : List (List ℕ)) → wanted_lines want.Nothing lines ≡ []
nothing_wanted [] = refl
nothing_wanted (line ∷ lines) = refl

body_wanted : (n : ℕ) (lines : List (List ℕ)) → bytes_of (up_to ends_body (numbered n lines)) ≡ wanted_lines want.Body lines
body_wanted n [] = refl
body_wanted n (bytes ∷ lines) =
    elim (bytes_eq bytes (codes "end")) as
    (λ b. bytes_of (record { number = n; bytes = bytes } ∷ cond b [] (up_to ends_body (numbered (n + 1) lines))) ≡ bytes ∷ wanted_lines (cond b want.Nothing want.Body) lines) [
      | true ↦ ap (λ ls. bytes ∷ ls) (sym (nothing_wanted lines))
      | false ↦ ap (λ ls. bytes ∷ ls) (body_wanted (n + 1) lines)
    ]

-- ---- groups

-- a line that begins an edit does not end a group
goes_on : (words : List (List ℕ)) → begins_edit words ≡ true → begins_with (codes "done") words ≡ false
goes_on [] edit = refl
goes_on (word ∷ words) edit =
    ⊎_elim
    (λ is. absurd (false≢true (ap (λ w. begins_edit (w ∷ words)) (sym ((bytes_eq-Decides word (codes "done")).0 is)) ∙ edit)))
    (λ other. other)
    (cases_Bool (bytes_eq word (codes "done")))

-- the lines of a group are those that are wanted, also in one of its bodies
record Agree (n : ℕ) (lines : List (List ℕ)) : Type 0 where
  pub beyond : bytes_of (rest_of_group false (numbered n lines)) ≡ wanted_lines want.Group lines
  pub in_body : bytes_of (up_to ends_body (numbered n lines) ++ rest_of_group true (numbered n lines)) ≡ wanted_lines want.GroupBody lines

module _ (n : ℕ) (bytes : List ℕ) (lines : List (List ℕ)) (next : Agree (n + 1) lines) where
  abbrev line : NumberedLine
  line = record { number = n; bytes = bytes }

  abbrev others : List NumberedLine
  others = numbered (n + 1) lines

  abbrev from_line : Bool → Bool → List (List ℕ)
  from_line edits ends =
      bytes_of (flat_map entry_lines (record { head = line; rest = cond edits (up_to ends_body others) [] } ∷ cond ends [] (up_to ends_group (entries_from edits others))))

  group_line : (edits ends : Bool) → begins_edit (words_of bytes) ≡ edits → begins_with (codes "done") (words_of bytes) ≡ ends
      → from_line edits ends ≡ bytes ∷ wanted_lines (cond edits want.GroupBody (cond ends want.Nothing want.Group)) lines
  group_line true true e d = absurd (false≢true (sym (goes_on (words_of bytes) e) ∙ d))
  group_line true false e d = ap (λ ls. bytes ∷ ls) next.in_body
  group_line false true e d = ap (λ ls. bytes ∷ ls) (sym (nothing_wanted lines))
  group_line false false e d = ap (λ ls. bytes ∷ ls) next.beyond

  body_line : bytes_of (up_to ends_body (line ∷ others) ++ rest_of_group true (line ∷ others)) ≡ wanted_lines want.GroupBody (bytes ∷ lines)
  body_line =
      elim (bytes_eq bytes (codes "end")) as
      (λ b. bytes_of ((line ∷ cond b [] (up_to ends_body others)) ++ rest_of_group (not b) others) ≡ bytes ∷ wanted_lines (cond b want.Group want.GroupBody) lines) [
        | true ↦ ap (λ ls. bytes ∷ ls) next.beyond
        | false ↦ ap (λ ls. bytes ∷ ls) next.in_body
      ]

agree : (n : ℕ) (lines : List (List ℕ)) → Agree n lines
agree n [] = record { beyond = refl; in_body = refl }
agree n (bytes ∷ lines) =
    let next = agree (n + 1) lines in
    record {
      beyond = group_line n bytes lines next (begins_edit (words_of bytes)) (begins_with (codes "done") (words_of bytes)) refl refl;
      in_body = body_line n bytes lines next;
    }

-- ---- a first line

-- what belongs to a command after a line with this meaning
abbrev pub wanted_by : Result Command LineFault → Expected
wanted_by (Ok (BeginEdit branch name path place)) = want.Body
wanted_by (Ok (BeginGroup branch name)) = want.Group
wanted_by other = want.Nothing

taken_wanted : (r : Result Command LineFault) (lines : List (List ℕ)) → bytes_of (taken_by r (numbered 2 lines)) ≡ wanted_lines (wanted_by r) lines
taken_wanted (Ok (BeginEdit branch name path place)) lines = body_wanted 2 lines
taken_wanted (Ok (BeginGroup branch name)) lines = (agree 2 lines).beyond
taken_wanted other lines = sym (nothing_wanted lines)

-- the lines of a first line are those wanted by its meaning
pub takes_wanted : (first : List ℕ) (lines : List (List ℕ)) → taken first lines ≡ wanted_lines (wanted_by (command_of 1 (words_of first))) lines
takes_wanted first lines = taken_wanted (command_of 1 (words_of first)) lines

-- the same by its words, if it has no fault
abbrev pub wanted_words : List (List ℕ) → Expected
wanted_words words = cond (begins_edit words) want.Body (cond (begins_group words) want.Group want.Nothing)

by_asked : (asked : Command) → wanted_by (Ok asked) ≡ cond (is_edit asked) want.Body (cond (is_group asked) want.Group want.Nothing)
by_asked Nothing = refl
by_asked other = refl

by_words : (words : List (List ℕ)) (rest : List (List ℕ)) (script : List (List Call)) (r : Result Command LineFault) → Holds (Fits words) r
    → ((r >>= after_command 1 start) >>= λ next. read_from 2 next rest) ≡ Ok script → wanted_by r ≡ wanted_words words
by_words words rest script (Err fault) fit is = cc
by_words words rest script (Ok asked) fit is =
    by_asked asked ∙ (λ i. cond (sym fit.value.edits i) want.Body (cond (sym fit.value.groups i) want.Group want.Nothing))

-- the lines of the first line of a script
pub first_takes_by_words : (first : List ℕ) (rest : List (List ℕ)) (script : List (List Call)) → script_of_lines (first ∷ rest) ≡ Ok script
    → (others : List (List ℕ)) → taken first others ≡ wanted_lines (wanted_words (words_of first)) others
first_takes_by_words first rest script is others =
    takes_wanted first others
    ∙ ap (λ w. wanted_lines w others) (by_words (words_of first) rest script (command_of 1 (words_of first)) (fits 1 (words_of first)) (reads_as_defined (first ∷ rest) ∙ is))

-- at most one line is taken, if it is wanted
pub one_wanted : (wanted : Expected) → wants wanted ≡ true → (lines : List (List ℕ)) → length lines ≤ 1 → wanted_lines wanted lines ≡ lines
one_wanted wanted more [] few = refl
one_wanted wanted more (line ∷ []) few = ap (λ b. cond b (line ∷ []) []) more
one_wanted wanted more (line ∷ next ∷ lines) few = absurd (omega (arith, few))

-- if none is wanted, none is taken
pub none_wanted : (wanted : Expected) → wants wanted ≡ false → (lines : List (List ℕ)) → wanted_lines wanted lines ≡ []
none_wanted wanted enough [] = refl
none_wanted wanted enough (line ∷ lines) = ap (λ b. cond b (line ∷ wanted_lines (wanted_after wanted line) lines) []) enough

-- ---- the result of reading

same_next : (r : Result Progress LineFault) (one other : Progress) → r ≡ Ok one → r ≡ Ok other → one ≡ other
same_next r one other is too = cc

with_room : (b : Bool) (fault : LineFault) (one other : Progress) → cond b (Err fault) (Ok one) ≡ Ok other → one ≡ other
with_room true fault one other is = cc
with_room false fault one other is = cc

-- a first line without a fault opens what belongs to it
opened_by : (r : Result Command LineFault) (next : Progress) → (r >>= after_command 1 start) ≡ Ok next → wanted_in next.open_record ≡ wanted_by r
opened_by (Ok (Ask new)) next is = ap (λ p. wanted_in p.open_record) (sym (with_room (is_writing new && false) _ _ next is))
opened_by (Ok asked) next is = ap (λ p. wanted_in p.open_record) (sym (same_next (after_command 1 start asked) _ next refl is))
opened_by (Err fault) next is = cc

-- a first line with a fault opens nothing
alone_by : (r : Result Command LineFault) (fault : LineFault) → (r >>= after_command 1 start) ≡ Err fault → want.Nothing ≡ wanted_by r
alone_by (Ok (BeginEdit branch name path place)) fault is = cc
alone_by (Ok (BeginGroup branch name)) fault is = cc
alone_by other fault is = refl

-- a first line is read
module _ (first : List ℕ) (others : List (List ℕ)) where
  first_takes : (wanted : Expected) → wanted ≡ wanted_by (command_of 1 (words_of first)) → taken first others ≡ wanted_lines wanted others
  first_takes wanted is = takes_wanted first others ∙ ap (λ w. wanted_lines w others) (sym is)

  first_comes : (r : Result Progress LineFault) → after_line 1 None start first ≡ r → script_of_lines (first ∷ others) ≡ (r >>= λ next. read_from 2 next others)
  first_comes r is = sym (reads_as_defined (first ∷ others)) ∙ ap (λ r. r >>= λ next. read_from 2 next others) is

pub first_read : (command : CommandLines) (first : List ℕ) (begun : Progress) → begun ≡ start → command.number ≡ 1 → command.fault ≡ None
    → after_line 1 begun.open_record begun first ≡ Ok command.reading → command.wanted ≡ wanted_in command.reading.open_record → HasRead command first []
first_read command first begun starts number fault given wanted =
    let read = subst (λ (p : Progress). after_line 1 p.open_record p first ≡ Ok command.reading) starts given in
    record {
      takes = λ others. first_takes first others command.wanted (wanted ∙ opened_by (command_of 1 (words_of first)) command.reading read);
      reads = λ others. subst (λ n. GivesScript command.fault n command.reading others (script_of_lines (first ∷ others))) (sym number)
          (subst (λ f. GivesScript f 1 command.reading others (script_of_lines (first ∷ others))) (sym fault) (first_comes first others (Ok command.reading) read));
    }

pub first_faulty : (command : CommandLines) (first : List ℕ) (begun : Progress) (fault : LineFault) (met : ScriptFault) → begun ≡ start → command.fault ≡ Some (Line fault)
    → met ≡ Line fault → IsFaultFirst met (after_line 1 begun.open_record begun first) → command.wanted ≡ want.Nothing → HasRead command first []
first_faulty command first begun fault met starts told is given wanted =
    let read = subst (λ (p : Progress). after_line 1 p.open_record p first ≡ Err fault) starts
    (subst (λ f. IsFaultFirst f (after_line 1 begun.open_record begun first)) is given) in
    record {
      takes = λ others. first_takes first others command.wanted (wanted ∙ alone_by (command_of 1 (words_of first)) fault read);
      reads = λ others. subst (λ f. GivesScript f command.number command.reading others (script_of_lines (first ∷ others))) (sym told)
          (first_comes first others (Err fault) read);
    }

-- a fault stays, whatever is read after it
fault_stays : (f : Option ScriptFault) (n m : ℕ) (one other : Progress) (these those : List (List ℕ)) (script : Result (List (List Call)) LineFault)
    → is_some f ≡ true → GivesScript f n one these script → GivesScript f m other those script
fault_stays None n m one other these those script faulty comes = absurd (false≢true faulty)
fault_stays (Some fault) n m one other these those script faulty comes = comes

pub no_fault : (f : Option ScriptFault) → is_some f ≡ false → f ≡ None
no_fault None good = refl
no_fault (Some fault) good = absurd (false≢true (sym good))

-- the next line is read
module _ (old new : CommandLines) (first line : List ℕ) (rest : List (List ℕ)) (more : wants old.wanted ≡ true) (after : new.wanted ≡ wanted_after old.wanted line)
    (has : HasRead old first rest) where
  abbrev script : List (List ℕ) → Result (List (List Call)) LineFault
  script others = script_of_lines (first ∷ rest ++ line ∷ others)

  next_takes : (others : List (List ℕ)) → taken first ((rest ++ line ∷ []) ++ others) ≡ (rest ++ line ∷ []) ++ wanted_lines new.wanted others
  next_takes others =
      ap (taken first) (append_assoc rest (line ∷ []) others) ∙ has.takes (line ∷ others)
      ∙ ap (λ b. rest ++ cond b (line ∷ wanted_lines (wanted_after old.wanted line) others) []) more
      ∙ ap (λ w. rest ++ (line ∷ wanted_lines w others)) (sym after) ∙ sym (append_assoc rest (line ∷ []) (wanted_lines new.wanted others))

  next_has : ((others : List (List ℕ)) → GivesScript new.fault new.number new.reading others (script others)) → HasRead new first (rest ++ line ∷ [])
  next_has comes = record {
    takes = next_takes;
    reads = λ others. subst (λ ls. GivesScript new.fault new.number new.reading others (script_of_lines (first ∷ ls))) (sym (append_assoc rest (line ∷ []) others)) (comes others);
  }

  pub passed_over : is_some old.fault ≡ true → new.fault ≡ old.fault → HasRead new first (rest ++ line ∷ [])
  passed_over faulty same =
      next_has (λ others. subst (λ f. GivesScript f new.number new.reading others (script others)) (sym same)
      (fault_stays old.fault old.number new.number old.reading new.reading (line ∷ others) others (script others) faulty (has.reads (line ∷ others))))

  pub out_of_memory : new.fault ≡ Some Memory → HasRead new first (rest ++ line ∷ [])
  out_of_memory now = next_has (λ others. subst (λ f. GivesScript f new.number new.reading others (script others)) (sym now) tt)

  module _ (number : ℕ) (none : old.fault ≡ None) (counts : number ≡ old.number + 1) where
    comes : (r : Result Progress LineFault) → after_line number old.reading.open_record old.reading line ≡ r → (others : List (List ℕ))
        → script others ≡ (r >>= λ next. read_from (number + 1) next others)
    comes r read others =
        subst (λ f. GivesScript f old.number old.reading (line ∷ others) (script others)) none (has.reads (line ∷ others))
        ∙ ap (λ n. after_line n old.reading.open_record old.reading line >>= λ next. read_from (n + 1) next others) (sym counts)
        ∙ ap (λ r. r >>= λ next. read_from (number + 1) next others) read

    pub next_read : new.fault ≡ old.fault → new.number ≡ number → after_line number old.reading.open_record old.reading line ≡ Ok new.reading → HasRead new first (rest ++ line ∷ [])
    next_read same is read =
        next_has (λ others. subst (λ f. GivesScript f new.number new.reading others (script others)) (sym (same ∙ none))
        (comes (Ok new.reading) read others ∙ ap (λ n. read_from (n + 1) new.reading others) (sym is)))

    pub next_faulty : (fault : ScriptFault) → new.fault ≡ Some fault → IsFaultFirst fault (after_line number old.reading.open_record old.reading line) → HasRead new first (rest ++ line ∷ [])
    next_faulty (Line fault) now read =
        next_has (λ others. subst (λ f. GivesScript f new.number new.reading others (script others)) (sym now) (comes (Err fault) read others))
    next_faulty Memory now read = out_of_memory now

-- ---- the result

gives : {A : Type 0} (r : Result A ScriptFault) (reading : Result A LineFault) → GivesFaultFirst r reading → Gives r reading
gives (Ok value) reading first = first
gives (Err (Line fault)) reading first = first
gives (Err Memory) reading first = tt

module _ (command : CommandLines) (first : List ℕ) (rest : List (List ℕ)) (has : HasRead command first rest) where
  all_read : GivesScript command.fault command.number command.reading [] (script_of_lines (first ∷ rest))
  all_read = subst (λ ls. GivesScript command.fault command.number command.reading [] (script_of_lines (first ∷ ls))) (append-nil rest) (has.reads [])

  pub comes_to_fault : (fault : ScriptFault) → command.fault ≡ Some fault → IsFaultOf fault (script_of_lines (first ∷ rest))
  comes_to_fault fault is = subst (λ f. GivesScript f command.number command.reading [] (script_of_lines (first ∷ rest))) is all_read

  pub comes_to_script : (r : Result (List (List Call)) ScriptFault) → command.fault ≡ None → GivesFaultFirst r (finished command.reading command.reading.open_record) → Gives r (script_of_lines (first ∷ rest))
  comes_to_script r none ends =
      subst (Gives r) (sym (subst (λ f. GivesScript f command.number command.reading [] (script_of_lines (first ∷ rest))) none all_read))
      (gives r (finished command.reading command.reading.open_record) ends)
