-- A reader gives the script of the definitions.
use Rattle.camp_script.proofs.Common.{◌≡◌, ℕ, ◌+◌, Bool, true, false, not, ◌&&◌, ◌||◌, ◌==◌, nat_le, cond, List, [], ◌∷◌, ◌++◌, length, codes, refl, sym, ap, ◌∙◌, Option, None, Some, Result, Ok, Err, arith, length-append, cond-false, nat_tests, Edit, Primitive, Hunk, is_writing, Call, Command, Nothing, Ask, BeginEdit, BeginGroup, BeginSection, command_of, words_of, OpenEdit, OpenRecord, Progress, start, after_change, after_command, after_group_line, read_from, LineFault, bytes_eq, if◌then◌else◌, GroupLine, NoChange, WholeChange, EditChange, EndGroup, group_line_of, grown, ended_edit, parsed_edit, group_of, after_body_line, after_entry, with_change, ◌>>=◌, fold_results, NumberedLine, Entry, Item, numbered, up_to, pieces, begins_with, begins_edit, begins_group, words_on, ends_body, line_entries, entry_words, ends_group, items_of, first_section, clients_of, is_full, with_command, after_item, after_client, script_of_lines}
use Rattle.std.specs.List.{list_any}
use Rattle.camp_call.specs.declared.calls.Call.TheVariants as call
use Rattle.camp_script.specs.Faults.{fault_at}
use Rattle.camp_script.specs.declared.faults.FaultKind.TheVariants.{BadGroup, EditNotEnded, GroupNotEnded, TooManyClients, TooManyCommands}
use Rattle.camp_script.proofs.EndSteps.{has_one}
use Rattle.camp_script.proofs.Holding.{Holds}
use Rattle.camp_script.proofs.ParsedLine.{Fits, is_edit, is_group, is_section, fits, FitsGroup, is_edit_change, is_end, fits_group}

-- ---- the state of a reader, and the meaning of the rest of the lines there

-- finished sections, and the calls of this one
abbrev outside : List (List Call) → List Call → Progress
outside closed calls = record { closed = closed; calls = calls; open_record = None }

-- the same, in a record
abbrev inside : List (List Call) → List Call → List ℕ → List ℕ → ℕ → Bool → List Primitive → Option OpenEdit → Progress
inside closed calls branch name opened grouped changes edit = record {
  closed = closed;
  calls = calls;
  open_record = Some (record { branch = branch; name = name; opened = opened; grouped = grouped; changes = changes; open_edit = edit });
}

-- the rest of a script: items of this section, followed by those of clients
abbrev rest_of_script : List (List Call) → List Call → List Item → Result (List (List Call)) LineFault
rest_of_script closed calls items =
    fold_results after_item calls (first_section items) >>= λ calls. fold_results after_client (closed ++ calls ∷ []) (clients_of items)

-- the changes of the rest of a group
abbrev rest_of_group : ℕ → List Primitive → List Entry → Result (List Primitive) LineFault
rest_of_group opened changes entries =
    fold_results after_entry changes entries >>= λ changes.
    if list_any ends_group entries then Ok changes else fault_at opened GroupNotEnded

-- the change of the rest of a body
abbrev rest_of_body : ℕ → Edit → List NumberedLine → Result Primitive LineFault
rest_of_body begun edit body =
    fold_results after_body_line edit body >>= λ edit.
    if list_any ends_body body then Ok (Hunk edit) else fault_at begun EditNotEnded

-- the items of entries, of which the first ones are in a group or not
abbrev items_from : Bool → List Entry → List Item
items_from in_group entries = pieces (λ entry. begins_group (entry_words entry)) ends_group in_group entries

-- the entries of lines, of which the first ones are in a body or not
abbrev pub entries_from : Bool → List NumberedLine → List Entry
entries_from in_body lines = pieces (λ line. begins_edit (words_on line)) ends_body in_body lines

-- the rest of a script, from the rest of a group on
abbrev from_group : List (List Call) → List Call → List ℕ → List ℕ → ℕ → List Primitive → List Entry → Result (List (List Call)) LineFault
from_group closed calls branch name opened changes entries =
    rest_of_group opened changes (up_to ends_group entries) >>= λ changes.
    rest_of_script closed (calls ++ call.Record branch name changes ∷ []) (items_from true entries)

-- the rest of a script after a body: a group continues, and a single edit ends its record
abbrev behind_body : List (List Call) → List Call → List ℕ → List ℕ → ℕ → Bool → List Primitive → List Entry → Result (List (List Call)) LineFault
behind_body closed calls branch name opened true changes entries = from_group closed calls branch name opened changes entries
behind_body closed calls branch name opened false changes entries =
    rest_of_script closed (calls ++ call.Record branch name changes ∷ []) (items_of entries)

-- the rest of a script, from the rest of a body on
abbrev from_body : List (List Call) → List Call → List ℕ → List ℕ → ℕ → Bool → List Primitive → ℕ → Edit → List NumberedLine → Result (List (List Call)) LineFault
from_body closed calls branch name opened grouped changes begun edit lines =
    rest_of_body begun edit (up_to ends_body lines) >>= λ change.
    behind_body closed calls branch name opened grouped (changes ++ change ∷ []) (entries_from true lines)

-- from each state a reader gives what the rest of the lines means
record Agrees (n : ℕ) (lines : List (List ℕ)) : Type 0 where
  pub beyond : (closed : List (List Call)) (calls : List Call) → read_from n (outside closed calls) lines ≡ rest_of_script closed calls (items_of (line_entries (numbered n lines)))
  pub in_group : (closed : List (List Call)) (calls : List Call) (branch name : List ℕ) (opened : ℕ) (changes : List Primitive)
      → read_from n (inside closed calls branch name opened true changes None) lines ≡ from_group closed calls branch name opened changes (line_entries (numbered n lines))
  pub in_body : (closed : List (List Call)) (calls : List Call) (branch name : List ℕ) (opened : ℕ) (grouped : Bool) (changes : List Primitive) (begun : ℕ) (edit : Edit)
      → read_from n (inside closed calls branch name opened grouped changes (Some (record { opened = begun; edit = edit }))) lines
      ≡ from_body closed calls branch name opened grouped changes begun edit (numbered n lines)

-- ---- steps one after the other

twice : {A B C : Type 0} (r : Result A LineFault) (f : A → Result B LineFault) (g : B → Result C LineFault) → ((r >>= f) >>= g) ≡ (r >>= λ x. f x >>= g)
twice (Ok x) f g = refl
twice (Err fault) f g = refl

behind_step : {A B C D : Type 0} (r : Result A LineFault) (f : A → B) (g : B → Result C LineFault) (h : C → Result D LineFault) → (((r >>= λ x. Ok (f x)) >>= g) >>= h) ≡ (r >>= λ x. g (f x) >>= h)
behind_step (Ok x) f g h = refl
behind_step (Err fault) f g h = refl

-- ---- a body

module _ (n : ℕ) (bytes : List ℕ) (lines : List (List ℕ)) (next : Agrees (n + 1) lines) (closed : List (List Call)) (calls : List Call) (branch name : List ℕ) (opened : ℕ) where
  -- after the line `end`
  body_ends : (grouped : Bool) (changes : List Primitive) (begun : ℕ) (edit : Edit) (r : Result Edit LineFault)
      → ((r >>= λ edit. after_change n (inside closed calls branch name opened grouped changes (Some (record { opened = begun; edit = edit }))) (record { branch = branch; name = name; opened = opened; grouped = grouped; changes = changes; open_edit = Some (record { opened = begun; edit = edit }) }) (Hunk edit)) >>= λ p. read_from (n + 1) p lines)
      ≡ (((r >>= λ edit. Ok edit) >>= λ edit. Ok (Hunk edit)) >>= λ change. behind_body closed calls branch name opened grouped (changes ++ change ∷ []) (line_entries (numbered (n + 1) lines)))
  body_ends grouped changes begun edit (Err fault) = refl
  body_ends true changes begun edit (Ok more) = next.in_group closed calls branch name opened (changes ++ Hunk more ∷ [])
  body_ends false changes begun edit (Ok more) =
      ap (λ (r : Result Progress LineFault). r >>= λ p. read_from (n + 1) p lines) (cond-false (length (changes ++ Hunk more ∷ []) == 0) _ _ (has_one changes (Hunk more)))
      ∙ next.beyond closed (calls ++ call.Record branch name (changes ++ Hunk more ∷ []) ∷ [])

  -- after another line
  body_grows : (grouped : Bool) (changes : List Primitive) (begun : ℕ) (r : Result Edit LineFault)
      → ((r >>= λ edit. Ok (inside closed calls branch name opened grouped changes (Some (record { opened = begun; edit = edit })))) >>= λ p. read_from (n + 1) p lines)
      ≡ (((r >>= λ edit. fold_results after_body_line edit (up_to ends_body (numbered (n + 1) lines))) >>= λ edit. cond (list_any ends_body (up_to ends_body (numbered (n + 1) lines))) (Ok (Hunk edit)) (fault_at begun EditNotEnded))
      >>= λ change. behind_body closed calls branch name opened grouped (changes ++ change ∷ []) (entries_from true (numbered (n + 1) lines)))
  body_grows grouped changes begun (Err fault) = refl
  body_grows grouped changes begun (Ok edit) = next.in_body closed calls branch name opened grouped changes begun edit

  body_line : (grouped : Bool) (changes : List Primitive) (begun : ℕ) (edit : Edit)
      → read_from n (inside closed calls branch name opened grouped changes (Some (record { opened = begun; edit = edit }))) (bytes ∷ lines)
      ≡ from_body closed calls branch name opened grouped changes begun edit (numbered n (bytes ∷ lines))
  body_line grouped changes begun edit =
      elim (bytes_eq bytes (codes "end")) as
      (λ b. ((cond b
      ((ended_edit n edit >>= λ edit. after_change n (inside closed calls branch name opened grouped changes (Some (record { opened = begun; edit = edit }))) (record { branch = branch; name = name; opened = opened; grouped = grouped; changes = changes; open_edit = Some (record { opened = begun; edit = edit }) }) (Hunk edit)))
      (grown n edit bytes >>= λ edit. Ok (inside closed calls branch name opened grouped changes (Some (record { opened = begun; edit = edit }))))) >>= λ p. read_from (n + 1) p lines)
      ≡ (((cond b (ended_edit n edit) (grown n edit bytes) >>= λ edit. fold_results after_body_line edit (cond b [] (up_to ends_body (numbered (n + 1) lines))))
      >>= λ edit. cond (b || list_any ends_body (cond b [] (up_to ends_body (numbered (n + 1) lines)))) (Ok (Hunk edit)) (fault_at begun EditNotEnded))
      >>= λ change. behind_body closed calls branch name opened grouped (changes ++ change ∷ []) (entries_from (not b) (numbered (n + 1) lines)))) [
        | true ↦ body_ends grouped changes begun edit (ended_edit n edit)
        | false ↦ body_grows grouped changes begun (grown n edit bytes)
      ]

-- ---- a group

module _ (n : ℕ) (bytes : List ℕ) (lines : List (List ℕ)) (next : Agrees (n + 1) lines) (closed : List (List Call)) (calls : List Call) (branch name : List ℕ) (opened : ℕ) (changes : List Primitive) where
  abbrev entry : Bool → Entry
  entry edits = record { head = record { number = n; bytes = bytes }; rest = cond edits (up_to ends_body (numbered (n + 1) lines)) [] }

  -- the rest of the group, if its first line has this meaning, begins an edit or not, and ends the group or not
  abbrev group_where : Bool → Bool → Result GroupLine LineFault → Result (List (List Call)) LineFault
  group_where edits ends said =
      (((said >>= with_change changes (entry edits)) >>= λ changes. fold_results after_entry changes (cond ends [] (up_to ends_group (entries_from edits (numbered (n + 1) lines)))))
      >>= λ changes. cond (ends || list_any ends_group (cond ends [] (up_to ends_group (entries_from edits (numbered (n + 1) lines))))) (Ok changes) (fault_at opened GroupNotEnded))
      >>= λ changes. rest_of_script closed (calls ++ call.Record branch name changes ∷ []) (items_from (not ends) (entries_from edits (numbered (n + 1) lines)))

  abbrev group_so_far : OpenRecord
  group_so_far = record { branch = branch; name = name; opened = opened; grouped = true; changes = changes; open_edit = None }

  group_says : (said : GroupLine) → (after_group_line n (inside closed calls branch name opened true changes None) group_so_far said >>= λ p. read_from (n + 1) p lines) ≡ group_where (is_edit_change said) (is_end said) (Ok said)
  group_says NoChange = next.in_group closed calls branch name opened changes
  group_says (WholeChange change) = next.in_group closed calls branch name opened (changes ++ change ∷ [])
  group_says (EditChange path place) =
      next.in_body closed calls branch name opened true changes n (record { path = path; line = place; old = []; new = [] })
      ∙ sym (ap (λ (r : Result (List Primitive) LineFault). r >>= λ changes. rest_of_script closed (calls ++ call.Record branch name changes ∷ []) (items_from true (entries_from true (numbered (n + 1) lines))))
      (behind_step (parsed_edit n path place (up_to ends_body (numbered (n + 1) lines))) (λ change. changes ++ change ∷ []) _ _)
      ∙ twice (parsed_edit n path place (up_to ends_body (numbered (n + 1) lines))) _ _)
  group_says EndGroup =
      elim (length changes == 0) as
      (λ b. (cond b (fault_at n BadGroup) (Ok (outside closed (calls ++ call.Record branch name changes ∷ []))) >>= λ p. read_from (n + 1) p lines)
      ≡ (((cond b (fault_at n BadGroup) (Ok changes) >>= λ changes. Ok changes) >>= λ changes. Ok changes)
      >>= λ changes. rest_of_script closed (calls ++ call.Record branch name changes ∷ []) (items_of (line_entries (numbered (n + 1) lines))))) [
        | true ↦ refl
        | false ↦ next.beyond closed (calls ++ call.Record branch name changes ∷ [])
      ]

  group_meets : (r : Result GroupLine LineFault) → Holds (FitsGroup (length changes) (words_of bytes)) r
      → ((r >>= after_group_line n (inside closed calls branch name opened true changes None) group_so_far) >>= λ p. read_from (n + 1) p lines) ≡ group_where (begins_edit (words_of bytes)) (begins_with (codes "done") (words_of bytes)) r
  group_meets (Err fault) h = refl
  group_meets (Ok said) h =
      group_says said ∙ ap (λ b. group_where b (is_end said) (Ok said)) (sym h.value.edits) ∙ ap (λ b. group_where (begins_edit (words_of bytes)) b (Ok said)) (sym h.value.ends)

  group_line : read_from n (inside closed calls branch name opened true changes None) (bytes ∷ lines) ≡ from_group closed calls branch name opened changes (line_entries (numbered n (bytes ∷ lines)))
  group_line = group_meets (group_line_of n (length changes) (words_of bytes)) (fits_group n (length changes) (words_of bytes))

-- ---- outside

as_many : (closed : List (List Call)) (calls : List Call) → nat_le 64 (length (closed ++ calls ∷ [])) ≡ nat_le 63 (length closed)
as_many closed calls = let long : length (closed ++ calls ∷ []) ≡ length closed + 1 = length-append closed (calls ∷ []) in ap (nat_le 64) long ∙ grind (arith, nat_tests)

module _ (n : ℕ) (bytes : List ℕ) (lines : List (List ℕ)) (next : Agrees (n + 1) lines) (closed : List (List Call)) (calls : List Call) where
  abbrev behind_line : Bool → List Entry
  behind_line edits = entries_from edits (numbered (n + 1) lines)

  abbrev item : Bool → Bool → Item
  item edits groups = record {
    head = record { head = record { number = n; bytes = bytes }; rest = cond edits (up_to ends_body (numbered (n + 1) lines)) [] };
    rest = cond groups (up_to ends_group (behind_line edits)) [];
  }

  -- the rest of the script, if its first line has this meaning in its section, and begins an edit or a group or not
  abbrev section_where : Bool → Bool → Result Command LineFault → Result (List (List Call)) LineFault
  section_where edits groups asked =
      ((asked >>= with_command calls (item edits groups)) >>= λ calls. fold_results after_item calls (first_section (items_from groups (behind_line edits))))
      >>= λ calls. fold_results after_client (closed ++ calls ∷ []) (clients_of (items_from groups (behind_line edits)))

  -- the same if the line is one of a client
  abbrev client_where : Bool → Bool → Result Command LineFault → Result (List (List Call)) LineFault
  client_where edits groups asked =
      (asked >>= λ begins. cond (nat_le 64 (length (closed ++ calls ∷ []))) (fault_at n TooManyClients)
      (fold_results after_item [] (first_section (items_from groups (behind_line edits))) >>= λ new. Ok ((closed ++ calls ∷ []) ++ new ∷ [])))
      >>= λ sections. fold_results after_client sections (clients_of (items_from groups (behind_line edits)))

  abbrev script_where : Bool → Bool → Bool → Result Command LineFault → Result (List (List Call)) LineFault
  script_where edits groups begins asked = cond begins (client_where edits groups asked) (section_where edits groups asked)

  -- a line of a client begins a section, and any other is one of its section
  either_way : (begins edits groups : Bool)
      → script_where edits groups begins (command_of n (words_of bytes))
      ≡ (fold_results after_item calls (cond begins [] (item edits groups ∷ first_section (items_from groups (behind_line edits))))
      >>= λ calls. fold_results after_client (closed ++ calls ∷ []) (cond begins (record { head = item edits groups; rest = first_section (items_from groups (behind_line edits)) } ∷ clients_of (items_from groups (behind_line edits))) (clients_of (items_from groups (behind_line edits)))))
  either_way true edits groups = refl
  either_way false edits groups = refl

  script_asks : (asked : Command) → (after_command n (outside closed calls) asked >>= λ p. read_from (n + 1) p lines) ≡ script_where (is_edit asked) (is_group asked) (is_section asked) (Ok asked)
  script_asks Nothing = next.beyond closed calls
  script_asks (Ask new) =
      elim (is_writing new && is_full calls) as
      (λ b. (cond b (fault_at n TooManyCommands) (Ok (outside closed (calls ++ new ∷ []))) >>= λ p. read_from (n + 1) p lines)
      ≡ ((cond b (fault_at n TooManyCommands) (Ok (calls ++ new ∷ [])) >>= λ calls. fold_results after_item calls (first_section (items_of (behind_line false))))
      >>= λ calls. fold_results after_client (closed ++ calls ∷ []) (clients_of (items_of (behind_line false))))) [
        | true ↦ refl
        | false ↦ next.beyond closed (calls ++ new ∷ [])
      ]
  script_asks (BeginEdit branch name path place) =
      elim (is_full calls) as
      (λ b. (cond b (fault_at n TooManyCommands) (Ok (inside closed calls branch name n false [] (Some (record { opened = n; edit = record { path = path; line = place; old = []; new = [] } })))) >>= λ p. read_from (n + 1) p lines)
      ≡ (((cond b (fault_at n TooManyCommands) (Ok tt) >>= λ room. parsed_edit n path place (up_to ends_body (numbered (n + 1) lines)) >>= λ change. Ok (calls ++ call.Record branch name (change ∷ []) ∷ []))
      >>= λ calls. fold_results after_item calls (first_section (items_of (behind_line true))))
      >>= λ calls. fold_results after_client (closed ++ calls ∷ []) (clients_of (items_of (behind_line true))))) [
        | true ↦ refl
        | false ↦ next.in_body closed calls branch name n false [] n (record { path = path; line = place; old = []; new = [] })
            ∙ sym (behind_step (parsed_edit n path place (up_to ends_body (numbered (n + 1) lines))) (λ change. calls ++ call.Record branch name (change ∷ []) ∷ []) _ _)
      ]
  script_asks (BeginGroup branch name) =
      elim (is_full calls) as
      (λ b. (cond b (fault_at n TooManyCommands) (Ok (inside closed calls branch name n true [] None)) >>= λ p. read_from (n + 1) p lines)
      ≡ (((cond b (fault_at n TooManyCommands) (Ok tt) >>= λ room. group_of n (up_to ends_group (behind_line false)) >>= λ changes. Ok (calls ++ call.Record branch name changes ∷ []))
      >>= λ calls. fold_results after_item calls (first_section (items_from true (behind_line false))))
      >>= λ calls. fold_results after_client (closed ++ calls ∷ []) (clients_of (items_from true (behind_line false))))) [
        | true ↦ refl
        | false ↦ next.in_group closed calls branch name n []
            ∙ sym (behind_step (group_of n (up_to ends_group (behind_line false))) (λ changes. calls ++ call.Record branch name changes ∷ []) _ _)
      ]
  script_asks BeginSection =
      elim (nat_le 63 (length closed)) as
      (λ b. (cond b (fault_at n TooManyClients) (Ok (outside (closed ++ calls ∷ []) [])) >>= λ p. read_from (n + 1) p lines)
      ≡ (cond b (fault_at n TooManyClients) (fold_results after_item [] (first_section (items_of (behind_line false))) >>= λ new. Ok ((closed ++ calls ∷ []) ++ new ∷ []))
      >>= λ sections. fold_results after_client sections (clients_of (items_of (behind_line false))))) [
        | true ↦ refl
        | false ↦ next.beyond (closed ++ calls ∷ []) [] ∙ sym (twice (fold_results after_item [] (first_section (items_of (behind_line false)))) _ _)
      ]
      ∙ ap (λ b. cond b (fault_at n TooManyClients) (fold_results after_item [] (first_section (items_of (behind_line false))) >>= λ new. Ok ((closed ++ calls ∷ []) ++ new ∷ []))
      >>= λ sections. fold_results after_client sections (clients_of (items_of (behind_line false)))) (sym (as_many closed calls))

  script_meets : (r : Result Command LineFault) → Holds (Fits (words_of bytes)) r
      → ((r >>= after_command n (outside closed calls)) >>= λ p. read_from (n + 1) p lines) ≡ script_where (begins_edit (words_of bytes)) (begins_group (words_of bytes)) (begins_with (codes "client") (words_of bytes)) r
  script_meets (Err fault) h =
      elim (begins_with (codes "client") (words_of bytes)) as (λ b. Err fault ≡ script_where (begins_edit (words_of bytes)) (begins_group (words_of bytes)) b (Err fault)) [ true ↦ refl | false ↦ refl ]
  script_meets (Ok asked) h =
      script_asks asked ∙ ap (λ b. script_where b (is_group asked) (is_section asked) (Ok asked)) (sym h.value.edits)
      ∙ ap (λ b. script_where (begins_edit (words_of bytes)) b (is_section asked) (Ok asked)) (sym h.value.groups)
      ∙ ap (λ b. script_where (begins_edit (words_of bytes)) (begins_group (words_of bytes)) b (Ok asked)) (sym h.value.sections)

  script_line : read_from n (outside closed calls) (bytes ∷ lines) ≡ rest_of_script closed calls (items_of (line_entries (numbered n (bytes ∷ lines))))
  script_line =
      script_meets (command_of n (words_of bytes)) (fits n (words_of bytes))
      ∙ either_way (begins_with (codes "client") (words_of bytes)) (begins_edit (words_of bytes)) (begins_group (words_of bytes))

-- ---- all lines

agrees : (n : ℕ) (lines : List (List ℕ)) → Agrees n lines
agrees n [] = record {
  beyond = λ closed calls. refl;
  in_group = λ closed calls branch name opened changes. refl;
  in_body = λ closed calls branch name opened grouped changes begun edit. refl;
}
agrees n (bytes ∷ lines) =
    let next = agrees (n + 1) lines in
    record {
      beyond = λ closed calls. script_line n bytes lines next closed calls;
      in_group = λ closed calls branch name opened changes. group_line n bytes lines next closed calls branch name opened changes;
      in_body = λ closed calls branch name opened grouped changes begun edit. body_line n bytes lines next closed calls branch name opened grouped changes begun edit;
    }

pub reads_as_defined : (lines : List (List ℕ)) → read_from 1 start lines ≡ script_of_lines lines
reads_as_defined lines = (agrees 1 lines).beyond [] []
