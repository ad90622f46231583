-- The meaning of a line agrees with what its first words begin, and can be represented.
use Rattle.camp_script.proofs.Common.{◌≡◌, ℕ, Bool, true, false, ◌&&◌, ◌||◌, ◌==◌, ◌<◌, ◌≤◌, nat_le, cond, List, [], ◌∷◌, length, drop, slice_index, codes, refl, sym, ap, subst, ◌∙◌, Result, Ok, ⊎_elim, arith, nat_tests, cases_Bool, both_ways, and_parts, IsTrue, bytes_eq, list_all, is_between, is_name, is_path, Primitive, Add, Remove, Call, IsScriptCall, IsChange, IsListed, AreNames, begins_with, begins_edit, begins_group, LineFault, GroupLine, NoChange, WholeChange, EditChange, EndGroup, whole_change, edit_change, change_of, group_line_of, Command, Nothing, Ask, BeginEdit, BeginGroup, BeginSection, branch_line, whole_record, edit_record, record_of, record_line, names_or_all, pull_line, obliterate_line, branch_at, question, command, command_of, ◌>>=◌, no_words, one_word, two_words, name_at, names_at, path_at, number_at, is_line_number}
use Rattle.std.proofs.lemmas.Slice.Eq.{bytes_eq-Decides}
use Rattle.camp_call.specs.declared.calls.Call.TheVariants as call
use Rattle.camp_script.proofs.Holding.{Holds, fails, bind, either, behind}

-- ---- words that are names, paths and numbers

abbrev pub Name : List ℕ → Type 0
Name name = IsTrue (is_name name)

abbrev pub Path : List ℕ → Type 0
Path path = IsTrue (is_path path)

abbrev pub Place : ℕ → Type 0
Place line = 1 ≤ line

abbrev pub Names : ℕ → List (List ℕ) → Type 0
Names count names = (length names ≡ count) × AreNames names

name_good : (n : ℕ) (word : List ℕ) → Holds Name (name_at n word)
name_good n word = either Name (is_name word) _ _ (λ h. record { value = h }) (λ _. fails)

path_good : (n : ℕ) (word : List ℕ) → Holds Path (path_at n word)
path_good n word = either Path (is_path word) _ _ (λ h. record { value = h }) (λ _. fails)

number_good : (n : ℕ) (word : List ℕ) → Holds Place (number_at n word)
number_good n word =
    either Place (is_line_number word) _ _
    (λ h. let inside = (and_parts (list_all (is_between 48 57) word) _ ((and_parts (is_between 1 10 (length word)) _ h).1)).1 in record { value = grind (arith, nat_tests) }) (λ _. fails)

names_good : (n : ℕ) (words : List (List ℕ)) → Holds (Names (length words)) (names_at n words)
names_good n [] = record { value = (refl, tt) }
names_good n (word ∷ words) =
    bind Name (Names (length (word ∷ words))) (name_at n word) _ (name_good n word) (λ name h.
    bind (Names (length words)) (Names (length (word ∷ words))) (names_at n words) _ (names_good n words) (λ names k.
    record { value = (omega (arith, k.0), (h, k.1)) }))

-- the meaning of a line can be represented
abbrev pub CanBeAsked : Command → Type 0
CanBeAsked Nothing = Unit {0}
CanBeAsked (Ask new) = IsScriptCall new
CanBeAsked (BeginEdit branch name path place) = Name branch × Name name × Path path × Place place
CanBeAsked (BeginGroup branch name) = Name branch × Name name
CanBeAsked BeginSection = Unit {0}

-- the meaning of a line of a group can be represented, after this number of changes
abbrev pub CanBeSaid : ℕ → GroupLine → Type 0
CanBeSaid count NoChange = Unit {0}
CanBeSaid count (WholeChange change) = (count < 64) × IsChange change
CanBeSaid count (EditChange path place) = (count < 64) × Path path × Place place
CanBeSaid count EndGroup = Unit {0}

-- ---- outside groups and bodies

abbrev pub is_edit : Command → Bool
is_edit (BeginEdit branch name path place) = true
is_edit other = false

abbrev pub is_group : Command → Bool
is_group (BeginGroup branch name) = true
is_group other = false

abbrev pub is_section : Command → Bool
is_section BeginSection = true
is_section other = false

-- words begin an edit, a group or the section of a client exactly if that is their meaning, and it can be represented
pub record Fits (words : List (List ℕ)) (asked : Command) : Type 0 where
  pub edits : begins_edit words ≡ is_edit asked
  pub groups : begins_group words ≡ is_group asked
  pub sections : begins_with (codes "client") words ≡ is_section asked
  pub can : CanBeAsked asked

-- if a word is a known one, a fact about lines that begin with the known one holds of its line
by_word : {A : Type 0} (P : List (List ℕ) → A → Type 0) (word this : List ℕ) (words : List (List ℕ)) (x y : Result A LineFault) → Holds (P (this ∷ words)) x → Holds (P (word ∷ words)) y
    → Holds (P (word ∷ words)) (cond (bytes_eq word this) x y)
by_word P word this words x y known other =
    either (P (word ∷ words)) (bytes_eq word this) x y (λ is. subst (λ w. Holds (P (w ∷ words)) x) (sym ((bytes_eq-Decides word this).0 is)) known) (λ _. other)

-- a word that begins with `#` is no other word
no_comment : (word other : List ℕ) → (slice_index word 0 == 35) ≡ true → (slice_index other 0 == 35) ≡ false → bytes_eq word other ≡ false
no_comment word other skipped says =
    ⊎_elim
    (λ same. absurd (both_ways _ says (ap (λ (w : List ℕ). slice_index w 0 == 35) (sym ((bytes_eq-Decides word other).0 same)) ∙ skipped)))
    (λ no. no)
    (cases_Bool (bytes_eq word other))

module _ (word : List ℕ) (words : List (List ℕ)) (skipped : (slice_index word 0 == 35) ≡ true) where
  no_edit : begins_edit (word ∷ words) ≡ false
  no_edit =
      ap (λ b. b || (bytes_eq word (codes "record") && begins_with (codes "edit") (drop 3 (word ∷ words)))) (no_comment word (codes "edit") skipped refl)
      ∙ ap (λ b. b && begins_with (codes "edit") (drop 3 (word ∷ words))) (no_comment word (codes "record") skipped refl)

  no_group : begins_group (word ∷ words) ≡ false
  no_group = ap (λ b. b && begins_with (codes "group") (drop 3 (word ∷ words))) (no_comment word (codes "record") skipped refl)

listed_good : (names : List (List ℕ)) → AreNames names → IsListed (names_or_all names)
listed_good [] h = tt
listed_good (name ∷ names) h = (omega arith, h)

module _ (n : ℕ) where
  pull_fits : (words : List (List ℕ)) → Holds (Fits (codes "pull" ∷ words)) (pull_line n words)
  pull_fits [] = fails
  pull_fits (word ∷ []) = fails
  pull_fits (from ∷ to ∷ words) =
      bind Name (Fits _) (name_at n from) _ (name_good n from) (λ from a. bind Name (Fits _) (name_at n to) _ (name_good n to) (λ to b.
      bind (Names (length words)) (Fits _) (names_at n words) _ (names_good n words) (λ names c. record { value = record { edits = refl; groups = refl; sections = refl; can = (a, b, listed_good names c.1) } })))

  obliterate_fits : (words : List (List ℕ)) → Holds (Fits (codes "obliterate" ∷ words)) (obliterate_line n words)
  obliterate_fits [] = fails
  obliterate_fits (word ∷ []) = fails
  obliterate_fits (branch ∷ word ∷ words) =
      bind Name (Fits _) (name_at n branch) _ (name_good n branch) (λ branch a.
      bind (Names (length (word ∷ words))) (Fits _) (names_at n (word ∷ words)) _ (names_good n (word ∷ words)) (λ names c.
      record { value = record { edits = refl; groups = refl; sections = refl; can = (a, omega (arith, c.0), c.1) } }))

  branch_fits : (words : List (List ℕ)) → Holds (Fits (codes "branch" ∷ words)) (branch_line n words)
  branch_fits words =
      behind (Fits _) (two_words n words) _ (λ pair. bind Name (Fits _) (name_at n pair.0) _ (name_good n pair.0) (λ new a.
      bind Name (Fits _) (name_at n pair.1) _ (name_good n pair.1) (λ from b. record { value = record { edits = refl; groups = refl; sections = refl; can = (a, b) } })))

  client_fits : (words : List (List ℕ)) → Holds (Fits (codes "client" ∷ words)) (no_words n words >>= λ none. Ok BeginSection)
  client_fits words = behind (Fits _) (no_words n words) _ (λ none. record { value = record { edits = refl; groups = refl; sections = refl; can = tt } })

  asks_fits : (word : List ℕ) (words : List (List ℕ)) (make : List ℕ → Call) → ((branch : List ℕ) → Name branch → Fits (word ∷ words) (Ask (make branch)))
      → Holds (Fits (word ∷ words)) (branch_at n words >>= λ branch. Ok (Ask (make branch)))
  asks_fits word words make h =
      bind Name (Fits (word ∷ words)) (branch_at n words) _ (behind Name (one_word n words) _ (λ word. name_good n word)) (λ branch a. record { value = h branch a })

  question_fits : (word : List ℕ) (words : List (List ℕ)) → Holds (Fits (word ∷ words)) (question n word words)
  question_fits word words =
      by_word Fits word (codes "tree") words _ _ (asks_fits (codes "tree") words call.Tree (λ branch a. record { edits = refl; groups = refl; sections = refl; can = a }))
      (by_word Fits word (codes "conflicts") words _ _ (asks_fits (codes "conflicts") words call.Conflicts (λ branch a. record { edits = refl; groups = refl; sections = refl; can = a }))
      (by_word Fits word (codes "names") words _ _ (asks_fits (codes "names") words call.Names (λ branch a. record { edits = refl; groups = refl; sections = refl; can = a })) fails))

  -- the branch and the name of a record
  named_fits : (P : Command → Type 0) (branch name : List ℕ) (next : List ℕ → List ℕ → Result Command LineFault) → ((branch name : List ℕ) → Name branch → Name name → Holds P (next branch name))
      → Holds P (name_at n branch >>= λ branch. name_at n name >>= λ name. next branch name)
  named_fits P branch name next h =
      bind Name P (name_at n branch) _ (name_good n branch) (λ branch a. bind Name P (name_at n name) _ (name_good n name) (λ name b. h branch name a b))

  whole_fits : (words : List (List ℕ)) (change : List ℕ → Primitive) → ((path : List ℕ) → Path path → IsChange (change path)) → (branch name path : List ℕ)
      → ((asked : Call) → IsScriptCall asked → Fits words (Ask asked)) → Holds (Fits words) (whole_record change n branch name path)
  whole_fits words change fits branch name path h =
      named_fits (Fits words) branch name _ (λ branch name a b. bind Path (Fits words) (path_at n path) _ (path_good n path) (λ path c.
      record { value = h (call.Record branch name (change path ∷ [])) (a, b, (omega arith, omega arith), (fits path c, tt)) }))

  edit_fits : (words : List (List ℕ)) (branch name path place : List ℕ)
      → ((branch name path : List ℕ) (place : ℕ) → CanBeAsked (BeginEdit branch name path place) → Fits words (BeginEdit branch name path place)) → Holds (Fits words) (edit_record n branch name path place)
  edit_fits words branch name path place h =
      named_fits (Fits words) branch name _ (λ branch name a b. bind Path (Fits words) (path_at n path) _ (path_good n path) (λ path c.
      bind Place (Fits words) (number_at n place) _ (number_good n place) (λ place d. record { value = h branch name path place (a, b, c, d) })))

  -- the change word of a record
  abbrev FitsRecord : List ℕ → List ℕ → List (List ℕ) → Command → Type 0
  FitsRecord branch name words asked = Fits (codes "record" ∷ branch ∷ name ∷ words) asked

  record_fits : (branch name change : List ℕ) (words : List (List ℕ)) → Holds (FitsRecord branch name (change ∷ words)) (record_of n branch name change words)
  record_fits branch name change words =
      by_word (FitsRecord branch name) change (codes "add") words _ _ (behind (FitsRecord branch name (codes "add" ∷ words)) (one_word n words) _ (λ path.
      whole_fits (codes "record" ∷ branch ∷ name ∷ codes "add" ∷ words) Add (λ path c. c) branch name path (λ asked a. record { edits = refl; groups = refl; sections = refl; can = a })))
      (by_word (FitsRecord branch name) change (codes "remove") words _ _ (behind (FitsRecord branch name (codes "remove" ∷ words)) (one_word n words) _ (λ path.
      whole_fits (codes "record" ∷ branch ∷ name ∷ codes "remove" ∷ words) Remove (λ path c. c) branch name path (λ asked a. record { edits = refl; groups = refl; sections = refl; can = a })))
      (by_word (FitsRecord branch name) change (codes "edit") words _ _ (behind (FitsRecord branch name (codes "edit" ∷ words)) (two_words n words) _ (λ pair.
      edit_fits (codes "record" ∷ branch ∷ name ∷ codes "edit" ∷ words) branch name pair.0 pair.1 (λ branch name path place a. record { edits = refl; groups = refl; sections = refl; can = a })))
      (by_word (FitsRecord branch name) change (codes "group") words _ _ (behind (FitsRecord branch name (codes "group" ∷ words)) (no_words n words) _ (λ none.
      named_fits (FitsRecord branch name (codes "group" ∷ words)) branch name _ (λ branch name a b. record { value = record { edits = refl; groups = refl; sections = refl; can = (a, b) } }))) fails)))

  record_line_fits : (words : List (List ℕ)) → Holds (Fits (codes "record" ∷ words)) (record_line n words)
  record_line_fits [] = fails
  record_line_fits (a ∷ []) = fails
  record_line_fits (a ∷ b ∷ []) = fails
  record_line_fits (branch ∷ name ∷ change ∷ words) = record_fits branch name change words

  command_fits : (word : List ℕ) (words : List (List ℕ)) → Holds (Fits (word ∷ words)) (command n word words)
  command_fits word words =
      by_word Fits word (codes "pull") words _ _ (pull_fits words)
      (by_word Fits word (codes "obliterate") words _ _ (obliterate_fits words)
      (by_word Fits word (codes "branch") words _ _ (branch_fits words)
      (by_word Fits word (codes "record") words _ _ (record_line_fits words)
      (by_word Fits word (codes "client") words _ _ (client_fits words) (question_fits word words)))))

  pub fits : (words : List (List ℕ)) → Holds (Fits words) (command_of n words)
  fits [] = record { value = record { edits = refl; groups = refl; sections = refl; can = tt } }
  fits (word ∷ words) =
      either (Fits (word ∷ words)) (slice_index word 0 == 35) _ _ (λ skipped. record { value = record { edits = no_edit word words skipped; groups = no_group word words skipped; sections = no_comment word (codes "client") skipped refl; can = tt } }) (λ _. command_fits word words)

-- ---- in a group

abbrev pub is_edit_change : GroupLine → Bool
is_edit_change (EditChange path place) = true
is_edit_change other = false

abbrev pub is_end : GroupLine → Bool
is_end EndGroup = true
is_end other = false

-- words begin an edit, or end a group, exactly if that is their meaning; and it can be represented, after this number
-- of changes
pub record FitsGroup (count : ℕ) (words : List (List ℕ)) (said : GroupLine) : Type 0 where
  pub edits : begins_edit words ≡ is_edit_change said
  pub ends : begins_with (codes "done") words ≡ is_end said
  pub can : CanBeSaid count said

has_room : (count : ℕ) → nat_le 64 count ≡ false → count < 64
has_room count h = grind (arith, nat_tests)

module _ (n count : ℕ) where
  whole_change_fits : (words : List (List ℕ)) (change : List ℕ → Primitive) → ((path : List ℕ) → Path path → IsChange (change path)) → (path : List ℕ)
      → ((change : Primitive) → CanBeSaid count (WholeChange change) → FitsGroup count words (WholeChange change)) → Holds (FitsGroup count words) (whole_change change n count path)
  whole_change_fits words change fits path h =
      either (FitsGroup count words) (nat_le 64 count) _ _ (λ _. fails)
      (λ few. bind Path (FitsGroup count words) (path_at n path) _ (path_good n path) (λ path c. record { value = h (change path) (has_room count few, fits path c) }))

  edit_change_fits : (words : List (List ℕ)) (path place : List ℕ)
      → ((path : List ℕ) (place : ℕ) → CanBeSaid count (EditChange path place) → FitsGroup count words (EditChange path place)) → Holds (FitsGroup count words) (edit_change n count path place)
  edit_change_fits words path place h =
      either (FitsGroup count words) (nat_le 64 count) _ _ (λ _. fails)
      (λ few. bind Path (FitsGroup count words) (path_at n path) _ (path_good n path) (λ path c.
      bind Place (FitsGroup count words) (number_at n place) _ (number_good n place) (λ place d. record { value = h path place (has_room count few, c, d) })))

  change_fits : (word : List ℕ) (words : List (List ℕ)) → Holds (FitsGroup count (word ∷ words)) (change_of n count word words)
  change_fits word words =
      by_word (FitsGroup count) word (codes "add") words _ _ (behind (FitsGroup count (codes "add" ∷ words)) (one_word n words) _ (λ path.
      whole_change_fits (codes "add" ∷ words) Add (λ path c. c) path (λ change a. record { edits = refl; ends = refl; can = a })))
      (by_word (FitsGroup count) word (codes "remove") words _ _ (behind (FitsGroup count (codes "remove" ∷ words)) (one_word n words) _ (λ path.
      whole_change_fits (codes "remove" ∷ words) Remove (λ path c. c) path (λ change a. record { edits = refl; ends = refl; can = a })))
      (by_word (FitsGroup count) word (codes "edit") words _ _ (behind (FitsGroup count (codes "edit" ∷ words)) (two_words n words) _ (λ pair.
      edit_change_fits (codes "edit" ∷ words) pair.0 pair.1 (λ path place a. record { edits = refl; ends = refl; can = a })))
      (by_word (FitsGroup count) word (codes "done") words _ _ (behind (FitsGroup count (codes "done" ∷ words)) (no_words n words) _ (λ none. record { value = record { edits = refl; ends = refl; can = tt } })) fails)))

  pub fits_group : (words : List (List ℕ)) → Holds (FitsGroup count words) (group_line_of n count words)
  fits_group [] = record { value = record { edits = refl; ends = refl; can = tt } }
  fits_group (word ∷ words) =
      either (FitsGroup count (word ∷ words)) (slice_index word 0 == 35) _ _
      (λ skipped. record { value = record { edits = no_edit word words skipped; ends = no_comment word (codes "done") skipped refl; can = tt } }) (λ _. change_fits word words)
