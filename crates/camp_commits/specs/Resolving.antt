-- What the texts of a command stand for: ids, parents, and the changes of a commit with their contents and paths.
use Rattle.std.specs.Prelude.{◌≡◌, ℕ, ◌+◌, if◌then◌else◌, Bool, List, [], ◌∷◌, ◌++◌, Option, None, Some, is_some, Result, Ok, Err}
use Rattle.std.specs.FinMap.{get}
use Rattle.camp_base.specs.Bytes.{is_path}
use Rattle.camp_base.specs.Results.{◌>>=◌}
use Rattle.camp_base.specs.Signs.{newline}
use Rattle.camp_coding.specs.GitPaths.{escaped_path}
use Rattle.camp_coding.specs.declared.modes.Mode.{Mode}
use Rattle.camp_coding.specs.declared.modes.Mode.TheVariants.{Regular, Executable, Symlink, Submodule}
use Rattle.camp_import.specs.declared.entry_changes.EntryChange.{EntryChange}
use Rattle.camp_import.specs.declared.entry_changes.EntryChange.TheVariants as entry
use Rattle.camp_stream.specs.CommandValues.{ChangeValue, CommitValue, DeleteEntries, DeleteEntry, SetEntry}
use Rattle.camp_stream.specs.QuotedPaths.{path_of_text}
use Rattle.camp_commits.specs.Objects.{CommitTrees, Marks, Objects, mark_name, name_if, object_at}
use Rattle.camp_commits.specs.declared.faults.ApplyError.{ApplyError}
use Rattle.camp_commits.specs.declared.faults.ApplyError.TheVariants as apply
use Rattle.camp_commits.specs.declared.faults.CommandFault.{CommandFault}
use Rattle.camp_commits.specs.declared.faults.CommandFault.TheVariants as fault
use Rattle.camp_commits.specs.declared.faults.WrongChange.{WrongChange}
use Rattle.camp_commits.specs.declared.faults.WrongChange.TheVariants as wrong
use Rattle.camp_commits.specs.declared.objects.MarkedObject.{MarkedObject}
use Rattle.camp_commits.specs.declared.objects.MarkedObject.TheVariants.{Blob, Commit}
use Rattle.camp_commits.specs.declared.objects.ReferencePosition.{ReferencePosition}
use Rattle.camp_commits.specs.declared.objects.ReferencePosition.TheVariants.{Unborn, At}

-- a value that is there, else a fault
abbrev pub or_fault : {A E : Type 0} → E → Option A → Result A E
or_fault fault None = Err fault
or_fault fault (Some value) = Ok value

-- the results for elements, of which the first has this index; or the first fault
abbrev pub each_from : {A B E : Type 0} → (ℕ → A → Result B E) → ℕ → List A → Result (List B) E
each_from step index [] = Ok []
each_from step index (x ∷ xs) = step index x >>= λ y. each_from step (index + 1) xs >>= λ ys. Ok (y ∷ ys)

-- the id of a commit, which has to be a name
abbrev pub commit_id_of : Option (List ℕ) → Result (List ℕ) CommandFault
commit_id_of None = Err fault.NoId
commit_id_of (Some text) = or_fault fault.BadId (name_if text)

-- the mark that a command sets, if it sets one
abbrev pub optional_mark : Option (List ℕ) → Result (Option (List ℕ)) CommandFault
optional_mark None = Ok None
optional_mark (Some text) = or_fault fault.LongMark (mark_name text) >>= λ mark. Ok (Some mark)

-- the path under which a reference is stored
abbrev pub reference_key : List ℕ → Result (List ℕ) CommandFault
reference_key reference = if is_path (escaped_path reference) then Ok (escaped_path reference) else Err fault.BadReference

-- a commit that is known
abbrev pub known_commit : CommitTrees → List ℕ → Result (List ℕ) CommandFault
known_commit trees id = if is_some (get trees id) then Ok id else Err fault.UnknownParent

-- the id that a text gives: that of the commit with this mark, or the text itself
abbrev pub id_given : Option MarkedObject → List ℕ → Option (List ℕ)
id_given None text = name_if text
id_given (Some (Blob content)) text = None
id_given (Some (Commit id)) text = Some id

-- the commit that a text names, by its mark or its id
abbrev pub commit_named : Objects → List ℕ → Result (List ℕ) CommandFault
commit_named objects text = or_fault fault.UnknownParent (id_given (object_at objects.marks text) text) >>= known_commit objects.trees

-- the commit at which a reference stands, if it has one
abbrev pub commit_at_reference : CommitTrees → Option ReferencePosition → Result (Option (List ℕ)) CommandFault
commit_at_reference trees None = Err fault.UnsetReference
commit_at_reference trees (Some Unborn) = Ok None
commit_at_reference trees (Some (At id)) = known_commit trees id >>= λ known. Ok (Some known)

-- the first parent of a commit: the one after `from`, else the commit at which the reference stands
abbrev pub first_parent : Objects → Option (List ℕ) → List ℕ → Result (Option (List ℕ)) CommandFault
first_parent objects None key = commit_at_reference objects.trees (get objects.references key)
first_parent objects (Some text) key = commit_named objects text >>= λ id. Ok (Some id)

-- the further parents of a commit
abbrev pub further_parents : Objects → List (List ℕ) → Result (List (List ℕ)) CommandFault
further_parents objects texts = each_from (λ index text. commit_named objects text) 0 texts

-- whether a text is given as a mark
abbrev pub is_given_as_mark : List ℕ → Bool
is_given_as_mark text = is_some (mark_name text)

-- the content of a blob
abbrev pub blob_content : Option MarkedObject → Result (List ℕ) WrongChange
blob_content None = Err wrong.UnknownMark
blob_content (Some (Blob content)) = Ok content
blob_content (Some (Commit id)) = Err wrong.UnknownMark

-- the content of a file or a link: that of the blob with this mark
abbrev pub marked_content : Marks → List ℕ → Result (List ℕ) WrongChange
marked_content marks text = if is_given_as_mark text then blob_content (object_at marks text) else Err wrong.NoMark

-- the content of a submodule: its id, and LF
abbrev pub submodule_content : List ℕ → Result (List ℕ) WrongChange
submodule_content text = if is_given_as_mark text then Err wrong.UnknownMark else Ok (text ++ newline ∷ [])

-- the content of an entry that a change sets
abbrev pub entry_content : Marks → Mode → List ℕ → Result (List ℕ) WrongChange
entry_content marks Regular text = marked_content marks text
entry_content marks Executable text = marked_content marks text
entry_content marks Symlink text = marked_content marks text
entry_content marks Submodule text = submodule_content text

-- the path that the text of a change represents
abbrev pub change_path : List ℕ → Result (List ℕ) WrongChange
change_path text = or_fault wrong.BadPath (path_of_text text)

-- a change in which each text is replaced by the path or the content that it gives
abbrev pub resolved_change : Marks → ChangeValue → Result ChangeValue WrongChange
resolved_change marks (SetEntry mode text path) = do
  decoded ← change_path path
  content ← entry_content marks mode text
  Ok (SetEntry mode content decoded)
resolved_change marks (DeleteEntry path) = change_path path >>= λ decoded. Ok (DeleteEntry decoded)
resolved_change marks DeleteEntries = Ok DeleteEntries

-- a fault of the change at an index
abbrev pub at_index : {A : Type 0} → ℕ → Result A WrongChange → Result A CommandFault
at_index index (Ok value) = Ok value
at_index index (Err why) = Err (fault.Change (record { index = index; why = why }))

-- the changes of a commit, or the first fault of one
abbrev pub resolved_changes : Marks → List ChangeValue → Result (List ChangeValue) CommandFault
resolved_changes marks changes = each_from (λ index change. at_index index (resolved_change marks change)) 0 changes

-- the values that the texts of a commit give
pub record Resolution : Type 0 where
  pub id : List ℕ
  pub mark : Option (List ℕ)
  pub key : List ℕ
  pub first : Option (List ℕ)
  pub others : List (List ℕ)
  pub changes : List ChangeValue

-- the values that the texts of a commit give, or the first fault
unfoldable pub resolution_of : Objects → CommitValue → Result Resolution CommandFault
resolution_of objects commit = do
  id ← commit_id_of commit.original_oid
  mark ← optional_mark commit.mark
  key ← reference_key commit.reference
  first ← first_parent objects commit.from key
  others ← further_parents objects commit.merges
  changes ← resolved_changes objects.marks commit.changes
  Ok (record { id = id; mark = mark; key = key; first = first; others = others; changes = changes })

-- a change of entries, with its path and content
abbrev pub value_of_entry : EntryChange → ChangeValue
value_of_entry (entry.Set mode content path) = SetEntry mode content.items path.items
value_of_entry (entry.Delete path) = DeleteEntry path.items
value_of_entry entry.DeleteAll = DeleteEntries

-- an error: out of memory, or the fault that a definition gives
abbrev pub FailsBy : {A : Type 0} → ApplyError → Result A CommandFault → Type 0
FailsBy apply.Memory reading = Unit {0}
FailsBy (apply.Fault why) reading = reading ≡ Err why

-- the result, as a value, is what a definition gives: a value or a fault; or memory ran out
abbrev pub ResolvesTo : {X A : Type 0} → (X → A) → Result X ApplyError → Result A CommandFault → Type 0
ResolvesTo view (Ok found) reading = reading ≡ Ok (view found)
ResolvesTo view (Err why) reading = FailsBy why reading
