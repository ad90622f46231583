-- The text of a history.
use Rattle.std.specs.Prelude.{ℕ, ◌+◌, List, [], ◌∷◌, ◌++◌, length, codes, Option, None, Some}
use Rattle.std.specs.Fmt.{decimal}
use Rattle.camp_prim.specs.declared.primitives.Primitive.{Primitive}
use Rattle.camp_prim.specs.declared.primitives.Primitive.TheVariants.{Add, Remove, Hunk}
use Rattle.camp_call.specs.declared.calls.Call.{Call}
use Rattle.camp_call.specs.declared.calls.Call.TheVariants as call
use Rattle.camp_script.specs.Texts.{line_text}

-- a change: a hunk by its path, its line, and the numbers of its old and new lines
abbrev pub change_words : Primitive → List (List ℕ)
change_words (Add path) = codes "add" ∷ path ∷ []
change_words (Remove path) = codes "remove" ∷ path ∷ []
change_words (Hunk hunk) =
    codes "edit" ∷ hunk.path ∷ decimal hunk.line ∷ decimal (length hunk.old) ∷ decimal (length hunk.new) ∷ []

-- the changes of a patch: one alone, or the number of those of a group
abbrev pub changes_words : List Primitive → List (List ℕ)
changes_words (change ∷ []) = change_words change
changes_words changes = codes "group" ∷ decimal (length changes) ∷ []

-- the names that a pull lists, if it has a list
abbrev pub listed_words : Option (List (List ℕ)) → List (List ℕ)
listed_words None = []
listed_words (Some names) = names

-- a call
abbrev pub call_words : Call → List (List ℕ)
call_words (call.Branch new from) = codes "branch" ∷ new ∷ from ∷ []
call_words (call.Record branch name changes) = codes "record" ∷ branch ∷ name ∷ changes_words changes
call_words (call.Pull from to names) = codes "pull" ∷ from ∷ to ∷ listed_words names
call_words (call.Obliterate branch names) = codes "obliterate" ∷ branch ∷ names
call_words (call.Tree branch) = codes "tree" ∷ branch ∷ []
call_words (call.Conflicts branch) = codes "conflicts" ∷ branch ∷ []
call_words (call.Names branch) = codes "names" ∷ branch ∷ []

-- an accepted call: its position, the seat that asked it, and the call
abbrev pub entry_text : ℕ → ℕ × Call → List ℕ
entry_text at entry = line_text (decimal at ∷ decimal entry.0 ∷ call_words entry.1)

-- accepted calls from a position on
abbrev pub entries_text : ℕ → List (ℕ × Call) → List ℕ
entries_text at [] = []
entries_text at (entry ∷ entries) = entry_text at entry ++ entries_text (at + 1) entries

-- a history: the number of its calls, and then each, from position 1 on
abbrev pub history_text : List (ℕ × Call) → List ℕ
history_text history = line_text (codes "history" ∷ decimal (length history) ∷ []) ++ entries_text 1 history
