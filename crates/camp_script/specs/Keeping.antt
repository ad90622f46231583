-- The text that stores a history: a script of its calls.
use Rattle.std.specs.Prelude.{ℕ, ◌≤◌, List, [], ◌∷◌, length, map, Option, None, Some}
use Rattle.camp_call.specs.declared.calls.Call.{Call}
use Rattle.camp_call.specs.declared.calls.Call.TheVariants as call
use Rattle.camp_script.specs.Canonical.{IsScriptCall, script_text}

-- a list of names, if there is one, has a name
abbrev pub HasName : Option (List (List ℕ)) → Type 0
HasName None = Unit {0}
HasName (Some names) = 1 ≤ length names

-- a call that lists names lists at least one
abbrev pub ListsNames : Call → Type 0
ListsNames (call.Branch new from) = Unit {0}
ListsNames (call.Record branch name changes) = Unit {0}
ListsNames (call.Pull from to names) = HasName names
ListsNames (call.Obliterate branch names) = 1 ≤ length names
ListsNames (call.Tree branch) = Unit {0}
ListsNames (call.Conflicts branch) = Unit {0}
ListsNames (call.Names branch) = Unit {0}

-- a call can be in a script unless it has an empty list of names
abbrev pub CanBeInScript : Call → Type 0
CanBeInScript call = ListsNames call → IsScriptCall call

-- the calls of a history, without their seats
abbrev pub calls_of : {Call : Type 0} → List (ℕ × Call) → List Call
calls_of history = map (λ entry. entry.1) history

-- the text that stores a history: a script of one section with its calls in order
abbrev pub kept_text : List (ℕ × Call) → List ℕ
kept_text history = script_text (calls_of history ∷ [])
