-- The canonical text of a script; reading it gives the script.
use Rattle.std.specs.Prelude.{◌≡◌, ℕ, ◌≤◌, IsTrue, List, [], ◌∷◌, ◌++◌, length, Option, None, Some, Ok, codes}
use Rattle.std.specs.List.{flat_map, AllByRecursion}
use Rattle.std.specs.Fmt.{decimal}
use Rattle.camp_base.specs.Bytes.{is_name, is_path, is_line}
use Rattle.camp_base.specs.Trees.{Lines}
use Rattle.camp_prim.specs.Hunks.{IsInRange}
use Rattle.camp_prim.specs.declared.primitives.Primitive.{Primitive}
use Rattle.camp_prim.specs.declared.primitives.Primitive.TheVariants.{Add, Remove, Hunk}
use Rattle.camp_call.specs.Patches.{IsPatchSized}
use Rattle.camp_call.specs.declared.calls.Call.{Call}
use Rattle.camp_call.specs.declared.calls.Call.TheVariants as call
use Rattle.camp_script.specs.Signs.{minus_sign, plus_sign}
use Rattle.camp_script.specs.Texts.{line_text, signed_line}
use Rattle.camp_script.specs.HistoryTexts.{call_words}
use Rattle.camp_script.specs.Reading.{script_of}
use Rattle.camp_script.specs.Sections.{AreWithinLimits}

-- the words that begin a change
abbrev pub change_head : Primitive → List (List ℕ)
change_head (Add path) = codes "add" ∷ path ∷ []
change_head (Remove path) = codes "remove" ∷ path ∷ []
change_head (Hunk hunk) = codes "edit" ∷ hunk.path ∷ decimal hunk.line ∷ []

-- the lines of a change after its first line; empty if it has none
abbrev pub change_body : Primitive → List ℕ
change_body (Add path) = []
change_body (Remove path) = []
change_body (Hunk hunk) =
    flat_map (signed_line minus_sign) hunk.old ++ flat_map (signed_line plus_sign) hunk.new ++ line_text (codes "end" ∷ [])

-- a change of a group
abbrev pub canonical_change : Primitive → List ℕ
canonical_change change = line_text (change_head change) ++ change_body change

-- a record: a single change is on the line of the record, others are in a group
abbrev pub record_text : List ℕ → List ℕ → List Primitive → List ℕ
record_text branch name (change ∷ []) =
    line_text (codes "record" ∷ branch ∷ name ∷ change_head change) ++ change_body change
record_text branch name changes =
    line_text (codes "record" ∷ branch ∷ name ∷ codes "group" ∷ []) ++ flat_map canonical_change changes
    ++ line_text (codes "done" ∷ [])

-- a call in a script: a record with its bodies; any other call on one line, in the form of a history
abbrev pub call_text : Call → List ℕ
call_text (call.Record branch name changes) = record_text branch name changes
call_text other = line_text (call_words other)

-- the canonical text of a section
abbrev pub section_text : List Call → List ℕ
section_text calls = flat_map call_text calls

-- the section of a client
abbrev pub client_text : List Call → List ℕ
client_text calls = line_text (codes "client" ∷ []) ++ section_text calls

-- the canonical text of sections: the opening, followed by those of the clients
abbrev pub script_text : List (List Call) → List ℕ
script_text [] = []
script_text (opening ∷ clients) = section_text opening ++ flat_map client_text clients

-- lines that a program can represent
abbrev pub AreLines : Lines → Type 0
AreLines lines = AllByRecursion (λ line. IsTrue (is_line line)) lines

-- names that a program can represent
abbrev pub AreNames : List (List ℕ) → Type 0
AreNames names = AllByRecursion (λ name. IsTrue (is_name name)) names

-- a change that a program can represent: its path is a path, its lines are lines, and a hunk is in range
abbrev pub IsChange : Primitive → Type 0
IsChange (Add path) = IsTrue (is_path path)
IsChange (Remove path) = IsTrue (is_path path)
IsChange (Hunk hunk) = IsTrue (is_path hunk.path) × IsInRange hunk × AreLines hunk.old × AreLines hunk.new

-- a list of names, if there is one, has a name
abbrev pub IsListed : Option (List (List ℕ)) → Type 0
IsListed None = Unit {0}
IsListed (Some names) = (1 ≤ length names) × AreNames names

-- a call that a script can contain: its names are names, its changes can be represented, and no list of names is empty
abbrev pub IsScriptCall : Call → Type 0
IsScriptCall (call.Branch new from) = IsTrue (is_name new) × IsTrue (is_name from)
IsScriptCall (call.Record branch name changes) =
    IsTrue (is_name branch) × IsTrue (is_name name) × IsPatchSized changes × AllByRecursion IsChange changes
IsScriptCall (call.Pull from to names) = IsTrue (is_name from) × IsTrue (is_name to) × IsListed names
IsScriptCall (call.Obliterate branch names) = IsTrue (is_name branch) × (1 ≤ length names) × AreNames names
IsScriptCall (call.Tree branch) = IsTrue (is_name branch)
IsScriptCall (call.Conflicts branch) = IsTrue (is_name branch)
IsScriptCall (call.Names branch) = IsTrue (is_name branch)

-- sections that a script can contain: their calls can be in a script, and they are within the limits
pub record CanBeWritten (sections : List (List Call)) : Type 0 where
  pub calls : AllByRecursion (AllByRecursion IsScriptCall) sections
  pub limits : AreWithinLimits sections

-- reading the canonical text of such sections gives the sections back
abbrev pub ReadsBack : Type 0
ReadsBack = (sections : List (List Call)) → CanBeWritten sections → script_of (script_text sections) ≡ Ok sections

-- what reading gives is always such sections
abbrev pub ReadIsWritable : Type 0
ReadIsWritable = (bytes : List ℕ) (sections : List (List Call)) → script_of bytes ≡ Ok sections → CanBeWritten sections
