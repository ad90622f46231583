-- Which calls write, and their sizes.
use Rattle.std.specs.Prelude.{Bool, true, false}
use Rattle.camp_call.specs.declared.calls.Call.{Call}
use Rattle.camp_call.specs.declared.calls.Call.TheVariants as call
use Rattle.camp_call.specs.Patches.{IsPatchSized}

-- a call writes: it is not a question
abbrev pub is_writing : Call → Bool
is_writing (call.Branch new from) = true
is_writing (call.Record branch name changes) = true
is_writing (call.Pull from to names) = true
is_writing (call.Obliterate branch names) = true
is_writing (call.Tree branch) = false
is_writing (call.Conflicts branch) = false
is_writing (call.Names branch) = false

-- a call that is a record has 1 to 64 changes
abbrev pub IsCall : Call → Type 0
IsCall (call.Branch new from) = Unit {0}
IsCall (call.Record branch name changes) = IsPatchSized changes
IsCall (call.Pull from to names) = Unit {0}
IsCall (call.Obliterate branch names) = Unit {0}
IsCall (call.Tree branch) = Unit {0}
IsCall (call.Conflicts branch) = Unit {0}
IsCall (call.Names branch) = Unit {0}
