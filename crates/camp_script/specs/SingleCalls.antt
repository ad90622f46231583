-- The text of one call, and its parsing.
use Rattle.std.specs.Prelude.{◌≡◌, ◌≢◌, ℕ, List, Option, None, Some}
use Rattle.camp_call.specs.declared.calls.Call.{Call}
use Rattle.camp_script.specs.Canonical.{IsScriptCall, call_text}

-- the parsed call can be in a script and has this text; if there is none, no call that can be in a script has this text
abbrev pub IsCallOf : List ℕ → Option Call → Type 0
IsCallOf text None = (call : Call) → IsScriptCall call → call_text call ≢ text
IsCallOf text (Some call) = (call_text call ≡ text) × IsScriptCall call

-- a parsed call if its canonical text is this text, else none
abbrev pub IsOnlyCallOf : List ℕ → Option Call → Type 0
IsOnlyCallOf text None = (call : Call) → IsScriptCall call → call_text call ≢ text
IsOnlyCallOf text (Some call) = IsScriptCall call × ((other : Call) → IsScriptCall other → call_text other ≡ text → call ≡ other)
