-- The steps in which bytes between quotes are read.
use Rattle.std.specs.Prelude.{ℕ, ◌≤◌, List, [], ◌++◌, Option, None, Some, option_map}
use Rattle.camp_stream.specs.QuotedPaths.{onto_path, unquoted_from}
use Rattle.camp_stream.specs.declared.unquoting.EscapeState.{EscapeState}
use Rattle.camp_stream.specs.declared.unquoting.EscapeState.TheVariants.{Plain, Backslash, OneDigit, TwoDigits}
use Rattle.camp_stream.specs.declared.unquoting.Step.{Step}
use Rattle.camp_stream.specs.declared.unquoting.Step.TheVariants.{Closes, Continues, Gives, Fails}

-- the path and the rest that are read after a step, with these bytes left
abbrev pub after_step : Step → List ℕ → Option (List ℕ × List ℕ)
after_step Closes bytes = Some ([], bytes)
after_step (Continues state) bytes = unquoted_from state bytes
after_step (Gives byte) bytes = onto_path byte (unquoted_from Plain bytes)
after_step Fails bytes = None

-- the digits of an escape so far are small enough: with the missing ones they give a byte
abbrev pub IsOctalState : EscapeState → Type 0
IsOctalState Plain = Unit {0}
IsOctalState Backslash = Unit {0}
IsOctalState (OneDigit value) = value ≤ 3
IsOctalState (TwoDigits value) = value ≤ 31

-- `IsOctalState` of the state after a step
abbrev pub IsOctalStep : Step → Type 0
IsOctalStep Closes = Unit {0}
IsOctalStep (Continues state) = IsOctalState state
IsOctalStep (Gives byte) = Unit {0}
IsOctalStep Fails = Unit {0}

-- the result of reading the rest of a path, with the bytes of the path that were read before put in front of it
abbrev pub behind_path : List ℕ → Option (List ℕ × List ℕ) → Option (List ℕ × List ℕ)
behind_path path found = option_map (λ read. (path ++ read.0, read.1)) found
