-- The limits of a script.
use Rattle.std.specs.Prelude.{◌≤◌, ℕ, List, length, count_by}
use Rattle.std.specs.List.{AllByRecursion}
use Rattle.camp_call.specs.Calls.{is_writing}
use Rattle.camp_call.specs.declared.calls.Call.{Call}

-- the most clients of a script
abbrev pub most_clients : ℕ
most_clients = 63

-- the most sections of a script: the opening, and one for each client
abbrev pub most_sections : ℕ
most_sections = 64

-- the most writing calls of a section
abbrev pub most_writing_calls : ℕ
most_writing_calls = 65_536

-- a script is within the limits: it has an opening and at most 64 sections of clients, and no section has too many
-- writing calls
pub record AreWithinLimits (sections : List (List Call)) : Type 0 where
  pub has_opening : 1 ≤ length sections
  pub sections_within : length sections ≤ most_sections
  pub writes_within : AllByRecursion (λ section. count_by is_writing section ≤ most_writing_calls) sections
