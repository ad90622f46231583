-- The history that a log gives.
use Rattle.std.specs.Prelude.{ℕ, List, [], Option}
use Rattle.camp_object.specs.Objects.{Sequential}
use Rattle.camp_member.specs.Decisions.{accepted_after}
use Rattle.camp_member.specs.Entries.{Tagged, requests}

-- the history that a log gives: those of its calls that are accepted, in order
abbrev pub lawful_part : {State Call Reply : Type 0} → Sequential State Call Reply → List (Option (Tagged Call)) → List (ℕ × Call)
lawful_part object log = accepted_after object [] (requests log)
