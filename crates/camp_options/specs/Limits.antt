-- The text that is given to the option `--limits`.
use Rattle.std.specs.Prelude.{◌≡◌, ℕ, ◌+◌, ◌==◌, List, length, take, drop, Option, None, Some, Result, Ok, Err, codes, if◌then◌else◌}
use Rattle.std.specs.List.{position_or_len, starts_with}
use Rattle.std.specs.Option.{option_and_then, option_map_or}
use Rattle.camp_options.specs.declared.limits.LimitsFault.{LimitsFault}
use Rattle.camp_options.specs.declared.limits.LimitsFault.TheVariants as fault
use Rattle.camp_repo.specs.Limits.{Bounds, bounded, default_bounds}
use Rattle.camp_repo.specs.declared.faults.LimitFault.{LimitFault}
use Rattle.camp_repo.specs.declared.faults.LimitFault.TheVariants as limit
use Rattle.camp_script.specs.Words.{count_of}

-- the number, in 1 to 10 decimal digits, that follows this word at the start of a text
abbrev pub number_after : List ℕ → List ℕ → Option ℕ
number_after word text = if starts_with ◌==◌ text word then count_of (drop (length word) text) else None

-- the index of the first comma, or the length
abbrev pub comma_in : List ℕ → ℕ
comma_in text = position_or_len (λ byte. byte == 44) text

-- the two numbers of the text catches=N,branches=M
abbrev pub limit_numbers : List ℕ → Option (ℕ × ℕ)
limit_numbers text =
    option_and_then (λ catches. option_and_then (λ branches. Some (catches, branches))
    (number_after (codes "branches=") (drop (comma_in text + 1) text)))
    (number_after (codes "catches=") (take (comma_in text) text))

-- the limits if both numbers are in range; else the fault that names the first that is not
abbrev pub in_range : Result Bounds LimitFault → Result Bounds LimitsFault
in_range (Ok limits) = Ok limits
in_range (Err limit.Catches) = Err fault.Catches
in_range (Err limit.Branches) = Err fault.Branches

-- the limits that a text gives, or what is wrong with the text
abbrev pub limits_in : List ℕ → Result Bounds LimitsFault
limits_in text = option_map_or (λ numbers. in_range (bounded numbers.0 numbers.1)) (limit_numbers text) (Err fault.Form)
