-- The limits of a repository.
use Rattle.std.specs.Prelude.{ℕ, ◌<◌, ◌≤◌, ◌&&◌, nat_le, if◌then◌else◌, Result, Ok, Err}
use Rattle.camp_repo.specs.declared.faults.LimitFault.{LimitFault}
use Rattle.camp_repo.specs.declared.faults.LimitFault.TheVariants.{Branches, Catches}

-- the limits of a repository: the most catches of a branch, and the most branches
pub record Bounds : Type 0 where
  pub catches : ℕ
  pub branches : ℕ

-- the default limits
abbrev pub default_bounds : Bounds
default_bounds = record { catches = 4_096; branches = 256 }

-- numbers that can be the limits of a repository
pub record AreLimits (catches branches : ℕ) : Type 0 where
  pub some_catches : 0 < catches
  pub few_catches : catches ≤ 16_777_216
  pub some_branches : 0 < branches
  pub few_branches : branches ≤ 65_536

-- the limits with these numbers, or which of the two numbers is out of range first
abbrev pub bounded : ℕ → ℕ → Result Bounds LimitFault
bounded catches branches =
    if nat_le 1 catches && nat_le catches 16_777_216
    then (if nat_le 1 branches && nat_le branches 65_536 then Ok (record { catches = catches; branches = branches })
    else Err Branches)
    else Err Catches
