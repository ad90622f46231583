-- The representation of a state in its fields.
use Rattle.std.specs.Prelude.{◌≡◌, length, zip}
use Rattle.camp_repo.specs.Beginnings.{AllHold}
use Rattle.camp_repo.specs.Lawful.{IsLawfulState}
use Rattle.camp_repo.specs.States.{Contents}
use Rattle.camp_repo.specs.declared.states.State.TheInside.{Inside}

-- names and branches, paired by index, in order of creation
abbrev pub contents_of : Inside → Contents
contents_of state = record { branches = zip state.names.keys state.branches; count = state.count; limits = state.limits }

-- the invariant of a state: it has as many names as branches, is lawful, and what it stores about common prefixes is
-- right
pub record IsState (state : Inside) : Type 0 where
  pub as_many : length state.names.keys ≡ length state.branches
  pub lawful : IsLawfulState (contents_of state)
  pub known : AllHold (contents_of state).branches state.known
