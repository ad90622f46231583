-- The results of moving catches inside a list.
use Rattle.std.specs.Prelude.{◌≡◌, ◌≢◌, ℕ, List, ◌∷◌, ◌++◌, length, All, fold}
use Rattle.camp_prim.specs.declared.labels.Key.{Key}
use Rattle.camp_ctx.specs.Contexts.{ContextedPatch, with_member}
use Rattle.camp_catch.specs.Arranging.{CatchMovesToFront}
use Rattle.camp_catch.specs.Catches.{catch_key}
use Rattle.camp_catch.specs.Commuting.{CommuteCatch}
use Rattle.camp_catch.specs.Conflictors.{with_conflicts}
use Rattle.camp_catch.specs.Merging.{MergeCatch}
use Rattle.camp_catch.specs.declared.catches.Catch.{Catch}
use Rattle.camp_catch.specs.declared.catches.Catch.TheVariants.{Plain}

-- j and then k commute in place: k' is written over j, and j' over k
abbrev pub CatchesCommuteInPlace : Catch × Catch → Catch × Catch → Type 0
CatchesCommuteInPlace old new = CommuteCatch old.0 old.1 new.1 new.0

-- j and k, which begin in the same state, merge in place: each result is written over the catch that it comes from
abbrev pub MergesInPlace : Catch × Catch → Catch × Catch → Type 0
MergesInPlace old new = MergeCatch old.0 old.1 new.1 new.0

-- j and k, which begin in the same state, merge; k becomes this after j
abbrev pub MergesInto : Catch → Catch → Catch → Type 0
MergesInto j k k' = (j' : Catch) × MergeCatch j k k' j'

-- the catch with further conflicts; a plain one is unchanged
abbrev pub with_gained : List ContextedPatch → Catch → Catch
with_gained gained (Plain a) = Plain a
with_gained gained (Catch.Conflictor k) = Catch.Conflictor (with_conflicts (fold with_member k.conflicts gained) k)

-- no catch has this absolute label
abbrev pub LacksKey : Key → List Catch → Type 0
LacksKey key list = All (λ j. catch_key j ≢ key) list

-- `at` is the index of the first catch with this absolute label
pub record FirstWithKey (key : Key) (list : List Catch) (at : ℕ) : Type 0 where
  pub before : List Catch
  pub first : Catch
  pub after : List Catch
  pub is : list ≡ before ++ first ∷ after
  pub stands : length before ≡ at
  pub labelled : catch_key first ≡ key
  pub lacks : LacksKey key before

-- the first catch with this absolute label is moved to the front
abbrev pub CatchMovesToFrontInPlace : Key → List Catch → List Catch → Type 0
CatchMovesToFrontInPlace key list t = (k' : Catch) × (others : List Catch) × CatchMovesToFront key list k' others × (t ≡ k' ∷ others)
