-- Calls and notes that a store can contain.
use Rattle.std.specs.Prelude.{◌≡◌, ℕ, List, [], map}
use Rattle.std.specs.List.{AllByRecursion}
use Rattle.camp_call.specs.declared.calls.Call.{Call}
use Rattle.camp_object.specs.Books.{Booked}
use Rattle.camp_object.specs.Histories.{IsBeginning, IsLegal}
use Rattle.camp_kept.specs.Titles.{CanBeLimits}
use Rattle.camp_notes.specs.declared.logs.PlacedNote.{PlacedNote}
use Rattle.camp_repo.specs.Limits.{Bounds}
use Rattle.camp_repo.specs.Objects.{repository_within}
use Rattle.camp_repo.specs.States.{Contents}
use Rattle.camp_script.specs.Canonical.{IsScriptCall}
use Rattle.camp_script.specs.Keeping.{calls_of}

-- calls, all at seat 0
abbrev pub alone : List Call → List (ℕ × Call)
alone calls = map (λ call. (0, call)) calls

-- the history of a repository: its initial state, and its accepted calls
abbrev pub History : Type 0
History = Booked Contents Call

-- the contents of a store: the limits of its repository, its accepted calls, and its notes, each with the number of
-- calls before it
pub record StoreContents : Type 0 where
  pub limits : Bounds
  pub calls : List Call
  pub notes : List PlacedNote

-- a store with these limits, without calls and notes
abbrev pub empty_within : Bounds → StoreContents
empty_within limits = record { limits = limits; calls = []; notes = [] }

-- the contents of a store for this history and these notes: the limits of the history, its accepted calls, and the notes
abbrev pub accepted_of : History → List PlacedNote → StoreContents
accepted_of history notes =
    record { limits = history.first.limits; calls = calls_of history.calls; notes = notes }

-- earlier contents: the same limits, and a prefix of the calls and of the notes
pub record IsPrefixOf (prefix whole : StoreContents) : Type 0 where
  pub limits : prefix.limits ≡ whole.limits
  pub calls : IsBeginning prefix.calls whole.calls
  pub notes : IsBeginning prefix.notes whole.notes

-- calls that a script can contain, each accepted after those before it, in a repository with these limits
pub record AreAccepted (stored : StoreContents) : Type 0 where
  pub range : CanBeLimits stored.limits
  pub can : AllByRecursion IsScriptCall stored.calls
  pub legal : IsLegal (repository_within stored.limits) (alone stored.calls)
