-- Replaying calls and notes from their texts.
use Rattle.std.specs.Prelude.{◌≡◌, ℕ, Bool, true, false, List, [], ◌∷◌, ◌++◌, Option, IfSome, length, option_to_list}
use Rattle.std.specs.List.{AllByRecursion}
use Rattle.camp_call.specs.declared.calls.Call.{Call}
use Rattle.camp_kept.specs.Accepting.{History, accepted_of, alone}
use Rattle.camp_kept.specs.Entries.{AreStoredEntries, IsStoredEntry, StoredEntry, placed_at, text_of_stored}
use Rattle.camp_kept.specs.Persisting.{AreTexts}
use Rattle.camp_kept.specs.Titles.{AreAsWanted, CanBeLimits, new_limits}
use Rattle.camp_object.specs.Histories.{IsAccepted}
use Rattle.camp_object.specs.Objects.{begun}
use Rattle.camp_repo.specs.Limits.{Bounds}
use Rattle.camp_notes.specs.declared.logs.PlacedNote.{PlacedNote}
use Rattle.camp_repo.specs.Objects.{repository, repository_within}
use Rattle.camp_repo.specs.States.{new_within}
use Rattle.camp_script.specs.Canonical.{IsScriptCall}
use Rattle.camp_script.specs.Keeping.{calls_of}

-- a history with more calls at seat 0
abbrev pub then_calls : History → List Call → History
then_calls before calls = record { first = before.first; calls = before.calls ++ alone calls }

-- a history with one more call at seat 0
abbrev pub then_call : History → Call → History
then_call before call = then_calls before (call ∷ [])

-- a call is accepted after this history
abbrev pub CanBeNext : History → Call → Type 0
CanBeNext before call = IsAccepted (begun repository before.first) before.calls call

-- the call is executed after the history: true if it is accepted, which adds it at seat 0
abbrev pub ExecutesCall : History → Call → Bool → History → Type 0
ExecutesCall before call true after = after ≡ then_call before call
ExecutesCall before call false after = ¬ (CanBeNext before call)

-- an entry can come after these calls of a repository with these limits: its call, if it has one, can be in a script and
-- is accepted after them
pub record CanBeNextEntry (limits : Bounds) (calls : List Call) (entry : StoredEntry) : Type 0 where
  pub can : IsStoredEntry entry
  pub call : IfSome entry.call (λ call. IsScriptCall call × IsAccepted (repository_within limits) (alone calls) call)

-- the entry with this text is added after the history and the notes: its notes, and its call, which is accepted, at
-- seat 0
pub record AddsText (before : History) (given : List PlacedNote) (text : List ℕ) (after : History) (now : List PlacedNote) : Type 0 where
  pub entry : StoredEntry
  pub can : IsStoredEntry entry
  pub call : AllByRecursion IsScriptCall (option_to_list entry.call)
  pub text_is : text_of_stored entry ≡ text
  pub grows : after ≡ then_calls before (option_to_list entry.call)
  pub notes_are : now ≡ given ++ placed_at (length before.calls) entry.notes

-- no entry with this text can come after the history: its call is none that a script can contain and is accepted
abbrev pub RefusesText : History → List ℕ → Type 0
RefusesText before text =
    (entry : StoredEntry) → IsStoredEntry entry → text_of_stored entry ≡ text
    → ¬ (IfSome entry.call (λ call. IsScriptCall call × CanBeNext before call))

-- the entry with this text is replayed after the history and the notes: true if it can come after them
abbrev pub ReplaysText : History → List PlacedNote → List ℕ → Bool → History → List PlacedNote → Type 0
ReplaysText before given text true after now = AddsText before given text after now
ReplaysText before given text false after now = RefusesText before text

-- the history of a repository with these limits that has accepted these calls, all at seat 0
abbrev pub new_with : Bounds → List Call → History
new_with limits calls = record { first = new_within limits; calls = alone calls }

-- the history is that of a new repository with these limits after the calls of the entries with these texts, which
-- scripts can contain, and the notes are those of the entries
pub record AreReplayed (limits : Bounds) (texts : List (List ℕ)) (history : History) (notes : List PlacedNote) : Type 0 where
  pub calls : List Call
  pub is : history ≡ new_with limits calls
  pub can : AllByRecursion IsScriptCall calls
  pub entries : AreStoredEntries 0 calls notes texts

-- the texts are those of a store with the limits and the calls of this history, and these notes; the limits are the
-- wanted ones, and scripts can contain the calls
pub record AreRecovered (wanted : Option Bounds) (texts : List (List ℕ)) (history : History) (notes : List PlacedNote) : Type 0 where
  pub range : CanBeLimits history.first.limits
  pub as_wanted : AreAsWanted wanted history.first.limits
  pub are : AreTexts (new_limits wanted) texts (accepted_of history notes)
  pub can : AllByRecursion IsScriptCall (calls_of history.calls)
