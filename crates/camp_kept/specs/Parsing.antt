-- What the text of an entry is parsed as.
use Rattle.std.specs.Prelude.{◌≡◌, ℕ, List, IfSome}
use Rattle.camp_kept.specs.Entries.{IsStoredEntry, StoredEntry, text_of_stored}
use Rattle.camp_script.specs.Canonical.{IsScriptCall}

-- an entry that a store can contain has this text, and a script can contain its call
pub record IsStoredEntryOf (text : List ℕ) (entry : StoredEntry) : Type 0 where
  pub can : IsStoredEntry entry
  pub call : IfSome entry.call IsScriptCall
  pub text_is : text_of_stored entry ≡ text

-- no entry has this text
abbrev pub IsNoStoredEntry : List ℕ → Type 0
IsNoStoredEntry text = (entry : StoredEntry) → ¬ (IsStoredEntryOf text entry)
