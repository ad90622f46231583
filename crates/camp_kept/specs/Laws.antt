-- What opening finds in a file that a crash has left.
use Rattle.std.specs.Prelude.{◌≡◌, ℕ, Bool, List, [], ◌∷◌, Option}
use Rattle.camp_kept.specs.Accepting.{AreAccepted, StoreContents}
use Rattle.camp_kept.specs.TornTails.{HasTornTail}
use Rattle.camp_kept.specs.Entries.{call_texts}
use Rattle.camp_kept.specs.Faults.{IsOpeningFault, RefusesToOpen}
use Rattle.camp_kept.specs.Persisting.{AreStoreTexts, AreTexts, DecodesToCalls, IsStoreOf}
use Rattle.camp_kept.specs.Titles.{new_limits, title_of}
use Rattle.camp_kept.specs.declared.faults.PersistenceFault.{PersistenceFault}
use Rattle.camp_repo.specs.Limits.{Bounds}

-- the limits, the calls and the notes found by opening the file are exactly these; opening fails only because of memory, the disk,
-- or other wanted limits
pub record OpensAs (wanted : Option Bounds) (stored : StoreContents) (file : List ℕ) : Type 0 where
  pub just : (texts : List (List ℕ)) (found : StoreContents) (count : ℕ) → AreTexts (new_limits wanted) texts found → AreAccepted found → HasTornTail texts file count → found ≡ stored
  pub refused : (usable : Bool) (why : PersistenceFault) → RefusesToOpen usable wanted why file → IsOpeningFault usable wanted stored.limits why

-- a store of calls and notes decodes to these; without notes its texts are its title and those of the calls; and a file
-- that decodes to calls which are accepted one after the other is opened with exactly these, and its notes: a store, or
-- one that is being created
pub record StoresAreOpened : Type 0 where
  pub decodes : (new : Bounds) (stored : StoreContents) (file : List ℕ) → IsStoreOf stored file → DecodesToCalls new stored file
  pub without_notes : (stored : StoreContents) (texts : List (List ℕ)) → stored.notes ≡ [] → AreStoreTexts stored texts → texts ≡ title_of stored.limits ∷ call_texts stored.calls
  pub opened : (wanted : Option Bounds) (stored : StoreContents) (file : List ℕ) → AreAccepted stored → DecodesToCalls (new_limits wanted) stored file → OpensAs wanted stored file
