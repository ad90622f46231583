-- A file that is refused is not written to: its texts recover no repository.
use Rattle.std.proofs.Common.{◌≡◌, ◌≤◌, ℕ, false, List, [], Option, length, ap, arith, length-append}
use Rattle.camp_kept.specs.Accepting.{History, accepted_of}
use Rattle.camp_kept.specs.Faults.{IsContentFault, IsOpeningFault, IsRefusedFile}
use Rattle.camp_kept.specs.Persisting.{max_untitled_len}
use Rattle.camp_kept.specs.Replaying.{AreRecovered}
use Rattle.camp_kept.specs.Titles.{AreAsWanted}
use Rattle.camp_kept.specs.declared.faults.PersistenceFault.{PersistenceFault}
use Rattle.camp_kept.specs.declared.faults.PersistenceFault.TheVariants as persistence
use Rattle.camp_kept.proofs.Listing.{legal_alone}
use Rattle.camp_kept.proofs.Opening.{no_bytes}
use Rattle.camp_kept.proofs.Refusing.{refusal_unopened}
use Rattle.camp_kept.proofs.Reopening.{by_fault}
use Rattle.camp_notes.specs.declared.logs.PlacedNote.{PlacedNote}
use Rattle.camp_object.specs.Histories.{IsLegal}
use Rattle.camp_object.specs.Objects.{IsFirst, begun}
use Rattle.camp_repo.specs.Limits.{Bounds}
use Rattle.camp_repo.specs.Objects.{repository}
use Rattle.camp_store.specs.Logs.{texts_of}
use Rattle.camp_store.specs.Readings.{IsDecodedFrom}
use Rattle.camp_store.specs.declared.readings.Reading.{Reading}
use Rattle.camp_store.proofs.BlockLemmas.{reading_decodes}

-- a file without texts is as long as its tail
short_file : (file : List ℕ) (reading : Reading) → IsDecodedFrom file reading → (texts_of reading.texts.items ≡ [] → reading.tail_len ≤ max_untitled_len) → texts_of reading.texts.items ≡ [] → length file ≤ max_untitled_len
short_file file reading is short none =
    omega (arith, short none, no_bytes file reading is none, is.length_is, is.tail_len_is, ap (λ (l : List ℕ). length l) is.split, length-append is.front is.end)

-- no fault of its contents keeps a store with the wanted limits from being opened
not_of_contents : (wanted : Option Bounds) (limits : Bounds) (why : PersistenceFault) → AreAsWanted wanted limits → IsContentFault why → IsOpeningFault false wanted limits why → ⊥
not_of_contents wanted limits persistence.Memory are of prevents = of
not_of_contents wanted limits persistence.NoStore are of prevents = prevents
not_of_contents wanted limits (persistence.Damaged call at) are of prevents = prevents
not_of_contents wanted limits (persistence.OtherLimits catches branches) are of prevents = prevents.1 are
not_of_contents wanted limits (persistence.Store fault) are of prevents = of

-- a file from whose texts a repository was recovered is not refused
pub recovered_unrefused : (wanted : Option Bounds) (file : List ℕ) (reading : Reading) (history : History) (notes : List PlacedNote) → IsDecodedFrom file reading → (texts_of reading.texts.items ≡ [] → reading.tail_len ≤ max_untitled_len)
    → AreRecovered wanted (texts_of reading.texts.items) history notes → IsFirst repository history.first → IsLegal (begun repository history.first) history.calls → IsRefusedFile wanted file → ⊥
recovered_unrefused wanted file reading history notes is short recovered first legal refused =
    not_of_contents wanted history.first.limits refused.why recovered.as_wanted refused.of_contents
    (by_fault wanted (accepted_of history notes) file (record { range = recovered.range; can = recovered.can; legal = legal_alone history first legal })
    (record { texts = texts_of reading.texts.items; are = recovered.are; decodes = reading_decodes file reading is; short = short_file file reading is short })
    false refused.why (refusal_unopened false wanted refused.why file refused.refuses))
