-- A store of calls is opened with just these.
use Rattle.std.proofs.Common.{◌≡◌, inl, inr, ℕ, Bool, List, ◌∷◌, Option, ap, sym, subst, arith, ◌∙◌}
use Rattle.std.specs.List.{AllByRecursion}
use Rattle.camp_call.specs.declared.calls.Call.{Call}
use Rattle.camp_kept.specs.Accepting.{AreAccepted, StoreContents}
use Rattle.camp_kept.specs.TornTails.{HasTornTail}
use Rattle.camp_kept.specs.Faults.{HasOtherLimits, IsNoStore, IsOpeningFault, RefusesToOpen}
use Rattle.camp_kept.specs.Entries.{StoredEntry, calls_of_entries, entry_texts, notes_in_from}
use Rattle.camp_kept.specs.Persisting.{AreStoreTexts, AreTexts, DecodesToCalls}
use Rattle.camp_kept.specs.Titles.{AreAsWanted, new_limits, title_of}
use Rattle.camp_kept.specs.Laws.{StoresAreOpened}
use Rattle.camp_kept.specs.declared.faults.PersistenceFault.{PersistenceFault}
use Rattle.camp_kept.specs.declared.faults.PersistenceFault.TheVariants as persistence
use Rattle.camp_kept.proofs.Committing.{store_decodes}
use Rattle.camp_kept.proofs.EntryLemmas.{first_text, no_texts, other_texts, same_entries, texts_without_notes}
use Rattle.camp_kept.proofs.ReplayLemmas.{decoded_texts}
use Rattle.camp_kept.proofs.Refusing.{begins_with}
use Rattle.camp_kept.proofs.TitleLemmas.{one_title}
use Rattle.camp_repo.specs.Limits.{Bounds}
use Rattle.camp_script.specs.Canonical.{IsScriptCall}
use Rattle.camp_store.specs.Blocks.{DecodesTo}
use Rattle.camp_store.specs.declared.faults.StoreFault.TheVariants as store
use Rattle.camp_store.proofs.BlockLemmas.{decodes_once}

left_stands : (texts : List (List ℕ)) (file : List ℕ) (count : ℕ) → HasTornTail texts file count → DecodesTo texts file
left_stands texts file count leaves = record { front = leaves.front; end = leaves.end; split = leaves.split; are = leaves.are; ends = leaves.ends }

same_stored : (one other : StoreContents) → one.limits ≡ other.limits → one.calls ≡ other.calls → one.notes ≡ other.notes → one ≡ other
same_stored one other limits calls notes = λ k. record { limits = limits k; calls = calls k; notes = notes k }

-- a store is determined by its texts
same_contents : (one two : StoreContents) (texts : List (List ℕ)) → AreAccepted one → AreAccepted two → AreStoreTexts one texts → AreStoreTexts two texts → one ≡ two
same_contents one two texts accepted more is are =
    let mine = is.entries in
    let its = are.entries in
    let limits : one.limits ≡ two.limits = one_title one.limits two.limits accepted.range more.range (ap first_text (sym is.title ∙ are.title)) in
    let texts_are : entry_texts mine.entries ≡ entry_texts its.entries = sym mine.texts_are ∙ ap other_texts (sym is.title ∙ are.title) ∙ its.texts_are in
    let same : mine.entries ≡ its.entries =
    same_entries mine.entries its.entries mine.can its.can (subst (λ (l : List Call). AllByRecursion IsScriptCall l) mine.calls_are accepted.can) (subst (λ (l : List Call). AllByRecursion IsScriptCall l) its.calls_are more.can) texts_are in
    same_stored one two limits (mine.calls_are ∙ ap calls_of_entries same ∙ sym its.calls_are) (mine.notes_are ∙ ap (λ (l : List StoredEntry). notes_in_from 0 l) same ∙ sym its.notes_are)

just_these : (new : Bounds) (stored found : StoreContents) (texts : List (List ℕ)) → AreAccepted stored → AreAccepted found → AreTexts new texts stored → AreTexts new texts found → found ≡ stored
just_these new stored found texts accepted more (inl is) (inl are) = same_contents found stored texts more accepted are is
just_these new stored found texts accepted more (inl is) (inr none) = absurd (no_texts (title_of stored.limits) is.others (sym is.title ∙ none.0))
just_these new stored found texts accepted more (inr none) (inl are) = absurd (no_texts (title_of found.limits) are.others (sym are.title ∙ none.0))
just_these new stored found texts accepted more (inr none) (inr nor) = nor.1 ∙ sym none.1

-- a file that decodes to calls is a store, or one being created
is_some_store : (new : Bounds) (calls : StoreContents) (file : List ℕ) → AreAccepted calls → (decoded : DecodesToCalls new calls file) → AreTexts new decoded.texts calls → IsNoStore file → ⊥
is_some_store new calls file accepted decoded (inl are) none =
    let first = begins_with (title_of calls.limits) are.others file (subst (λ (ts : List (List ℕ)). DecodesTo ts file) are.title decoded.decodes) in
    none.untitled calls.limits accepted.range first.0 first.1
is_some_store new calls file accepted decoded (inr no_calls) none =
    absurd (omega (arith, decoded.short no_calls.0, none.long (subst (λ (ts : List (List ℕ)). DecodesTo ts file) no_calls.0 decoded.decodes)))

-- a store has the limits of its title, and these are not the wanted ones
other_limits : (new : Bounds) (wanted : Option Bounds) (calls : StoreContents) (limits : Bounds) (file : List ℕ) → AreAccepted calls → DecodesToCalls new calls file → HasOtherLimits wanted limits file
    → (calls.limits ≡ limits) × (AreAsWanted wanted calls.limits → ⊥)
other_limits new wanted calls limits file accepted decoded has =
    let title = (decoded_texts new (title_of limits) has.texts calls file has.decodes decoded).0 in
    let same : calls.limits ≡ limits = one_title calls.limits limits accepted.range has.range title in
    (same, λ are. has.unwanted (subst (AreAsWanted wanted) same are))

-- why a store of accepted calls is not opened
pub by_fault : (wanted : Option Bounds) (calls : StoreContents) (file : List ℕ) → AreAccepted calls → DecodesToCalls (new_limits wanted) calls file → (usable : Bool) (why : PersistenceFault) → RefusesToOpen usable wanted why file
    → IsOpeningFault usable wanted calls.limits why
by_fault wanted calls file accepted decoded usable persistence.Memory refused = tt
by_fault wanted calls file accepted decoded usable persistence.NoStore refused = absurd (is_some_store (new_limits wanted) calls file accepted decoded decoded.are refused)
by_fault wanted calls file accepted decoded usable (persistence.Damaged call at) refused = absurd (refused.1 (new_limits wanted) calls accepted decoded)
by_fault wanted calls file accepted decoded usable (persistence.OtherLimits catches branches) refused =
    other_limits (new_limits wanted) wanted calls (record { catches = catches; branches = branches }) file accepted decoded refused
by_fault wanted calls file accepted decoded usable (persistence.Store (store.Disk error)) refused = tt
by_fault wanted calls file accepted decoded usable (persistence.Store store.Failed) refused = refused
by_fault wanted calls file accepted decoded usable (persistence.Store store.Memory) refused = absurd refused
by_fault wanted calls file accepted decoded usable (persistence.Store store.TooLong) refused = absurd refused
by_fault wanted calls file accepted decoded usable (persistence.Store (store.Damaged count at)) refused = absurd refused

pub stores_open : StoresAreOpened
stores_open = record {
  decodes = λ new stored file is. store_decodes new stored is.texts file is.are is.decodes;
  without_notes = λ stored texts none are.
      are.title ∙ ap (λ (l : List (List ℕ)). title_of stored.limits ∷ l) (texts_without_notes 0 stored.calls stored.notes are.others are.entries none);
  opened = λ wanted calls file accepted decoded. record {
    just = λ texts found count are more leaves.
        just_these (new_limits wanted) calls found texts accepted more (subst (λ (ts : List (List ℕ)). AreTexts (new_limits wanted) ts calls) (decodes_once decoded.texts texts file decoded.decodes (left_stands texts file count leaves)) decoded.are) are;
    refused = by_fault wanted calls file accepted decoded;
  };
}
