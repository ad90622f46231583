-- How the texts of a store grow.
use Rattle.std.proofs.Common.{◌≡◌, ◌⊎◌, inl, inr, ℕ, Bool, Result, Ok, Err, IfErr, IsErrAnd, List, [], ◌∷◌, ◌++◌, length, take, drop, refl, sym, ◌∙◌, ap, subst, ◌+◌, ◌-◌, ◌≤◌, ◌<◌, not, false, arith, length-drop, true≢false}
use Rattle.std.specs.List.{AllByRecursion}
use Rattle.std.proofs.lemmas.List.{drop-map, drop_at, length-map, take_all}
use Rattle.camp_call.specs.declared.calls.Call.{Call}
use Rattle.camp_kept.specs.Accepting.{AreAccepted, StoreContents}
use Rattle.camp_kept.specs.Faults.{RefusesToCommit, fault_of}
use Rattle.camp_kept.specs.Entries.{AreStoredEntries, AreInPlace}
use Rattle.camp_kept.specs.Persisting.{AreFirstCalls, AreStoreTexts, AreWaitingTexts, DecodesToCalls, HasFewerCalls, HasMisplacedNotes, IsStoreOf, PersistsCalls, accepted_by, disk_in, durable_count_in, waiting_calls, waiting_notes}
use Rattle.camp_kept.proofs.EntryLemmas.{entries_append, no_texts}
use Rattle.camp_notes.specs.declared.logs.PlacedNote.{PlacedNote}
use Rattle.camp_kept.specs.Titles.{title_of}
use Rattle.camp_kept.specs.declared.faults.PersistenceFault.{PersistenceFault}
use Rattle.camp_kept.specs.declared.repositories.DurableRepository.{DurableRepository}
use Rattle.camp_kept.proofs.Listing.{accepted_more, legal_alone}
use Rattle.camp_object.specs.Histories.{IsBeginning, IsLegal}
use Rattle.camp_object.specs.Objects.{IsFirst, begun}
use Rattle.camp_repo.specs.Limits.{Bounds}
use Rattle.camp_repo.specs.Objects.{repository as repository_object}
use Rattle.camp_script.specs.Keeping.{CanBeInScript, calls_of}
use Rattle.camp_store.specs.Blocks.{DecodesTo}
use Rattle.camp_store.specs.Logs.{IsAppendFault, IsAppendable, IsBeforeOrAfter, may_append}
use Rattle.camp_store.specs.declared.logs.Log.{Log}
use Rattle.camp_store.specs.declared.faults.StoreFault.{StoreFault}
use Rattle.camp_store.specs.declared.faults.StoreFault.TheVariants as store
use Rattle.camp_store.proofs.BlockLemmas.{log_decodes}

-- the elements after the first ones
pub rest_is : {X : Type 0} (some all : List X) (front : IsBeginning some all) → drop (length some) all ≡ front.rest
rest_is {X} some all front = ap (λ (l : List X). drop (length some) l) (sym front.makes) ∙ drop_at some front.rest (length some) refl

some_texts : (stored : StoreContents) (texts : List (List ℕ)) → AreStoreTexts stored texts → texts ≡ [] → ⊥
some_texts stored texts are none = no_texts (title_of stored.limits) are.others (sym are.title ∙ none)

-- a file with the texts of a store decodes to its contents
pub store_decodes : (new : Bounds) (stored : StoreContents) (texts : List (List ℕ)) (file : List ℕ) → AreStoreTexts stored texts → DecodesTo texts file → DecodesToCalls new stored file
store_decodes new stored texts file are decodes = record { texts = texts; are = inl are; decodes = decodes; short = λ none. absurd (some_texts stored texts are none) }

-- the files that a crash may leave of a store that grows
pub is_either : (stored all : StoreContents) (texts new : List (List ℕ)) → AreAccepted stored → AreAccepted all → AreStoreTexts stored texts → AreStoreTexts all (texts ++ new)
    → (c : List ℕ) → IsBeforeOrAfter texts new c → IsStoreOf stored c ⊎ IsStoreOf all c
is_either stored all texts new one more are grown c (inl before) = inl (record { texts = texts; are = are; decodes = before; accepted = one })
is_either stored all texts new one more are grown c (inr after) = inr (record { texts = texts ++ new; are = grown; decodes = after; accepted = more })

-- a history has as many calls
pub counted : (history : List (ℕ × Call)) → length history ≡ length (calls_of history)
counted history = sym (length-map history (λ e. e.1))

-- the slice of a history after its first k entries has the calls after the first k
pub slice_calls : (history : List (ℕ × Call)) (k : ℕ) → calls_of (take (length history - k) (drop k history)) ≡ drop k (calls_of history)
slice_calls history k =
    ap (λ (l : List (ℕ × Call)). calls_of l) (take_all (length history - k) (drop k history) (omega (arith, length-drop k history)))
    ∙ sym (drop-map (λ (e : ℕ × Call). e.1) k history)

-- the slice of notes after the first k
pub slice_notes : (notes : List PlacedNote) (k : ℕ) → take (length notes - k) (drop k notes) ≡ drop k notes
slice_notes notes k = take_all (length notes - k) (drop k notes) (omega (arith, length-drop k notes))

-- what is rendered for a commit is what is not known to be durable
pub entries_wait : {D : Type 0} (repository : DurableRepository D) (read : List (ℕ × Call)) (given : List PlacedNote) → read ≡ repository.book.calls → given ≡ repository.notes → (new : List (List ℕ))
    → AreStoredEntries repository.durable_count (calls_of (take (length read - repository.durable_count) (drop repository.durable_count read))) (take (length given - repository.durable_notes) (drop repository.durable_notes given)) new
    → AreWaitingTexts repository new
entries_wait repository read given value all new are =
    let k = repository.durable_count in
    let m = repository.durable_notes in
    let calls = slice_calls read k ∙ ap (λ (l : List (ℕ × Call)). drop k (calls_of l)) value in
    let notes = slice_notes given m ∙ ap (λ (l : List PlacedNote). drop m l) all in
    subst (λ (l : List PlacedNote). AreStoredEntries k (waiting_calls repository) l new) notes
    (subst (λ (l : List Call). AreStoredEntries k l (take (length given - m) (drop m given)) new) calls are)

pub calls_wait : {D : Type 0} (repository : DurableRepository D) (read : List (ℕ × Call)) → read ≡ repository.book.calls
    → AllByRecursion CanBeInScript (calls_of (take (length read - repository.durable_count) (drop repository.durable_count read))) → AllByRecursion CanBeInScript (waiting_calls repository)
calls_wait repository read value stand =
    let k = repository.durable_count in
    subst (λ (l : List Call). AllByRecursion CanBeInScript l) (slice_calls read k ∙ ap (λ (l : List (ℕ × Call)). drop k (calls_of l)) value) stand

-- the notes of a commit are in place just if those that are not known to be durable are
pub in_place_wait : {D : Type 0} (repository : DurableRepository D) (read : List (ℕ × Call)) (given : List PlacedNote) → read ≡ repository.book.calls → given ≡ repository.notes
    → AreInPlace repository.durable_count (length read) (take (length given - repository.durable_notes) (drop repository.durable_notes given))
    → AreInPlace (durable_count_in repository) (length (accepted_by repository).calls) (waiting_notes repository)
in_place_wait repository read given value all are =
    let m = repository.durable_notes in
    subst (λ (l : List PlacedNote). AreInPlace repository.durable_count (length (accepted_by repository).calls) l) (slice_notes given m ∙ ap (λ (l : List PlacedNote). drop m l) all)
    (subst (λ (n : ℕ). AreInPlace repository.durable_count n (take (length given - m) (drop m given))) (ap (λ (l : List (ℕ × Call)). length l) value ∙ counted repository.book.calls) are)

pub misplaced_wait : {D : Type 0} (repository : DurableRepository D) (read : List (ℕ × Call)) (given : List PlacedNote) → read ≡ repository.book.calls → given ≡ repository.notes
    → ¬ (AreInPlace repository.durable_count (length read) (take (length given - repository.durable_notes) (drop repository.durable_notes given))) → HasMisplacedNotes repository
misplaced_wait repository read given value all none are =
    let m = repository.durable_notes in
    none (subst (λ (l : List PlacedNote). AreInPlace repository.durable_count (length read) l) (sym (slice_notes given m ∙ ap (λ (l : List PlacedNote). drop m l) all))
    (subst (λ (n : ℕ). AreInPlace repository.durable_count n (waiting_notes repository)) (sym (ap (λ (l : List (ℕ × Call)). length l) value ∙ counted repository.book.calls)) are))

pub not_misplaced : {D : Type 0} (repository : DurableRepository D) (read : List (ℕ × Call)) (given : List PlacedNote) → read ≡ repository.book.calls → given ≡ repository.notes
    → AreInPlace repository.durable_count (length read) (take (length given - repository.durable_notes) (drop repository.durable_notes given)) → HasMisplacedNotes repository → ⊥
not_misplaced repository read given value all are misplaced = misplaced (in_place_wait repository read given value all are)

-- fewer calls or notes than are known to be durable
pub fewer_calls : {D : Type 0} (repository : DurableRepository D) (read : List (ℕ × Call)) → read ≡ repository.book.calls → length read < repository.durable_count → HasFewerCalls repository
fewer_calls repository read value few = inl (omega (arith, few, ap (λ (l : List (ℕ × Call)). length l) value ∙ counted repository.book.calls))

pub fewer_notes : {D : Type 0} (repository : DurableRepository D) (given : List PlacedNote) → given ≡ repository.notes → length given < repository.durable_notes → HasFewerCalls repository
fewer_notes repository given all few = inr (omega (arith, few, ap (λ (l : List PlacedNote). length l) all))

pub not_fewer : {D : Type 0} (repository : DurableRepository D) (read : List (ℕ × Call)) (given : List PlacedNote) → read ≡ repository.book.calls → given ≡ repository.notes
    → repository.durable_count ≤ length read → repository.durable_notes ≤ length given → HasFewerCalls repository → ⊥
not_fewer repository read given value all calls notes (inl few) = absurd (omega (arith, calls, few, ap (λ (l : List (ℕ × Call)). length l) value ∙ counted repository.book.calls))
not_fewer repository read given value all calls notes (inr few) = absurd (omega (arith, notes, few, ap (λ (l : List PlacedNote). length l) all))

-- the texts of a commit, appended to those of the persisted calls and notes, are those of all calls and notes
pub committed : {D : Type 0} (stored : StoreContents) (repository : DurableRepository D) → IsFirst repository_object repository.book.first → IsLegal (begun repository_object repository.book.first) repository.book.calls
    → repository.durable_count ≡ length stored.calls → repository.durable_notes ≡ length stored.notes → AreAccepted stored → AreFirstCalls stored repository → (texts : List (List ℕ)) → AreStoreTexts stored texts
    → (new : List (List ℕ)) → AreWaitingTexts repository new → AllByRecursion CanBeInScript (waiting_calls repository)
    → AreAccepted (accepted_by repository) × AreStoreTexts (accepted_by repository) (texts ++ new)
committed stored repository first legal count_is notes_is accepted front texts are new wait stand =
    let all = accepted_by repository in
    let k = repository.durable_count in
    let m = repository.durable_notes in
    let calls : waiting_calls repository ≡ front.calls.rest = ap (λ (n : ℕ). drop n all.calls) count_is ∙ rest_is stored.calls all.calls front.calls in
    let notes : waiting_notes repository ≡ front.notes.rest = ap (λ (n : ℕ). drop n all.notes) notes_is ∙ rest_is stored.notes all.notes front.notes in
    let at : k ≡ 0 + length stored.calls = count_is ∙ omega arith in
    let rest : AreStoredEntries (0 + length stored.calls) front.calls.rest front.notes.rest new =
    subst (λ (n : ℕ). AreStoredEntries n front.calls.rest front.notes.rest new) at
    (subst (λ (l : List PlacedNote). AreStoredEntries k front.calls.rest l new) notes
    (subst (λ (l : List Call). AreStoredEntries k l (waiting_notes repository) new) calls wait)) in
    let both : AreStoredEntries 0 (stored.calls ++ front.calls.rest) (stored.notes ++ front.notes.rest) (are.others ++ new) =
    entries_append 0 stored.calls front.calls.rest stored.notes front.notes.rest are.others new are.entries rest in (
      accepted_more stored all front accepted.range accepted.can (subst (λ (l : List Call). AllByRecursion CanBeInScript l) calls stand) (legal_alone repository.book first legal),
      record {
        others = are.others ++ new;
        title = ap (λ (l : List (List ℕ)). l ++ new) are.title ∙ ap (λ (limits : Bounds). title_of limits ∷ (are.others ++ new)) front.limits;
        entries = subst (λ (l : List PlacedNote). AreStoredEntries 0 all.calls l (are.others ++ new)) front.notes.makes
            (subst (λ (l : List Call). AreStoredEntries 0 l (stored.notes ++ front.notes.rest) (are.others ++ new)) front.calls.makes both);
      },
    )

-- whatever a crash leaves of persisted calls and notes is a store of them
pub crash_leaves_store : {D : Type 0} (seen : D → List ℕ) (may_leave : D → List ℕ → Type 0) (stored : StoreContents) (repository : DurableRepository D) → PersistsCalls seen may_leave stored repository
    → (c : List ℕ) → may_leave (disk_in repository) c → IsStoreOf stored c
crash_leaves_store seen may_leave stored repository persists c now = record {
  texts = persists.texts.texts;
  are = persists.texts.are;
  decodes = log_decodes seen may_leave persists.texts.texts (disk_in repository) repository.log.length repository.log.digest persists.texts.persists c now;
  accepted = persists.accepted;
}

append_refuses : {D : Type 0} (is_usable : D → Bool) (repository : DurableRepository D) (why : StoreFault) (new : List (List ℕ)) → AreWaitingTexts repository new
    → IsAppendFault is_usable repository.log new why → RefusesToCommit is_usable repository (fault_of why)
append_refuses is_usable repository store.Memory new wait refused = tt
append_refuses is_usable repository (store.Disk error) new wait refused = tt
append_refuses is_usable repository store.TooLong new wait refused = record { texts = new; are = wait; long = refused }
append_refuses is_usable repository (store.Damaged count at) new wait refused = absurd refused
append_refuses is_usable repository store.Failed new wait refused = inr (inr refused)

-- nothing can be appended after a failure
pub stopped_log : {D : Type 0} (is_usable : D → Bool) (log : Log D) → may_append log ≡ false → ¬ (IsAppendable is_usable log)
stopped_log is_usable log stopped able = true≢false (sym (ap not able.0) ∙ stopped)

-- a batch that is not appended is a commit that is refused
pub commit_refused : {D T : Type 0} (is_usable : D → Bool) (repository : DurableRepository D) (result : Result T PersistenceFault) (why : StoreFault) (new : List (List ℕ))
    → IsErrAnd result (λ fault. fault ≡ fault_of why) → AreWaitingTexts repository new → IsAppendFault is_usable repository.log new why
    → IfErr result (RefusesToCommit is_usable repository)
commit_refused is_usable repository (Ok value) why new is wait refused = tt
commit_refused is_usable repository (Err fault) why new is wait refused =
    subst (λ (f : PersistenceFault). RefusesToCommit is_usable repository f) (sym is) (append_refuses is_usable repository why new wait refused)
