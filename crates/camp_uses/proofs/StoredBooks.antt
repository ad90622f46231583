-- A book that is stored as a text and read again.
use Rattle.camp_uses.proofs.Words.{◌≡◌, ◌≤◌, ℕ, List, [], ◌∷◌, length, Result, Ok, sym, ◌∙◌, ap, subst, AllByRecursion, IsLegal, replay, Fault, Call, Reply, OneByOne, repository, KeptLeadsBack, moved_to_seat_0, history_from, CanBeInScript, calls_of, kept_text, script_of}
use Rattle.camp_object.proofs.Replays.{state_of_legal}
use Rattle.camp_object.proofs.SameBooks.{same_book}
use Rattle.camp_object.specs.Books.{Booked, replay_book}
use Rattle.camp_object.specs.Objects.{IsFirst, begun}
use Rattle.camp_repo.specs.Limits.{Bounds}
use Rattle.camp_repo.specs.Objects.{repository_within}
use Rattle.camp_repo.specs.States.{Contents, new_within}
use Rattle.camp_run.specs.Laws.{OneByOneIsSerial}
use Rattle.camp_uses.proofs.ReadBack.{same_script}
use Rattle.camp_uses.specs.StoredBooks.{book_at_seat_0}

-- the new history has the calls of the stored one, in order, and its state
calls_preserved : KeptLeadsBack → OneByOneIsSerial → (limits : Bounds) (kept : List (ℕ × Call)) (text : List ℕ) (script sections : List (List Call)) (answers : List (List (Result Reply Fault))) (again : List (ℕ × Call))
    → IsLegal (repository_within limits) kept → AllByRecursion CanBeInScript (calls_of kept) → length kept ≤ 65_536 → text ≡ kept_text kept → script_of text ≡ Ok script → sections ≡ script
    → IsLegal (repository_within limits) again → OneByOne (repository_within limits) 0 [] sections answers again
    → (again ≡ moved_to_seat_0 kept) × (replay (repository_within limits) again ≡ replay (repository_within limits) kept)
calls_preserved keeps serial limits kept text script sections answers again led stand few written reads are legal asked =
    let object = repository_within limits in
    let state = state_of_legal (replay object kept) led in
    let back = keeps limits kept state.0 state.1 stand few in
    let one = same_script script (calls_of kept ∷ []) (script_of text) reads (ap script_of written ∙ back.reads) in
    let same = (serial limits sections answers again legal asked).books ∙ ap (history_from 0 (new_within limits)) (are ∙ one) ∙ sym back.is_serial.books in
    (same, ap (replay object) same ∙ back.leads ∙ sym state.1)

-- the new book begins as the stored one does, and has its calls and its state
pub book_preserved : KeptLeadsBack → OneByOneIsSerial → (kept again : Booked Contents Call) (first : Contents) (text : List ℕ) (script sections : List (List Call)) (answers : List (List (Result Reply Fault)))
    → IsFirst repository kept.first → first ≡ kept.first → again.first ≡ first
    → IsLegal (begun repository kept.first) kept.calls → AllByRecursion CanBeInScript (calls_of kept.calls) → length kept.calls ≤ 65_536 → text ≡ kept_text kept.calls → script_of text ≡ Ok script → sections ≡ script
    → IsLegal (begun repository again.first) again.calls → OneByOne (begun repository first) 0 [] sections answers again.calls
    → (again ≡ book_at_seat_0 kept) × (replay_book repository again ≡ replay_book repository kept)
book_preserved keeps serial kept again first text script sections answers is begins same led stand few written reads are legal asked =
    let limits = kept.first.limits in
    let new : kept.first ≡ new_within limits = sym is.itself in
    let calls =
    calls_preserved keeps serial limits kept.calls text script sections answers again.calls
    (subst (λ (f : Contents). IsLegal (begun repository f) kept.calls) new led) stand few written reads are
    (subst (λ (f : Contents). IsLegal (begun repository f) again.calls) (same ∙ begins ∙ new) legal)
    (subst (λ (f : Contents). OneByOne (begun repository f) 0 [] sections answers again.calls) (begins ∙ new) asked) in (
      same_book again (book_at_seat_0 kept) (same ∙ begins) calls.0,
      ap (λ (f : Contents). replay (begun repository f) again.calls) (same ∙ begins ∙ new) ∙ calls.1
          ∙ ap (λ (f : Contents). replay (begun repository f) kept.calls) (sym new),
    )
