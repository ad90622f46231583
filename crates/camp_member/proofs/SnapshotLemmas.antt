-- Lemmas on readers and members that go on from a snapshot.
use Rattle.std.proofs.Common.{◌≡◌, ◌≢◌, ℕ, ◌+◌, ◌==◌, Bool, true, false, List, [], ◌∷◌, ◌++◌, length, Option, Some, None, Result, Ok, Err, IfOk, IfSome, IsSome, if◌then◌else◌, refl, sym, ◌∙◌, ap, arith, eq-eqb, inl, inr, ◌⊎◌}
use Rattle.std.proofs.lemmas.Bool.{eqb-true, ne_eqb}
use Rattle.std.proofs.lemmas.List.{append-nil}
use Rattle.camp_object.specs.Objects.{Sequential}
use Rattle.camp_object.specs.Histories.{IsBeginning, own}
use Rattle.camp_member.specs.Decisions.{accepted_after}
use Rattle.camp_member.specs.Entries.{Tagged, IsReadable, counted_entries, last_of, number_in, of_seat, seated_calls}
use Rattle.camp_member.specs.Laws.{CountedAreSnapshot, NothingIsRestored, RestoresOn, SnapshotStandsForLog}
use Rattle.camp_member.specs.Members.{Membership}
use Rattle.camp_member.specs.Readings.{Reading}
use Rattle.camp_member.specs.Snapshots.{IsRestoreFault, IsOfSeat, IsRestoredFrom, RestoresAt, RestoresEntry, RestoresOther, last_number}
use Rattle.camp_member.specs.Telling.{MemberAdvances}
use Rattle.camp_member.specs.declared.faults.ReadFault.{ReadFault}
use Rattle.camp_member.specs.declared.faults.ReadFault.TheVariants.{Memory, OutOfOrder, Foreign}
use Rattle.camp_member.proofs.Counting.{AreNumbered, numbered-after, of_seat-push}
use Rattle.camp_member.proofs.Deciding.{decided_accepts}
use Rattle.camp_member.proofs.Reading.{history_of-push}
use Rattle.camp_member.proofs.Telling.{decided_grows, decided_others, goes_unchanged}

module _ {Call : Type 0} where
  last_number-push : (number : ℕ) (entries : List (Tagged Call)) (entry : Tagged Call) → last_number number (entries ++ entry ∷ []) ≡ entry.number
  last_number-push number [] entry = refl
  last_number-push number (x ∷ entries) entry = last_number-push x.number entries entry

  -- the last number of a seat after one more entry of it, and of another seat
  last_number-same : (entries : List (Tagged Call)) (entry : Tagged Call) (seat : ℕ) → entry.seat ≡ seat → last_number 0 (of_seat seat (entries ++ entry ∷ [])) ≡ entry.number
  last_number-same entries entry seat same =
      ap (last_number 0) (of_seat-push entries entry seat ∙ ap (λ (b : Bool). of_seat seat entries ++ (if b then entry ∷ [] else [])) (eq-eqb entry.seat seat same))
      ∙ last_number-push 0 (of_seat seat entries) entry

  last_number-other : (entries : List (Tagged Call)) (entry : Tagged Call) (seat : ℕ) → entry.seat ≢ seat → last_number 0 (of_seat seat (entries ++ entry ∷ [])) ≡ last_number 0 (of_seat seat entries)
  last_number-other entries entry seat differs =
      ap (last_number 0) (of_seat-push entries entry seat ∙ ap (λ (b : Bool). of_seat seat entries ++ (if b then entry ∷ [] else [])) (ne_eqb entry.seat seat differs) ∙ append-nil (of_seat seat entries))

  -- of entries with the numbers 1, 2, .. the last number is how many there are
  last_number-counts : (before : ℕ) (entries : List (Tagged Call)) → AreNumbered before entries → last_number before entries ≡ before + length entries
  last_number-counts before [] are = omega arith
  last_number-counts before (entry ∷ entries) are =
      let first = are.0 in
      let further = last_number-counts (before + 1) entries are.1 in
      let same = ap (λ n. last_number n entries) first in
      omega (arith, first, further, same)

module _ {State Call Reply : Type 0} (object : Sequential State Call Reply) where
  pub nothing_is_restored : NothingIsRestored object
  nothing_is_restored reading index history numbers = record {
    at = index;
    history = history;
    last = λ seat. ap (λ (list : List (ℕ × ℕ)). number_in list seat) numbers;
  }

  pub restores_on : RestoresOn object
  restores_on entries at index old new entry is restores = record {
    at = restores.at;
    history =
        decided_accepts object old.history entry.seat entry.calls restores.replies new.history restores.decides.decided
        ∙ ap (λ list. accepted_after object list (seated_calls entry)) is.history
        ∙ sym (history_of-push object entries entry);
    last = λ seat. restores.decides.last seat ∙ (
        elim (seat == entry.seat) as (λ b. seat == entry.seat ≡ b → (if b then entry.number else number_in old.numbers seat) ≡ last_number 0 (of_seat seat (entries ++ entry ∷ []))) [
          | true ↦ λ same. sym (last_number-same entries entry seat (sym (eqb-true seat entry.seat same)))
          | false ↦ λ other. is.last seat ∙ sym (last_number-other entries entry seat (λ same. let clash : false ≡ true = sym other ∙ eq-eqb seat entry.seat (sym same) in cc))
        ] refl
        );
  }

  pub snapshot_stands : SnapshotStandsForLog object
  snapshot_stands log entries reading snapshot is = record {
    readable = snapshot.readable;
    index = is.at;
    history = is.history ∙ snapshot.history;
    last = λ seat. is.last seat ∙ snapshot.last seat;
  }

  pub counted_are_snapshot : CountedAreSnapshot object
  counted_are_snapshot log readable = record {
    readable = readable;
    history = refl;
    last = λ seat. let counts = last_number-counts 0 (of_seat seat (counted_entries log)) (numbered-after seat [] log tt) in omega (arith, counts);
  }

  -- a member that restores an entry answers nothing
  pub restores_goes : (old new : Membership State Call Reply) (index : ℕ) (entry : Tagged Call) → RestoresOther object index old entry new → MemberAdvances object (λ _ _. ⊥) old new
  restores_goes old new index entry one = record {
    told = [];
    seat = ap (λ (m : Membership State Call Reply). m.seat) one.rest;
    first = one.restores.first;
    answers = ap (λ (m : Membership State Call Reply). m.answers) one.rest ∙ sym (append-nil old.answers);
    waiting = sym (ap (λ (m : Membership State Call Reply). m.waiting) one.rest);
    are = (
      decided_grows object old.reading.history entry.seat entry.calls one.restores.replies new.reading.history one.restores.decides.decided,
      decided_others object old.seat old.reading.history entry.seat entry.calls one.restores.replies new.reading.history one.other one.restores.decides.decided,
    );
  }

  -- whatever came of it
  pub restored_goes : (old new : Membership State Call Reply) (index : ℕ) (found : Option (Tagged Call)) (result : Result (Unit {0}) ReadFault) → RestoresAt object old index found result new → MemberAdvances object (λ _ _. ⊥) old new
  restored_goes old new index None (Ok done) is = let none = is.2 in cc
  restored_goes old new index (Some entry) (Ok done) is = restores_goes old new index entry is.1
  restored_goes old new index found (Err Memory) is = goes_unchanged object old new index is (λ _ _. ⊥)
  restored_goes old new index found (Err (OutOfOrder next)) is = goes_unchanged object old new index is.2 (λ _ _. ⊥)
  restored_goes old new index found (Err (Foreign at)) is = goes_unchanged object old new index is.1 (λ _ _. ⊥)

  -- what a reader restores, its member restores
  pub restores_ok : (old new : Membership State Call Reply) (index : ℕ) (found : Option (Tagged Call)) → old.is_stopped ≡ false → ¬ (IsOfSeat old.seat found)
      → IfSome found (λ entry. RestoresEntry object index old.reading entry new.reading) → IsSome found → new ≡ record old { reading = new.reading } → RestoresAt object old index found (Ok tt) new
  restores_ok old new index None reads other restores some rest = cc
  restores_ok old new index (Some entry) reads other restores some rest = (reads, record { other = other; restores = restores; rest = rest }, some)

  pub restores_fault : (old new : Membership State Call Reply) (index : ℕ) (found : Option (Tagged Call)) (why : ReadFault) → IsRestoreFault old.reading index found why → new ≡ old → RestoresAt object old index found (Err why) new
  restores_fault old new index found Memory is same = same
  restores_fault old new index found (OutOfOrder next) is same = (is.0, is.1, same)
  restores_fault old new index found (Foreign at) is same = (is.0, same, inr (inr (is.1, is.2)))

  -- more was read after it
  pub restores_grow : (old new : Reading State Call) (index : ℕ) (found : Option (Tagged Call)) → IfSome found (λ entry. RestoresEntry object index old entry new) → IsSome found → IsBeginning old.history new.history
  restores_grow old new index None restores some = cc
  restores_grow old new index (Some entry) restores some = decided_grows object old.history entry.seat entry.calls restores.replies new.history restores.decides.decided
