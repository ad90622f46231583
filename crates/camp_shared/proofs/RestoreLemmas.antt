-- What a member of a log of texts restores.
use Rattle.std.proofs.Common.{◌≡◌, ℕ, ◌+◌, ◌-◌, ◌<◌, ◌≤◌, ◌^◌, ◌⊎◌, true, List, [], ◌∷◌, ◌++◌, length, map, Option, None, Some, Result, Ok, Err, refl, sym, ap, subst, ◌∙◌, arith, inl, inr}
use Rattle.std.proofs.lemmas.List.{map-append}
use Rattle.camp_call.specs.declared.calls.Call.{Call}
use Rattle.camp_entries.specs.Texts.{IsEntryOf}
use Rattle.camp_member.specs.Entries.{Tagged, number_in}
use Rattle.camp_member.specs.Notes.{WithNote}
use Rattle.camp_member.specs.Readings.{IsReadingOf, Reading}
use Rattle.camp_member.specs.Snapshots.{CanFollow, IsOfSeat, IsRestoredFrom, IsSnapshotOf, RestoresAt}
use Rattle.camp_member.specs.declared.faults.ReadFault.{ReadFault}
use Rattle.camp_member.specs.declared.faults.ReadFault.TheVariants.{Foreign, Memory, OutOfOrder}
use Rattle.camp_member.proofs.SnapshotLemmas.{nothing_is_restored, restores_on, snapshot_stands}
use Rattle.camp_repo.specs.States.{Contents, new_within}
use Rattle.camp_shared.specs.Asking.{RestoresParsed, RestoresText}
use Rattle.camp_shared.specs.Inside.{HasRoomForTexts}
use Rattle.camp_shared.specs.Laws.{AreEntriesOf, HasReadTexts, HasRestoredTexts, OpensRestored, RestoresTextsInOrder, SnapshotStandsForTexts}
use Rattle.camp_shared.specs.Sharing.{Sharing, shared_from}
use Rattle.camp_shared.proofs.ReadLemmas.{same_limits}
use Rattle.camp_shared.proofs.RoomLemmas.{room_same}
use Rattle.camp_shared.proofs.TextLemmas.{entries_len, entries_push}

module _ (old new : Sharing) (index : ℕ) (found : Option (Tagged (WithNote Call))) (at : old.reading.index + 1 ≤ index) where
  pub parsed_foreign : (place : ℕ) → RestoresAt (shared_from old.reading.first) old (index - 1) found (Err (Foreign place)) new → RestoresParsed old index found (Err (Foreign index)) new
  parsed_foreign place is = (refl, is.1, why is.2)
    where
      why : (old.is_stopped ≡ true) ⊎ IsOfSeat old.seat found ⊎ ((old.reading.index ≤ index - 1) × ¬ (CanFollow (number_in old.reading.numbers) found))
          → (old.is_stopped ≡ true) ⊎ IsOfSeat old.seat found ⊎ ¬ (CanFollow (number_in old.reading.numbers) found)
      why (inl stopped) = inl stopped
      why (inr (inl own)) = inr (inl own)
      why (inr (inr cannot)) = inr (inr cannot.1)

  pub parsed_in_order : (next : ℕ) → RestoresAt (shared_from old.reading.first) old (index - 1) found (Err (OutOfOrder next)) new → ⊥
  parsed_in_order next is = let next_is = is.0 in let below = is.1 in omega (arith, at, next_is, below)

  pub restores_text : (text : List ℕ) → IsEntryOf text found → (result : Result (Unit {0}) ReadFault) → RestoresParsed old index found result new → RestoresText old index text result new
  restores_text text parsed (Ok done) is = (omega (arith, at), (found, parsed, is))
  restores_text text parsed (Err Memory) is = is
  restores_text text parsed (Err (OutOfOrder next)) is = absurd is
  restores_text text parsed (Err (Foreign place)) is = (omega (arith, at), (found, parsed, is))

  -- an entry has room for what the member waits for
  pub room_restored : (result : Result (Unit {0}) ReadFault) → HasRoomForTexts old → index + 1 < 2 ^ 64 → RestoresAt (shared_from old.reading.first) old (index - 1) found result new → HasRoomForTexts new
  room_restored (Ok done) room small is = restored found is
    where
      restored : (found : Option (Tagged (WithNote Call))) → RestoresAt (shared_from old.reading.first) old (index - 1) found (Ok tt) new → HasRoomForTexts new
      restored None is = let none = is.2 in cc
      restored (Some entry) is =
          let next = is.1.restores.at in
          room_same old new room (ap (λ (m : Sharing). m.waiting) is.1.rest) (ap (λ (m : Sharing). m.sent) is.1.rest) (omega (arith, at, small, next))
  room_restored (Err Memory) room small is = subst (λ (m : Sharing). HasRoomForTexts m) (sym is) room
  room_restored (Err (OutOfOrder next)) room small is = subst (λ (m : Sharing). HasRoomForTexts m) (sym is.2) room
  room_restored (Err (Foreign place)) room small is = subst (λ (m : Sharing). HasRoomForTexts m) (sym is.1) room

-- texts have one list of entries
same_entries : (kept : List (List ℕ)) (one two : List (Tagged (WithNote Call))) → AreEntriesOf kept (map (λ entry. Some entry) one) → AreEntriesOf kept (map (λ entry. Some entry) two) → one ≡ two
same_entries [] [] [] first second = refl
same_entries [] [] (y ∷ two) first second = absurd second
same_entries [] (x ∷ one) two first second = absurd first
same_entries (text ∷ kept) [] two first second = absurd first
same_entries (text ∷ kept) (x ∷ one) [] first second = absurd second
same_entries (text ∷ kept) (x ∷ one) (y ∷ two) first second =
    let same : x ≡ y = first.0.2 y second.0.0 second.0.1 in
    ap (λ (z : Tagged (WithNote Call)). z ∷ one) same ∙ ap (λ list. y ∷ list) (same_entries kept one two first.1 second.1)

pub opens_restored : OpensRestored
opens_restored title seat member is = record {
  limits = is.limits;
  titled = is.titled;
  first = ap (λ (m : Sharing). m.reading.first) is.new;
  entries = [];
  have = tt;
  restored = nothing_is_restored (shared_from member.reading.first) member.reading (ap (λ (m : Sharing). m.reading.index) is.new) (ap (λ (m : Sharing). m.reading.history) is.new) (ap (λ (m : Sharing). m.reading.numbers) is.new);
}

pub restores_texts_in_order : RestoresTextsInOrder
restores_texts_in_order title kept count old new index text has (below, (None, parsed, restores)) = let none = restores.2 in cc
restores_texts_in_order title kept count old new index text has (below, (Some entry, parsed, restores)) =
    let one = restores.1.restores in
    let entries : List (Tagged (WithNote Call)) = has.entries ++ entry ∷ [] in
    let on = restores_on (shared_from old.reading.first) has.entries count (index - 1) old.reading new.reading entry has.restored one in
    let at = on.at in
    let P : Contents → Type 0 = λ first. IsRestoredFrom (shared_from first) entries index new.reading in
    record {
      limits = has.limits;
      titled = has.titled;
      first = one.first ∙ has.first;
      entries = entries;
      have = subst (λ (log : List (Option (Tagged (WithNote Call)))). AreEntriesOf (kept ++ text ∷ []) log) (sym (map-append (λ entry. Some entry) has.entries (entry ∷ [])))
          (entries_push kept (map (λ entry. Some entry) has.entries) text (Some entry) has.have parsed);
      restored = subst P (sym one.first) (record { at = omega (arith, at, below); history = on.history; last = on.last });
    }

pub snapshot_stands_for_texts : SnapshotStandsForTexts
snapshot_stands_for_texts title texts kept reading snapshot has =
    let limits = same_limits title snapshot.limits has.limits snapshot.titled has.titled in
    let first : new_within snapshot.limits ≡ reading.first = ap new_within limits ∙ sym has.first in
    let entries = same_entries kept snapshot.entries has.entries snapshot.have has.have in
    let P : Contents × List (Tagged (WithNote Call)) → Type 0 = λ pair. IsSnapshotOf (shared_from pair.0) snapshot.log pair.1 in
    let Q : ℕ → Type 0 = λ count. IsRestoredFrom (shared_from reading.first) has.entries count reading in
    record {
      limits = has.limits;
      titled = has.titled;
      first = has.first;
      log = snapshot.log;
      entries = snapshot.are;
      reads = snapshot_stands (shared_from reading.first) snapshot.log has.entries reading (subst P (λ i. (first i, entries i)) snapshot.snapshot)
          (subst Q (sym (entries_len texts snapshot.log snapshot.are)) has.restored);
    }
