-- An entry has room for what a member waits for, after each step of the member.
use Rattle.std.proofs.Common.{◌≡◌, ℕ, ◌+◌, ◌^◌, ◌<◌, ◌≤◌, List, [], ◌∷◌, ◌++◌, length, take, sym, ap, subst, arith, inl, inr, Result, Ok, Err, OnOk, OnErr, Option, None, Some, MatchOption}
use Rattle.std.specs.List.{AllByRecursion}
use Rattle.std.proofs.lemmas.List.{take-append-le}
use Rattle.camp_call.specs.declared.calls.Call.{Call}
use Rattle.camp_call.specs.declared.replies.Reply.{Reply}
use Rattle.camp_member.specs.Entries.{Tagged}
use Rattle.camp_member.specs.Members.{without_reply}
use Rattle.camp_member.specs.Notes.{WithNote}
use Rattle.camp_member.specs.Telling.{MemberAdvances}
use Rattle.camp_member.specs.Wanting.{AfterEnd, FindsAt, FindsEntry}
use Rattle.camp_member.specs.declared.faults.ReadFault.{ReadFault}
use Rattle.camp_member.specs.declared.faults.ReadFault.TheVariants.{Foreign, Memory, OutOfOrder}
use Rattle.camp_member.specs.declared.requests.NoReply.{NoReply}
use Rattle.camp_member.specs.declared.requests.NoReply.TheVariants.{Refused}
use Rattle.camp_member.specs.declared.requests.Request.{Request}
use Rattle.camp_shared.specs.Inside.{CanBeAsked, HasRoomForTexts, bytes_asked}
use Rattle.camp_shared.specs.Sharing.{Sharing, shared_from}
use Rattle.camp_shared.proofs.RoomLemmas.{all_push, room_alone, room_same}

-- a new member
pub room_new : (new : Sharing) → new.reading.index ≡ 0 → new.waiting ≡ [] → new.sent ≡ 0 → HasRoomForTexts new
room_new new index waiting sent = record {
  index = omega (arith, index);
  each = subst (λ (list : List (Request (WithNote Call))). AllByRecursion CanBeAsked list) (sym waiting) tt;
  together = let none = ap (λ n. bytes_asked (take n new.waiting)) sent in omega (arith, none);
}

-- one more request
pub room_asked : (old new : Sharing) (request : Request (WithNote Call)) → HasRoomForTexts old → old.sent ≤ length old.waiting → CanBeAsked request → new ≡ record old { waiting = old.waiting ++ request ∷ [] } → HasRoomForTexts new
room_asked old new request room within can is = subst (λ (m : Sharing). HasRoomForTexts m) (sym is) (record {
  index = room.index;
  each = all_push CanBeAsked old.waiting request room.each can;
  together =
      let together = room.together in
      let same = ap bytes_asked (take-append-le old.sent old.waiting (request ∷ []) within) in
      omega (arith, together, same);
})

pub room_asked_or_not : (old new : Sharing) (request : Request (WithNote Call)) {Fault : Type 0} (result : Result (Unit {0}) Fault) → HasRoomForTexts old → old.sent ≤ length old.waiting → CanBeAsked request
    → OnOk result (new ≡ record old { waiting = old.waiting ++ request ∷ [] }) → OnErr result (new ≡ old) → HasRoomForTexts new
room_asked_or_not old new request (Ok done) room within can is stays = room_asked old new request room within can is
room_asked_or_not old new request (Err fault) room within can is stays = subst (λ (m : Sharing). HasRoomForTexts m) (sym stays) room

-- an answer is taken
pub room_answered : (old new : Sharing) (result : Option (ℕ × Result Reply NoReply)) → HasRoomForTexts old
    → MatchOption result ((old.answers ≡ []) × (new ≡ old)) (λ answer. old ≡ record new { answers = answer ∷ new.answers }) → HasRoomForTexts new
room_answered old new None room is = subst (λ (m : Sharing). HasRoomForTexts m) (sym is.1) room
room_answered old new (Some answer) room is =
    let before : HasRoomForTexts (record new { answers = answer ∷ new.answers }) = subst (λ (m : Sharing). HasRoomForTexts m) is room in
    record { index = before.index; each = before.each; together = before.together }

-- the entry under way is refused
pub room_refused : (old new : Sharing) (may : Request (WithNote Call) → NoReply → Type 0) {Fault : Type 0} (result : Result (Unit {0}) Fault) → HasRoomForTexts old
    → MemberAdvances (shared_from old.reading.first) may old new → OnOk result (new ≡ without_reply Refused old) → OnErr result (new ≡ old) → HasRoomForTexts new
room_refused old new may (Ok done) room goes is stays =
    let index = room.index in
    let at = ap (λ (m : Sharing). m.reading.index) is in
    room_alone (shared_from old.reading.first) may old new room goes (ap (λ (m : Sharing). m.sent) is) (omega (arith, index, at))
room_refused old new may (Err fault) room goes is stays = subst (λ (m : Sharing). HasRoomForTexts m) (sym stays) room

-- the log has ended
pub room_ended : (old new : Sharing) (index : ℕ) (may : Request (WithNote Call) → NoReply → Type 0) {Fault : Type 0} (result : Result (Unit {0}) Fault) → HasRoomForTexts old
    → MemberAdvances (shared_from old.reading.first) may old new → OnOk result (AfterEnd (shared_from old.reading.first) old index new) → OnErr result (new ≡ old) → HasRoomForTexts new
room_ended old new at may (Ok done) room goes (inl ends) stays =
    let index = room.index in
    let same = ap (λ (m : Sharing). m.reading.index) ends.3 in
    room_alone (shared_from old.reading.first) may old new room goes (ap (λ (m : Sharing). m.sent) ends.3) (omega (arith, index, same))
room_ended old new at may (Ok done) room goes (inr ends) stays = subst (λ (m : Sharing). HasRoomForTexts m) (sym ends.1) room
room_ended old new at may (Err fault) room goes is stays = subst (λ (m : Sharing). HasRoomForTexts m) (sym stays) room

-- an entry is read
room_read : (old new : Sharing) (entry : Tagged (WithNote Call)) → HasRoomForTexts old → old.reading.index + 2 < 2 ^ 64 → MemberAdvances (shared_from old.reading.first) (λ _ _. ⊥) old new → FindsEntry (shared_from old.reading.first) old entry new → HasRoomForTexts new
room_read old new entry room small goes finds =
    let at = finds.reads.index in
    let next : new.reading.index + 1 < 2 ^ 64 = omega (arith, at, small) in
    elim finds.effect as (λ _. HasRoomForTexts new) [
      | inl own ↦ room_alone (shared_from old.reading.first) (λ _ _. ⊥) old new room goes own.sent next
      | inr other ↦ room_same old new room other.waiting other.sent next
    ]

pub room_found : (old new : Sharing) (index : ℕ) (found : Option (Tagged (WithNote Call))) (result : Result (Unit {0}) ReadFault) → HasRoomForTexts old → old.reading.index + 2 < 2 ^ 64
    → MemberAdvances (shared_from old.reading.first) (λ _ _. ⊥) old new → FindsAt (shared_from old.reading.first) old index found result new → HasRoomForTexts new
room_found old new index found (Ok done) room small goes (inl before) = subst (λ (m : Sharing). HasRoomForTexts m) (sym before.1) room
room_found old new index None (Ok done) room small goes (inr finds) = let none = finds.3 in cc
room_found old new index (Some entry) (Ok done) room small goes (inr finds) = room_read old new entry room small goes finds.2
room_found old new index found (Err Memory) room small goes is = subst (λ (m : Sharing). HasRoomForTexts m) (sym is) room
room_found old new index found (Err (OutOfOrder next)) room small goes is = subst (λ (m : Sharing). HasRoomForTexts m) (sym is.2) room
room_found old new index found (Err (Foreign at)) room small goes is = subst (λ (m : Sharing). HasRoomForTexts m) (sym is.2) (record {
  index = room.index;
  each = room.each;
  together = omega arith;
})
