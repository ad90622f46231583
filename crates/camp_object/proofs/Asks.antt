-- Shows that an answer says what it has to say of the history.
use Rattle.std.proofs.Common.{◌≡◌, ℕ, zero, suc, ◌+◌, ◌<◌, ◌≤◌, All, arith, Bool, true, false, List, [], ◌∷◌, ◌++◌, length, Option, Some, None, MatchOption, Result, Ok, Err, sym, ◌∙◌, ap, subst, is_some}
use Rattle.std.specs.Option.{option_and_then}
use Rattle.std.proofs.lemmas.Option.{option_and_then_some}
use Rattle.camp_object.specs.Objects.{Sequential, IsLawfulObject}
use Rattle.camp_object.specs.Histories.{IsBeginning, replay, IsLegal, IsAccepted, IsAnswered, own}
use Rattle.camp_object.specs.Asking.{Caller, Accepts, AddsNothing, Loses, Says, Ask, IsNotBusy}
use Rattle.camp_object.specs.declared.faults.Fault.TheVariants.{Memory, Busy, Full}
use Rattle.camp_object.specs.declared.faults.Fault.{Fault}
use Rattle.std.proofs.lemmas.List.{length_push}
use Rattle.camp_object.proofs.Beginnings.{begins_longer, begins_through, length-beginning}
use Rattle.camp_object.proofs.Replays.{own_mine, length-own-within, length-own-all, replay_more, state_of_legal}

-- a call that was accepted after the calls before it
pub ask_done : {State Call Reply : Type 0} (object : Sequential State Call Reply) → IsLawfulObject object → (caller : Caller) (seen before now : List (ℕ × Call)) (call : Call) (at : ℕ) (reply : Reply)
    → IsBeginning seen before → own caller.seat before ≡ own caller.seat seen → IsAccepted object before call
    → (caller.alone ≡ false → length (own caller.seat seen) < caller.per_seat) → (caller.alone ≡ true → before ≡ seen)
    → now ≡ before ++ (caller.seat, call) ∷ [] → at ≡ length now → reply ≡ object.done at
    → Ask object caller seen call (Ok reply) now
ask_done {Call = Call} {Reply = Reply} object lawful caller seen before now call at reply since stays accepted has_room exact ends position is =
    let begins : IsBeginning seen (before ++ (caller.seat, call) ∷ []) = begins_longer ((caller.seat, call) ∷ []) since in
    let legal : IsLegal object (before ++ (caller.seat, call) ∷ []) = ap {B = Bool} is_some (replay_more object before (caller.seat, call)) ∙ accepted in
    let grown : own caller.seat now ≡ own caller.seat seen ++ call ∷ [] =
    ap (own caller.seat) ends ∙ own_mine caller.seat before call ∙ ap (λ calls. calls ++ call ∷ []) stays
    in
    let accepts : Accepts caller seen call at now =
    record { before = before; since = since; ends = ends; own_grows = grown; position = position; has_room = has_room; exact = exact }
    in
    let P : Option ℕ → Type 0 = λ told. MatchOption told (AddsNothing caller seen now × IsAnswered object now call reply) (λ at. Accepts caller seen call at now) in
    record {
      grows = let Begins : List (ℕ × Call) → Type 0 = λ list. IsBeginning seen list in subst Begins (sym ends) begins;
      legal = let Legal : List (ℕ × Call) → Type 0 = λ list. IsLegal object list in subst Legal (sym ends) legal;
      says = subst P (sym (ap object.done_at is ∙ lawful.tells at)) accepts;
    }

-- a call that ran out of memory
pub ask_memory : {State Call Reply : Type 0} (object : Sequential State Call Reply) (caller : Caller) (seen now : List (ℕ × Call)) (call : Call)
    → IsBeginning seen now → AddsNothing caller seen now → IsLegal object now → Ask object caller seen call (Err Memory) now
ask_memory object caller seen now call grows adds_nothing legal = record { grows = grows; legal = legal; says = adds_nothing }

-- one more loss at the end
pub loses_more : {State Call Reply : Type 0} (object : Sequential State Call Reply) (call : Call) (times : ℕ) (seen beginning now : List (ℕ × Call)) (ahead : ℕ × Call)
    → Loses object call times seen beginning → IsAccepted object beginning call → IsBeginning (beginning ++ ahead ∷ []) now → Loses object call (suc times) seen now
loses_more object call zero seen beginning now ahead begins accepted further = (beginning, ahead, begins, accepted, further)
loses_more object call (suc times) seen beginning now ahead loses accepted further =
    (loses.0, loses.1, loses.2, loses.3, loses_more object call times (loses.0 ++ loses.1 ∷ []) beginning now ahead loses.4 accepted further)

-- the losses are losses since an earlier moment
pub loses_since : {State Call Reply : Type 0} (object : Sequential State Call Reply) (call : Call) (times : ℕ) (seen now earlier : List (ℕ × Call))
    → IsBeginning earlier seen → Loses object call times seen now → Loses object call times earlier now
loses_since object call zero seen now earlier since begins = begins_through since begins
loses_since object call (suc times) seen now earlier since loses = (loses.0, loses.1, begins_through since loses.2, loses.3, loses.4)

-- the losses stay when more is seen
pub loses_longer : {State Call Reply : Type 0} (object : Sequential State Call Reply) (call : Call) (times : ℕ) (seen beginning now : List (ℕ × Call))
    → Loses object call times seen beginning → IsBeginning beginning now → Loses object call times seen now
loses_longer object call zero seen beginning now begins further = begins_through begins further
loses_longer object call (suc times) seen beginning now loses further =
    (loses.0, loses.1, loses.2, loses.3, loses_longer object call times (loses.0 ++ loses.1 ∷ []) beginning now loses.4 further)

-- the call of a Done was accepted at the calls before it
pub accepted_before : {State Call Reply : Type 0} (object : Sequential State Call Reply) (caller : Caller) (seen : List (ℕ × Call)) (call : Call) (at : ℕ) (now : List (ℕ × Call))
    → (accepts : Accepts caller seen call at now) → IsLegal object now → IsAccepted object accepts.before call
accepted_before object caller seen call at now accepts legal =
    sym (ap {B = Bool} is_some (replay_more object accepts.before (caller.seat, call))) ∙ ap {B = Bool} (λ list. is_some (replay object list)) (sym accepts.ends) ∙ legal

-- an accepted call writes
pub accepted_writes : {State Call Reply : Type 0} (object : Sequential State Call Reply) → IsLawfulObject object → (history : List (ℕ × Call)) (call : Call)
    → IsAccepted object history call → object.is_writing call ≡ true
accepted_writes object lawful history call accepted =
    let next = state_of_legal (option_and_then (λ s. object.after s call) (replay object history)) accepted in
    option_and_then_some (λ s. object.after s call) (replay object history) next.0 next.1 (λ state at gives. lawful.writes state call next.0 gives)

-- what an answer says of a history that was seen, it says of each prefix of it that has the same calls of the caller
module _ {State Call Reply : Type 0} (object : Sequential State Call Reply) (caller : Caller) (call : Call) (now seen mid : List (ℕ × Call))
    (not_alone : caller.alone ≡ false) (since : IsBeginning seen mid) (stays : own caller.seat mid ≡ own caller.seat seen) where
  adds_nothing_since : AddsNothing caller mid now → AddsNothing caller seen now
  adds_nothing_since adds = record { own_stays = adds.own_stays ∙ stays; exact = λ alone. cc }

  accepts_since : (at : ℕ) → Accepts caller mid call at now → Accepts caller seen call at now
  accepts_since at accepts = record {
    before = accepts.before;
    since = begins_through since accepts.since;
    ends = accepts.ends;
    own_grows = accepts.own_grows ∙ ap (λ calls. calls ++ call ∷ []) stays;
    position = accepts.position;
    has_room = λ alone. let P : List Call → Type 0 = λ calls. length calls < caller.per_seat in subst P stays (accepts.has_room alone);
    exact = λ alone. cc;
  }

  says_since : (answer : Result Reply Fault) → Says object caller mid call answer now → Says object caller seen call answer now
  says_since (Ok reply) says =
      (elim (object.done_at reply) as (λ told. MatchOption told (AddsNothing caller mid now × IsAnswered object now call reply) (λ at. Accepts caller mid call at now)
      → MatchOption told (AddsNothing caller seen now × IsAnswered object now call reply) (λ at. Accepts caller seen call at now)) [
        | None ↦ λ answered. (adds_nothing_since answered.0, answered.1)
        | Some at ↦ λ accepts. accepts_since at accepts
      ]) says
  says_since (Err Memory) says = adds_nothing_since says
  says_since (Err (Busy lost)) says = record {
    adds_nothing = adds_nothing_since says.adds_nothing;
    not_alone = not_alone;
    all_lost = says.all_lost;
    has_room = let P : List Call → Type 0 = λ calls. length calls < caller.per_seat in subst P stays says.has_room;
    loses = loses_since object call lost mid now seen since says.loses;
  }
  says_since (Err Full) says = record {
    adds_nothing = adds_nothing_since says.adds_nothing;
    not_alone = not_alone;
    no_room = let P : List Call → Type 0 = λ calls. length calls ≡ caller.per_seat in subst P stays says.no_room;
    accepted = says.accepted;
  }

  pub ask_since : (answer : Result Reply Fault) → Ask object caller mid call answer now → Ask object caller seen call answer now
  ask_since answer ask = record { grows = begins_through since ask.grows; legal = ask.legal; says = says_since answer ask.says }

-- each lost exchange lengthened the history
pub loses_length : {State Call Reply : Type 0} (object : Sequential State Call Reply) (call : Call) (times : ℕ) (seen now : List (ℕ × Call))
    → Loses object call times seen now → length seen + times ≤ length now
loses_length object call zero seen now begins = let within = length-beginning begins in omega arith
loses_length object call (suc times) seen now loses = omega (arith, length-beginning loses.2, length_push loses.0 loses.1, loses_length object call times (loses.0 ++ loses.1 ∷ []) now loses.4)

-- if every call is the caller's own, no exchange is lost
pub never_busy_among_own : {State Call Reply : Type 0} (object : Sequential State Call Reply) (caller : Caller) (seen : List (ℕ × Call)) (call : Call) (answer : Result Reply Fault) (now : List (ℕ × Call))
    → 0 < caller.tries → All (λ entry. entry.0 ≡ caller.seat) now → Ask object caller seen call answer now → IsNotBusy answer
never_busy_among_own object caller seen call (Ok reply) now tries all ask = tt
never_busy_among_own object caller seen call (Err Memory) now tries all ask = tt
never_busy_among_own object caller seen call (Err (Busy lost)) now tries all ask =
    let stays = ap length ask.says.adds_nothing.own_stays in
    let lengthened = loses_length object call lost seen now ask.says.loses in
    let mine = length-own-all caller.seat now all in
    let within = length-own-within caller.seat seen in
    let all_lost = ask.says.all_lost in
    absurd (omega arith)
never_busy_among_own object caller seen call (Err Full) now tries all ask = tt
