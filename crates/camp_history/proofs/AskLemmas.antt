-- Lemmas on the answers to a call at a seat.
use Rattle.camp_history.proofs.Words.{length-append, length-map, append-nil, append_assoc, All-same, Where, Shows, Sequential, IsLawfulObject, Next, Fault, Memory, begins_self, HeadId, SeatState, seat_and_call, history_of, IsSeatOf, IsBaseAt, caller_at, ◌≡◌, ℕ, suc, ◌+◌, ◌<◌, false, List, [], ◌∷◌, ◌++◌, length, map, All, Option, Some, Result, Ok, Err, IsErrAnd, refl, sym, ◌∙◌, ap, subst, arith, add-one, IsBeginning, replay, IsLegal, IsAccepted, own, Caller, Ask, AddsNothing, Loses, IsNotBusy, replay_accepted, accepted_at, ask_done, ask_memory, ask_since, loses_more, never_busy_among_own, entry_of, seen_entries, DecidesAt, SeesMore, FindsMore, Publishes, LosesOne, Attempts}
pub use Rattle.camp_history.proofs.Seeing.{all_more, history_more, sees_more_more, sees_more_self}

-- a seat that sees more adds nothing of its own
pub adds_nothing : {State Call : Type 0} (head : HeadId State) {old new : SeatState State Call} → SeesMore old new → AddsNothing (caller_at head old) (history_of old) (history_of new)
adds_nothing head more = record { own_stays = more.own_stays; exact = λ alone. cc }

-- the same seat and its bounds
pub same_caller : {State Call : Type 0} (head : HeadId State) (old new : SeatState State Call) → new.known.number ≡ old.known.number → caller_at head new ≡ caller_at head old
same_caller head old new number = ap (λ number. record { seat = number; tries = head.tries; per_seat = head.row.per_seat; alone = false }) number

module _ {State Call Reply : Type 0} (object : Sequential State Call Reply) where
  -- a call that is decided to be accepted
  pub decided_next : (history : List (ℕ × Call)) (seat : ℕ) (call : Call) (next : State) → DecidesAt object history call (Next next) → replay object (history ++ (seat, call) ∷ []) ≡ Some next
  decided_next history seat call next at = replay_accepted object history (seat, call) at.state next at.replays at.decides

  pub decided_accepted : (history : List (ℕ × Call)) (call : Call) (next : State) → DecidesAt object history call (Next next) → IsAccepted object history call
  decided_accepted history call next at = accepted_at object history call at.state next at.replays at.decides

  -- a call that was published
  pub ask_published : IsLawfulObject object → (head : HeadId State) (old new : SeatState State Call) (call : Where Call) (at : ℕ) (reply : Reply)
      → IsAccepted object (history_of old) call.value → length (own old.known.number (history_of old)) < head.row.per_seat → Publishes old call new
      → at ≡ length (history_of new) → reply ≡ object.done at → Ask object (caller_at head old) (history_of old) call.value (Ok reply) (history_of new)
  ask_published lawful head old new call at reply accepted room publishes position is =
      ask_done object lawful (caller_at head old) (history_of old) (history_of old) (history_of new) call.value at reply
      (begins_self (history_of old)) refl accepted (λ _. room) (λ _. refl) (history_more old.marks new.marks (record { seat = old.known.number; call = call }) publishes.marks) position is

-- an attempt that fails because memory runs out
pub attempts_nothing : {State Call Reply : Type 0} (object : Sequential State Call Reply) (head : HeadId State) (old new : SeatState State Call) (call : Call) (answer : Result (Option Reply) Fault)
    → IsErrAnd answer (λ fault. fault ≡ Memory) → IsLegal object (history_of old) → new ≡ old → Attempts object head old call answer new
attempts_nothing object head old new call (Ok reply) memory legal same = absurd memory
attempts_nothing {State = State} {Call = Call} object head old new call (Err fault) memory legal same =
    let Asks : Fault → Type 0 = λ fault. Ask object (caller_at head old) (history_of old) call (Err fault) (history_of new) in
    let Stays : SeatState State Call → Type 0 = λ seat. Ask object (caller_at head old) (history_of old) call (Err Memory) (history_of seat) in
    subst Asks (sym memory) (
    subst Stays (sym same) (ask_memory object (caller_at head old) (history_of old) (history_of old) call (begins_self (history_of old)) (adds_nothing head (sees_more_self old)) legal)
    )

-- a seat that published is one of its head
pub seat_published : {State Call : Type 0} (head : HeadId State) (old new : SeatState State Call) (call : Where Call) → IsSeatOf head old → Shows head.store call → Publishes old call new → IsSeatOf head new
seat_published head old new call of shows publishes = record {
  first = publishes.first ∙ of.first;
  row = publishes.row ∙ of.row;
  stored = all_more old.marks new.marks (record { seat = old.known.number; call = call }) publishes.marks (λ mark. Shows head.store mark.call) of.stored shows;
  bases = All-same (IsBaseAt head.slots) new.bases old.bases publishes.bases of.bases;
}

-- a seat that found more has seen no more
pub finds_sees : {State Call : Type 0} {old new : SeatState State Call} → FindsMore old new → SeesMore old new
finds_sees {old = old} {new = new} finds = record {
  number = finds.number;
  row = finds.row;
  more = record { rest = []; makes = append-nil (history_of old) ∙ sym (ap (map seat_and_call) finds.marks) };
  own_stays = ap (λ marks. own old.known.number (map seat_and_call marks)) finds.marks;
}

-- after a lost exchange the seat sees another call, which won the exchange
pub sees_ahead : {State Call : Type 0} {old lost new : SeatState State Call} → FindsMore old lost → SeesMore lost new → seen_entries new ≡ lost.known.ahead
    → (ahead : ℕ × Call) × IsBeginning (history_of old ++ ahead ∷ []) (history_of new)
sees_ahead {Call = Call} {old = old} {lost = lost} {new = new} finds more whole = at more.more.rest more.more.makes
  where
    at : (rest : List (ℕ × Call)) → history_of lost ++ rest ≡ history_of new → (ahead : ℕ × Call) × IsBeginning (history_of old ++ ahead ∷ []) (history_of new)
    at [] makes =
        let same : length (history_of lost ++ []) ≡ length (history_of new) = ap length makes in
        let longer : length (seen_entries lost ++ finds.longer.next ∷ finds.longer.rest) ≡ length (seen_entries new) = ap length (finds.longer.is ∙ sym whole) in
        absurd (omega (arith, same, longer, length-append (history_of lost) [], length-append (seen_entries lost) (finds.longer.next ∷ finds.longer.rest), length-map lost.marks seat_and_call, length-map new.marks seat_and_call, length-map lost.marks entry_of, length-map new.marks entry_of))
    at (ahead ∷ rest) makes = (
      ahead,
      record {
        rest = rest;
        makes = append_assoc (history_of old) (ahead ∷ []) rest ∙ ap (λ history. history ++ ahead ∷ rest) (sym (ap (map seat_and_call) finds.marks)) ∙ makes;
      },
    )

-- an answer to a seat that has seen more than at first
pub ask_later : {State Call Reply : Type 0} (object : Sequential State Call Reply) (head : HeadId State) (start seat : SeatState State Call) → SeesMore start seat
    → (call : Call) (answer : Result Reply Fault) (now : List (ℕ × Call))
    → Ask object (caller_at head seat) (history_of seat) call answer now → Ask object (caller_at head start) (history_of start) call answer now
ask_later object head start seat more call answer now ask =
    let Asks : Caller → Type 0 = λ caller. Ask object caller (history_of seat) call answer now in
    ask_since object (caller_at head start) call now (history_of start) (history_of seat) refl more.more more.own_stays answer (subst Asks (same_caller head start seat more.number) ask)

-- one more lost exchange
pub loses_again : {State Call Reply : Type 0} (object : Sequential State Call Reply) (head : HeadId State) (call : Call) (times : ℕ) (start old lost new : SeatState State Call)
    → Loses object call times (history_of start) (history_of old) → LosesOne object head old call lost → SeesMore lost new → seen_entries new ≡ lost.known.ahead
    → Loses object call (times + 1) (history_of start) (history_of new)
loses_again object head call times start old lost new loses one more whole =
    let ahead = sees_ahead one.finds more whole in
    let again : Loses object call (suc times) (history_of start) (history_of new) = loses_more object call times (history_of start) (history_of old) (history_of new) ahead.0 loses one.accepted ahead.1 in
    rw add-one again

-- at a head of one seat nobody else asks
pub one_seat_not_busy : {State Call Reply : Type 0} (object : Sequential State Call Reply) (head : HeadId State) (old new : SeatState State Call) (call : Call) (answer : Result Reply Fault)
    → 0 < head.tries → IsSeatOf head new → caller_at head new ≡ caller_at head old
    → new.known.number < new.known.row.seats → All (λ entry. entry.0 < new.known.row.seats) (history_of new)
    → Ask object (caller_at head old) (history_of old) call answer (history_of new) → head.row.seats ≡ 1 → IsNotBusy answer
one_seat_not_busy object head old new call answer tries of same below all_below ask one =
    let row : new.known.row.seats ≡ 1 = ap (λ row. row.seats) of.row ∙ one in
    let number : new.known.number ≡ old.known.number = ap (λ caller. caller.seat) same in
    never_busy_among_own object (caller_at head old) (history_of old) call answer (history_of new) tries
    (λ k d within. let one_below = all_below k d within in omega arith) ask
