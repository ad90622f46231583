-- Lemmas on the answers of a member.
use Rattle.std.proofs.Common.{◌≡◌, ◌≢◌, ℕ, ◌<◌, ◌≤◌, ◌^◌, inl, inr, Bool, true, false, List, [], ◌∷◌, ◌++◌, length, take, drop, Option, Some, None, MatchOption, Result, Ok, Err, IfSome, IsSome, is_some, if◌then◌else◌, refl, sym, ◌∙◌, ap, subst, arith}
use Rattle.std.specs.List.{AllByRecursion}
use Rattle.std.proofs.lemmas.List.{append_assoc, append-nil, length-append, length-map, length-take-le, take-append-drop}
use Rattle.camp_object.specs.Objects.{Sequential, IsLawfulObject, begun}
use Rattle.camp_object.specs.Histories.{IsBeginning, IsLegal, IsAnswered, own, replay}
use Rattle.camp_object.specs.Asking.{Accepts, AddsNothing, Ask}
use Rattle.camp_object.proofs.Asks.{ask_done, ask_memory, ask_since}
use Rattle.camp_object.proofs.Beginnings.{begins_self, begins_append, begins_through, length-beginning}
use Rattle.camp_object.proofs.Replays.{length-own-within, own_other, replay_more}
use Rattle.camp_member.specs.Decisions.{AreDecided, IsDecided}
use Rattle.camp_member.specs.Entries.{Tagged, number_in}
use Rattle.camp_member.specs.Members.{Membership, as_answer, member_caller, calls_asked, under_way}
use Rattle.camp_member.specs.Readings.{IsReadFault, Reading, ReadsEntry, ReadsNew}
use Rattle.camp_member.specs.declared.faults.ReadFault.{ReadFault}
use Rattle.camp_member.specs.declared.faults.ReadFault.TheVariants.{Memory, OutOfOrder, Foreign}
use Rattle.camp_member.specs.Telling.{AreAnsweredFrom, MemberAdvances, IsAnsweredAt, AnsweredRequest, accepted_in, answers_in, is_done, requests_in}
use Rattle.camp_member.specs.Wanting.{FindsAt, FindsOther, FindsOwn, HasOwn, FitsEntry, StopsWhenForeign, given}
use Rattle.camp_member.specs.declared.requests.NoReply.{NoReply}
use Rattle.camp_member.specs.declared.requests.Request.{Request}

module _ {State Call Reply : Type 0} (object : Sequential State Call Reply) where
  -- a decision adds its call at most
  decision_grows : (old : List (ℕ × Call)) (request : ℕ × Call) (reply : Reply) (new : List (ℕ × Call)) → IsDecided object old request reply new → IsBeginning old new
  decision_grows old request reply new (inl took) = let P : List (ℕ × Call) → Type 0 = λ list. IsBeginning old list in subst P (sym took.1) (begins_append old (request ∷ []))
  decision_grows old request reply new (inr answered) = let P : List (ℕ × Call) → Type 0 = λ list. IsBeginning old list in subst P (sym answered.0) (begins_self old)

  decision_legal : (old : List (ℕ × Call)) (request : ℕ × Call) (reply : Reply) (new : List (ℕ × Call)) → IsDecided object old request reply new → IsLegal object old → IsLegal object new
  decision_legal old request reply new (inl took) legal = ap is_some (ap (replay object) took.1 ∙ replay_more object old request) ∙ took.0
  decision_legal old request reply new (inr answered) legal = let P : List (ℕ × Call) → Type 0 = λ list. IsLegal object list in subst P (sym answered.0) legal

  decision_other : (seat : ℕ) (old : List (ℕ × Call)) (request : ℕ × Call) (reply : Reply) (new : List (ℕ × Call)) → request.0 ≢ seat → IsDecided object old request reply new → own seat new ≡ own seat old
  decision_other seat old request reply new differs (inl took) = ap (own seat) took.1 ∙ own_other seat request.0 old request.1 differs
  decision_other seat old request reply new differs (inr answered) = ap (own seat) answered.0

  pub decided_grows : (old : List (ℕ × Call)) (seat : ℕ) (calls : List Call) (replies : List Reply) (new : List (ℕ × Call)) → AreDecided object old seat calls replies new → IsBeginning old new
  decided_grows old seat [] [] new decided = let P : List (ℕ × Call) → Type 0 = λ list. IsBeginning old list in subst P (sym decided) (begins_self old)
  decided_grows old seat [] (r ∷ replies) new decided = absurd decided
  decided_grows old seat (c ∷ calls) [] new decided = absurd decided
  decided_grows old seat (c ∷ calls) (r ∷ replies) new decided =
      begins_through (decision_grows old (seat, c) r decided.0 decided.1) (decided_grows decided.0 seat calls replies new decided.2)

  pub decided_others : (mine : ℕ) (old : List (ℕ × Call)) (seat : ℕ) (calls : List Call) (replies : List Reply) (new : List (ℕ × Call)) → seat ≢ mine → AreDecided object old seat calls replies new → own mine new ≡ own mine old
  decided_others mine old seat [] [] new differs decided = ap (own mine) decided
  decided_others mine old seat [] (r ∷ replies) new differs decided = absurd decided
  decided_others mine old seat (c ∷ calls) [] new differs decided = absurd decided
  decided_others mine old seat (c ∷ calls) (r ∷ replies) new differs decided =
      decided_others mine decided.0 seat calls replies new differs decided.2 ∙ decision_other mine old (seat, c) r decided.0 differs decided.1

  -- as many replies as calls
  pub decided_each : (old : List (ℕ × Call)) (seat : ℕ) (calls : List Call) (replies : List Reply) (new : List (ℕ × Call)) → AreDecided object old seat calls replies new → length replies ≡ length calls
  decided_each old seat [] [] new decided = refl
  decided_each old seat [] (r ∷ replies) new decided = absurd decided
  decided_each old seat (c ∷ calls) [] new decided = absurd decided
  decided_each old seat (c ∷ calls) (r ∷ replies) new decided = let further = decided_each decided.0 seat calls replies new decided.2 in omega arith

  -- the reply of an object to a call that changes nothing
  pub answer_asks : IsLawfulObject object → (seat : ℕ) (seen : List (ℕ × Call)) (call : Call) (reply : Reply) → IsLegal object seen → IsAnswered object seen call reply → Ask object (member_caller seat) seen call (Ok reply) seen
  answer_asks lawful seat seen call reply legal answered =
      let adds : AddsNothing (member_caller seat) seen seen = record { own_stays = refl; exact = λ alone. cc } in
      let P : Option ℕ → Type 0 = λ told. MatchOption told (AddsNothing (member_caller seat) seen seen × IsAnswered object seen call reply) (λ at. Accepts (member_caller seat) seen call at seen) in
      record {
        grows = begins_self seen;
        legal = legal;
        says = subst P (sym (lawful.tells_none answered.state call reply answered.gives)) (adds, answered);
      }

  -- the reply to a call where it is decided
  decision_asks : IsLawfulObject object → (seat : ℕ) (old : List (ℕ × Call)) (call : Call) (reply : Reply) (new : List (ℕ × Call)) → IsLegal object old → length new < 2 ^ 64
      → IsDecided object old (seat, call) reply new → Ask object (member_caller seat) old call (Ok reply) new
  decision_asks lawful seat old call reply new legal room (inl took) =
      let within = length-own-within seat old in
      let size = ap length took.1 in
      let parts = length-append old ((seat, call) ∷ []) in
      ask_done object lawful (member_caller seat) old old new call (length new) reply (begins_self old) refl took.0 (λ _. omega (arith, within, room, size, parts)) (λ alone. cc) took.1 refl took.2
  decision_asks lawful seat old call reply new legal room (inr answered) =
      let P : List (ℕ × Call) → Type 0 = λ list. Ask object (member_caller seat) old call (Ok reply) list in
      subst P (sym answered.0) (answer_asks lawful seat old call reply legal answered.1)

  -- without a reply nothing is added
  pub no_reply_asks : (seat : ℕ) (seen : List (ℕ × Call)) (call : Call) (why : NoReply) → IsLegal object seen → Ask object (member_caller seat) seen call (as_answer (Err why)) seen
  no_reply_asks seat seen call why legal = ask_memory object (member_caller seat) seen seen call (begins_self seen) (record { own_stays = refl; exact = λ alone. cc }) legal

  -- requests with their replies, where their calls are decided one after another
  pub told_of : (old : List (ℕ × Call)) (seat : ℕ) (requests : List (Request Call)) (replies : List Reply) (new : List (ℕ × Call)) → AreDecided object old seat (calls_asked requests) replies new → List (AnsweredRequest Call Reply)
  told_of old seat [] [] new decided = []
  told_of old seat [] (r ∷ replies) new decided = absurd decided
  told_of old seat (q ∷ requests) [] new decided = absurd decided
  told_of old seat (q ∷ requests) (r ∷ replies) new decided = record { request = q; answer = Ok r; history = decided.0 } ∷ told_of decided.0 seat requests replies new decided.2

  pub told_of-requests : (old : List (ℕ × Call)) (seat : ℕ) (requests : List (Request Call)) (replies : List Reply) (new : List (ℕ × Call)) (decided : AreDecided object old seat (calls_asked requests) replies new)
      → requests_in (told_of old seat requests replies new decided) ≡ requests
  unfolding told_of
  told_of-requests old seat [] [] new decided = refl
  told_of-requests old seat [] (r ∷ replies) new decided = absurd decided
  told_of-requests old seat (q ∷ requests) [] new decided = absurd decided
  told_of-requests old seat (q ∷ requests) (r ∷ replies) new decided = ap (λ list. q ∷ list) (told_of-requests decided.0 seat requests replies new decided.2)

  pub told_of-given : (answers : List (ℕ × Result Reply NoReply)) (rest : List (Request Call)) (old : List (ℕ × Call)) (seat : ℕ) (requests : List (Request Call)) (replies : List Reply) (new : List (ℕ × Call)) (decided : AreDecided object old seat (calls_asked requests) replies new)
      → given answers (requests ++ rest) replies ≡ (answers ++ answers_in (told_of old seat requests replies new decided), rest)
  unfolding told_of
  told_of-given answers rest old seat [] [] new decided = ap (λ list. (list, rest)) (sym (append-nil answers))
  told_of-given answers rest old seat [] (r ∷ replies) new decided = absurd decided
  told_of-given answers rest old seat (q ∷ requests) [] new decided = absurd decided
  told_of-given answers rest old seat (q ∷ requests) (r ∷ replies) new decided =
      told_of-given (answers ++ (q.id, Ok r) ∷ []) rest decided.0 seat requests replies new decided.2
      ∙ ap (λ list. (list, rest)) (append_assoc answers ((q.id, Ok r) ∷ []) (answers_in (told_of decided.0 seat requests replies new decided.2)))

  pub told_of-are : IsLawfulObject object → (base : ℕ) (old : List (ℕ × Call)) (seat : ℕ) (requests : List (Request Call)) (replies : List Reply) (new : List (ℕ × Call)) (decided : AreDecided object old seat (calls_asked requests) replies new)
      → IsLegal object old → length new < 2 ^ 64 → base ≤ length old → AllByRecursion (λ request. request.at_least ≤ base) requests
      → AreAnsweredFrom object (λ _ _. ⊥) seat old (told_of old seat requests replies new decided) new
  unfolding told_of
  told_of-are lawful base old seat [] [] new decided legal room within ready =
      let P : List (ℕ × Call) → Type 0 = λ list. IsBeginning old list × (own seat list ≡ own seat old) in subst P (sym decided) (begins_self old, refl)
  told_of-are lawful base old seat [] (r ∷ replies) new decided legal room within ready = absurd decided
  told_of-are lawful base old seat (q ∷ requests) [] new decided legal room within ready = absurd decided
  told_of-are lawful base old seat (q ∷ requests) (r ∷ replies) new decided legal room within ready =
      let between = decided.0 in
      let further = length-beginning (decided_grows between seat (calls_asked requests) replies new decided.2) in
      let grows = length-beginning (decision_grows old (seat, q.call) r between decided.1) in
      let first = ready.0 in (
        record {
          asks = decision_asks lawful seat old q.call r between legal (omega (arith, further, room)) decided.1;
          at_least = omega (arith, first, within, grows);
          why = tt;
        },
        told_of-are lawful base between seat requests replies new decided.2 (decision_legal old (seat, q.call) r between decided.1 legal) room (omega (arith, within, grows)) ready.1,
      )

  -- answers after answers
  pub told-append : (may : Request Call → NoReply → Type 0) (seat : ℕ) (one : List (ℕ × Call)) (told : List (AnsweredRequest Call Reply)) (two : List (ℕ × Call)) (more : List (AnsweredRequest Call Reply)) (three : List (ℕ × Call))
      → IsLegal object two → AreAnsweredFrom object may seat one told two → AreAnsweredFrom object may seat two more three → AreAnsweredFrom object may seat one (told ++ more) three
  told-append may seat one [] two [] three legal first second = (begins_through first.0 second.0, second.1 ∙ first.1)
  told-append may seat one [] two (next ∷ more) three legal first second = (told_since may seat one two next first.0 first.1 second.0, second.1)
    where
      told_since : (may : Request Call → NoReply → Type 0) (seat : ℕ) (one two : List (ℕ × Call)) (next : AnsweredRequest Call Reply) → IsBeginning one two → own seat two ≡ own seat one → IsAnsweredAt object may seat two next → IsAnsweredAt object may seat one next
      told_since may seat one two next begins stays told = record {
        asks = ask_since object (member_caller seat) next.request.call next.history one two refl begins stays (as_answer next.answer) told.asks;
        at_least = told.at_least;
        why = told.why;
      }
  told-append may seat one (next ∷ told) two more three legal first second = (first.0, told-append may seat next.history told two more three legal first.1 second)

  -- the calls of a seat in the history are those that were accepted, each once
  pub told_accepted : (may : Request Call → NoReply → Type 0) (seat : ℕ) (seen : List (ℕ × Call)) (told : List (AnsweredRequest Call Reply)) (now : List (ℕ × Call)) → AreAnsweredFrom object may seat seen told now → own seat now ≡ own seat seen ++ accepted_in object told
  told_accepted may seat seen [] now are = are.1 ∙ sym (append-nil (own seat seen))
  told_accepted may seat seen (one ∷ more) now are =
      told_accepted may seat one.history more now are.1
      ∙ ap (λ list. list ++ accepted_in object more) (told_adds seat seen one.request.call one.answer one.history are.0.asks)
      ∙ told_joins seat seen one more
    where
      added : Call → Result Reply NoReply → List Call
      added call answer = if is_done object answer then call ∷ [] else []

      told_adds : (seat : ℕ) (seen : List (ℕ × Call)) (call : Call) (answer : Result Reply NoReply) (history : List (ℕ × Call)) → Ask object (member_caller seat) seen call (as_answer answer) history → own seat history ≡ own seat seen ++ added call answer
      told_adds seat seen call (Ok reply) history ask =
          (elim (object.done_at reply) as (λ told. MatchOption told (AddsNothing (member_caller seat) seen history × IsAnswered object history call reply) (λ at. Accepts (member_caller seat) seen call at history) → own seat history ≡ own seat seen ++ (if is_some told then call ∷ [] else [])) [
            | None ↦ λ says. says.0.own_stays ∙ sym (append-nil (own seat seen))
            | Some at ↦ λ says. says.own_grows
          ]) ask.says
      told_adds seat seen call (Err why) history ask = ask.says.own_stays ∙ sym (append-nil (own seat seen))

      told_joins : (seat : ℕ) (seen : List (ℕ × Call)) (one : AnsweredRequest Call Reply) (more : List (AnsweredRequest Call Reply)) → (own seat seen ++ added one.request.call one.answer) ++ accepted_in object more ≡ own seat seen ++ accepted_in object (one ∷ more)
      told_joins seat seen one more =
          append_assoc (own seat seen) (added one.request.call one.answer) (accepted_in object more)
          ∙ ap (λ list. own seat seen ++ list) (
          elim (is_done object one.answer) as (λ (b : Bool). (if b then one.request.call ∷ [] else []) ++ accepted_in object more ≡ (if b then one.request.call ∷ accepted_in object more else accepted_in object more)) [
            | true ↦ refl
            | false ↦ refl
          ]
          )

  -- a batch stays one where more was read
  pub batch_stays : (old new : List (ℕ × Call)) (requests : List (Request Call)) → length old ≤ length new → FitsEntry object old requests → FitsEntry object new requests
  batch_stays old new requests longer batch = record { some = batch.some; few = batch.few; writing = batch.writing; ready = ready_still requests batch.ready }
    where
      ready_still : (requests : List (Request Call)) → AllByRecursion (λ request. request.at_least ≤ length old) requests → AllByRecursion (λ request. request.at_least ≤ length new) requests
      ready_still [] ready = tt
      ready_still (q ∷ requests) ready = let first = ready.0 in (omega (arith, first, longer), ready_still requests ready.1)

  -- and where histories begin with another state
  pub batch_begun : (first : State) (history : List (ℕ × Call)) (requests : List (Request Call)) (sent : ℕ) → (0 < sent → FitsEntry object history requests) → 0 < sent → FitsEntry (begun object first) history requests
  batch_begun first history requests sent batch some = let is = batch some in record { some = is.some; few = is.few; writing = is.writing; ready = is.ready }

  -- what is read extends the history
  pub reads_grow : (old new : Reading State Call) (found : Option (Tagged Call)) (replies : List Reply) → IfSome found (λ entry. ReadsEntry object old entry replies new) → IsSome found → IsBeginning old.history new.history
  reads_grow old new None replies reads some = cc
  reads_grow old new (Some entry) replies reads some =
      elim reads.effect as (λ _. IsBeginning old.history new.history) [
        | inl effect ↦ decided_grows old.history entry.seat entry.calls replies new.history effect.decides.decided
        | inr effect ↦ (let P : List (ℕ × Call) → Type 0 = λ list. IsBeginning old.history list in subst P (sym effect.history) (begins_self old.history))
      ]

  -- no more replies than calls
  pub replies_fit : (old new : Reading State Call) (found : Option (Tagged Call)) (replies : List Reply) (requests : List (Request Call)) → IfSome found (λ entry. ReadsEntry object old entry replies new) → IsSome found
      → IfSome found (λ entry. entry.calls ≡ calls_asked requests) → length replies ≤ length requests
  replies_fit old new None replies requests reads some calls = cc
  replies_fit old new (Some entry) replies requests reads some calls =
      let size = ap length calls ∙ length-map requests (λ (request : Request Call). request.call) in
      elim reads.effect as (λ _. length replies ≤ length requests) [
        | inl effect ↦ (let each = decided_each old.history entry.seat entry.calls replies new.history effect.decides.decided in omega (arith, size, each))
        | inr effect ↦ (let none = ap length effect.none in omega (arith, none))
      ]

module _ {State Call Reply : Type 0} (object : Sequential State Call Reply) (old new : Membership State Call Reply) (index : ℕ) where
  pub finds_own : (found : Option (Tagged Call)) (replies : List Reply) → index ≡ old.reading.index → old.is_stopped ≡ false → HasOwn object old found → IfSome found (λ entry. entry.calls ≡ under_way old)
      → IfSome found (λ entry. ReadsEntry object old.reading entry replies new.reading) → IsSome found → new.seat ≡ old.seat → new.is_stopped ≡ old.is_stopped → new.sent ≡ 0
      → (new.answers, new.waiting) ≡ given old.answers old.waiting replies → FindsAt object old index found (Ok tt) new
  finds_own None replies at reads own calls read some seat is_stopped sent gives = cc
  finds_own (Some entry) replies at reads own calls read some seat is_stopped sent gives =
      inr (at, reads, record { replies = replies; reads = read; seat = seat; is_stopped = is_stopped; effect = inl (record { own = own; calls = calls; given = gives; sent = sent }) }, some)

  pub finds_other : (found : Option (Tagged Call)) (replies : List Reply) → index ≡ old.reading.index → old.is_stopped ≡ false → ¬ (HasOwn object old found)
      → IfSome found (λ entry. ReadsEntry object old.reading entry replies new.reading) → IsSome found → new.seat ≡ old.seat → new.is_stopped ≡ old.is_stopped → new.sent ≡ old.sent
      → new.answers ≡ old.answers → new.waiting ≡ old.waiting → FindsAt object old index found (Ok tt) new
  finds_other None replies at reads other read some seat is_stopped sent answers waiting = cc
  finds_other (Some entry) replies at reads other read some seat is_stopped sent answers waiting =
      inr (at, reads, record { replies = replies; reads = read; seat = seat; is_stopped = is_stopped; effect = inr (record { other = other; answers = answers; waiting = waiting; sent = sent }) }, some)

  pub finds_fault : (found : Option (Tagged Call)) (why : ReadFault) → index ≡ old.reading.index → IsReadFault old.reading index found why → StopsWhenForeign object why old new → FindsAt object old index found (Err why) new
  finds_fault found Memory at is stops = stops
  finds_fault found (OutOfOrder next) at is stops = absurd (is.1 at)
  finds_fault found (Foreign where_it_is) at is stops = (is.0, is.1, stops, inr (inl is.2))

  goes_same : new.seat ≡ old.seat → new.reading ≡ old.reading → new.answers ≡ old.answers → new.waiting ≡ old.waiting → (may : Request Call → NoReply → Type 0) → MemberAdvances object may old new
  goes_same seat reading answers waiting may = record {
    told = [];
    seat = seat;
    first = ap (λ (r : Reading State Call). r.first) reading;
    answers = answers ∙ sym (append-nil old.answers);
    waiting = sym waiting;
    are =
        let P : Reading State Call → Type 0 = λ r. IsBeginning old.reading.history r.history × (own old.seat r.history ≡ own old.seat old.reading.history) in
        subst P (sym reading) (begins_self old.reading.history, refl);
  }

  pub goes_unchanged : new ≡ old → (may : Request Call → NoReply → Type 0) → MemberAdvances object may old new
  goes_unchanged same may = goes_same (ap (λ (m : Membership State Call Reply). m.seat) same) (ap (λ (m : Membership State Call Reply). m.reading) same) (ap (λ (m : Membership State Call Reply). m.answers) same) (ap (λ (m : Membership State Call Reply). m.waiting) same) may

  -- an entry of others, or one that was read before
  goes_other : (entry : Tagged Call) (replies : List Reply) → ReadsEntry object old.reading entry replies new.reading → new.seat ≡ old.seat → FindsOther object old entry new → MemberAdvances object (λ _ _. ⊥) old new
  goes_other entry replies reads seat found = record {
    told = [];
    seat = seat;
    first = reads.first;
    answers = found.answers ∙ sym (append-nil old.answers);
    waiting = sym found.waiting;
    are =
        elim reads.effect as (λ _. IsBeginning old.reading.history new.reading.history × (own old.seat new.reading.history ≡ own old.seat old.reading.history)) [
          | inl effect ↦ (
            decided_grows object old.reading.history entry.seat entry.calls replies new.reading.history effect.decides.decided,
            decided_others object old.seat old.reading.history entry.seat entry.calls replies new.reading.history (
                λ same.
                let number = effect.counts.1 in
                let last = ap (number_in old.reading.numbers) same in
                found.other (same, omega (arith, number, last))
                ) effect.decides.decided,
          )
          | inr effect ↦ (
            (let P : List (ℕ × Call) → Type 0 = λ list. IsBeginning old.reading.history list in subst P (sym effect.history) (begins_self old.reading.history)),
            ap (own old.seat) effect.history,
          )
        ];
  }

  -- the entry of the member itself
  goes_own : IsLawfulObject object → IsLegal object old.reading.history → length new.reading.history < 2 ^ 64 → old.sent ≤ length old.waiting → (0 < old.sent → FitsEntry object old.reading.history (take old.sent old.waiting))
      → (entry : Tagged Call) (replies : List Reply) → ReadsEntry object old.reading entry replies new.reading → new.seat ≡ old.seat → FindsOwn object old entry replies new → MemberAdvances object (λ _ _. ⊥) old new
  goes_own lawful legal room within batch entry replies reads seat found =
      elim reads.effect as (λ _. MemberAdvances object (λ _ _. ⊥) old new) [
        | inl effect ↦ goes_new effect
        | inr effect ↦ (
            let number = found.own.1 in
            let below = effect.repeated.1 in
            let last = ap (number_in old.reading.numbers) found.own.0 in
            absurd (omega (arith, number, below, last))
            )
      ]
    where
      goes_new : ReadsNew object old.reading entry replies new.reading → MemberAdvances object (λ _ _. ⊥) old new
      goes_new effect =
          let T : ℕ × List Call → Type 0 = λ t. AreDecided object old.reading.history t.0 t.1 replies new.reading.history in
          let decided : AreDecided object old.reading.history old.seat (calls_asked (take old.sent old.waiting)) replies new.reading.history = subst T (λ i. (found.own.0 i, found.calls i)) effect.decides.decided in
          let whole : take old.sent old.waiting ++ drop old.sent old.waiting ≡ old.waiting = take-append-drop old.sent old.waiting in
          let some = effect.counts.0.some in
          let size = ap length found.calls ∙ length-map (take old.sent old.waiting) (λ (request : Request Call). request.call) in
          let few = length-take-le old.sent old.waiting within in
          let ready = (batch (omega (arith, some, size, few))).ready in
          let told = told_of object old.reading.history old.seat (take old.sent old.waiting) replies new.reading.history decided in
          let both : (new.answers, new.waiting) ≡ (old.answers ++ answers_in told, drop old.sent old.waiting) =
          found.given
          ∙ ap (λ list. given old.answers list replies) (sym whole)
          ∙ told_of-given object old.answers (drop old.sent old.waiting) old.reading.history old.seat (take old.sent old.waiting) replies new.reading.history decided
          in
          record {
            told = told;
            seat = seat;
            first = reads.first;
            answers = ap (λ (pair : List (ℕ × Result Reply NoReply) × List (Request Call)). pair.0) both;
            waiting =
                sym whole
                ∙ ap (λ list. list ++ drop old.sent old.waiting) (sym (told_of-requests object old.reading.history old.seat (take old.sent old.waiting) replies new.reading.history decided))
                ∙ ap (λ (pair : List (ℕ × Result Reply NoReply) × List (Request Call)). requests_in told ++ pair.1) (sym both);
            are = told_of-are object lawful (length old.reading.history) old.reading.history old.seat (take old.sent old.waiting) replies new.reading.history decided legal room (omega arith) ready;
          }

  pub finds_goes : IsLawfulObject object → IsLegal object old.reading.history → length new.reading.history < 2 ^ 64 → old.sent ≤ length old.waiting → (0 < old.sent → FitsEntry object old.reading.history (take old.sent old.waiting))
      → (found : Option (Tagged Call)) (result : Result (Unit {0}) ReadFault) → FindsAt object old index found result new → MemberAdvances object (λ _ _. ⊥) old new
  finds_goes lawful legal room within batch found (Ok done) (inl before) = goes_unchanged before.1 (λ _ _. ⊥)
  finds_goes lawful legal room within batch None (Ok done) (inr finds) = let none = finds.3 in cc
  finds_goes lawful legal room within batch (Some entry) (Ok done) (inr finds) =
      elim finds.2.effect as (λ _. MemberAdvances object (λ _ _. ⊥) old new) [
        | inl own ↦ goes_own lawful legal room within batch entry finds.2.replies finds.2.reads finds.2.seat own
        | inr other ↦ goes_other entry finds.2.replies finds.2.reads finds.2.seat other
      ]
  finds_goes lawful legal room within batch found (Err Memory) finds = goes_unchanged finds (λ _ _. ⊥)
  finds_goes lawful legal room within batch found (Err (OutOfOrder next)) finds = goes_unchanged finds.2 (λ _ _. ⊥)
  finds_goes lawful legal room within batch found (Err (Foreign at)) finds =
      goes_same (ap (λ (m : Membership State Call Reply). m.seat) finds.2) (ap (λ (m : Membership State Call Reply). m.reading) finds.2) (ap (λ (m : Membership State Call Reply). m.answers) finds.2)
      (ap (λ (m : Membership State Call Reply). m.waiting) finds.2) (λ _ _. ⊥)
