-- Lemmas on what a seat sees.
use Rattle.camp_history.proofs.Words.{◌≡◌, ℕ, ◌<◌, ◌≤◌, List, [], ◌∷◌, ◌++◌, length, map, All, Some, refl, sym, ◌∙◌, ap, subst, arith, ◌==◌, if◌then◌else◌, cond, filter, false, suc, true, entry_count, map_push, length-append, All-push, All-same, append_assoc, length-map, Sequential, IsLawfulObject, IsBeginning, replay, own, Entry, SeatState, seat_and_call, entry_and_call, IsMarkPrefix, most_listed, history_of, Mark, entry_of, SeesFurther, SeesMore, with_mark, made_of, HeadId, IsSeatOf, Shows, Where, Ok, Err, OnOk, OnErr, Result, own_other, count-replay, begun, IsFirst, replay_began, begins_self, begins_through, Based, All-weaker, IsNextEntry}
use Rattle.camp_object.specs.Deciding.{Decides}
use Rattle.camp_object.specs.declared.objects.Decided.{Decided}
use Rattle.camp_object.specs.declared.objects.Decided.TheVariants.{Answer, Next}
use Rattle.camp_row.specs.declared.trails.Next as trail

-- a seat has as many calls as it has entries
pub length-own : {Call : Type 0} (seat : ℕ) (marks : List (Mark Call)) → length (own seat (map seat_and_call marks)) ≡ entry_count seat (map entry_of marks)
length-own seat [] = refl
length-own seat (mark ∷ marks) =
    elim (mark.seat == seat) as (λ b. length (if b then mark.call.value ∷ own seat (map seat_and_call marks) else own seat (map seat_and_call marks)) ≡ length (cond b (entry_of mark ∷ filter (λ entry. entry.seat == seat) (map entry_of marks)) (filter (λ entry. entry.seat == seat) (map entry_of marks)))) [
      | true ↦ ap (λ n. suc n) (length-own seat marks)
      | false ↦ length-own seat marks
    ]

-- a list of marks with one more
module _ {Call : Type 0} (marks now : List (Mark Call)) (mark : Mark Call) (grows : now ≡ marks ++ mark ∷ []) where
  pub entries_more : (seen seen' : List Entry) → map entry_of marks ≡ seen → seen' ≡ seen ++ entry_of mark ∷ [] → map entry_of now ≡ seen'
  entries_more seen seen' entries_are more =
      ap (map entry_of) grows ∙ map_push entry_of marks mark ∙ ap (λ list. list ++ entry_of mark ∷ []) entries_are ∙ sym more

  pub history_more : map seat_and_call now ≡ map seat_and_call marks ++ seat_and_call mark ∷ []
  history_more = ap (map seat_and_call) grows ∙ map_push seat_and_call marks mark

  pub begins_more : IsMarkPrefix marks now
  begins_more = record { rest = entry_and_call mark ∷ []; makes = sym (ap (map entry_and_call) grows ∙ map_push entry_and_call marks mark) }

  pub all_more : (P : Mark Call → Type 0) → All P marks → P mark → All P now
  all_more P all here = All-same P now (marks ++ mark ∷ []) grows (All-push P marks mark all here)

pub sees_more_self : {State Call : Type 0} (seat : SeatState State Call) → SeesMore seat seat
sees_more_self seat = record { number = refl; row = refl; more = begins_self (history_of seat); own_stays = refl }

pub sees_more_more : {State Call : Type 0} {one two three : SeatState State Call} → SeesMore one two → SeesMore two three → SeesMore one three
sees_more_more {one = one} {two = two} {three = three} first second =
    record {
      number = second.number ∙ first.number;
      row = second.row ∙ first.row;
      more = begins_through first.more second.more;
      own_stays = ap (λ number. own number (history_of three)) (sym first.number) ∙ second.own_stays ∙ ap (λ number. own number (history_of two)) first.number ∙ first.own_stays;
    }

-- what a seat noted changes nothing of what it sees
pub sees_same : {State Call : Type 0} (old new now : SeatState State Call) → SeesMore old new → now.known ≡ new.known → now.marks ≡ new.marks → SeesMore old now
sees_same old new now more known marks = record {
  number = ap (λ known. known.number) known ∙ more.number;
  row = ap (λ known. known.row) known ∙ more.row;
  more = subst (λ marks. IsBeginning (history_of old) (map seat_and_call marks)) (sym marks) more.more;
  own_stays = ap (λ marks. own old.known.number (map seat_and_call marks)) marks ∙ more.own_stays;
}

pub sees_further_self : {State Call : Type 0} (head : HeadId State) (seat : SeatState State Call) → IsSeatOf head seat → SeesFurther head seat seat
sees_further_self head seat of = record { of = of; more = sees_more_self seat; ahead = refl }

pub sees_further_more : {State Call : Type 0} {head : HeadId State} {one two three : SeatState State Call} → SeesFurther head one two → SeesFurther head two three → SeesFurther head one three
sees_further_more first second = record { of = second.of; more = sees_more_more first.more second.more; ahead = second.ahead ∙ first.ahead }

-- a seat that saw the next call, which is of another seat, has seen further; and so has an unchanged one
pub next_seen : {State Call E : Type 0} (head : HeadId State) (old new : SeatState State Call) (next : trail.Next) (call : Where Call) (answer : Result (Unit {0}) E)
    → IsSeatOf head old → IsNextEntry old.known next → Shows head.store call
    → OnOk answer (new ≡ with_mark old (record { seat = next.entry.seat; call = call })) → OnErr answer (new ≡ old) → SeesFurther head old new
next_seen head old new next call (Err fault) of is_next shows ok err = subst (SeesFurther head old) (sym err) (sees_further_self head old of)
next_seen {Call = Call} head old new next call (Ok done) of is_next shows ok err =
    let mark : Mark Call = record { seat = next.entry.seat; call = call } in
    let grows : map seat_and_call (old.marks ++ mark ∷ []) ≡ history_of old ++ seat_and_call mark ∷ [] = map_push seat_and_call old.marks mark in
    let on : SeesFurther head old (with_mark old mark) = record {
      of = record { first = of.first; row = of.row; stored = All-push (λ mark. Shows head.store mark.call) old.marks mark of.stored shows; bases = of.bases };
      more = record {
        number = refl;
        row = refl;
        more = record { rest = seat_and_call mark ∷ []; makes = sym grows };
        own_stays = ap (own old.known.number) grows ∙ own_other old.known.number next.entry.seat (history_of old) call.value is_next.other;
      };
      ahead = refl;
    } in
    subst (SeesFurther head old) (sym ok) on

-- a list of marks is no longer than memory allows
pub few_marks : {State Call Reply : Type 0} (object : Sequential State Call Reply) → IsLawfulObject object → (front tail : List (Mark Call)) (state : State) (len cap : ℕ)
    → length front ≤ most_listed → (len ≡ length tail) × (len ≤ cap) → cap < 9223372036854775808 → replay object (map seat_and_call (front ++ tail)) ≡ Some state → object.count state < 18446744073709551615
few_marks object lawful front tail state len cap few ok small replays =
    let counts = count-replay object lawful (map seat_and_call (front ++ tail)) state replays in
    let same = length-map (front ++ tail) seat_and_call in
    let is = ok.0 in
    let fits = ok.1 in
    omega (arith, few, length-append front tail)

-- what an object decides does not depend on what its histories begin with
pub decides_begun : {State Call Reply : Type 0} (object : Sequential State Call Reply) (first state : State) (call : Call) (decided : Decided State Reply) → Decides object state call decided → Decides (begun object first) state call decided
decides_begun object first state call (Next next) decides = decides
decides_begun object first state call (Answer reply) decides = decides

-- the state with which a history began is the same, read from an earlier state or from its own
module _ {State Call Reply : Type 0} (object : Sequential State Call Reply) (lawful : IsLawfulObject object) (first : State) (is : IsFirst object first) (history : List (ℕ × Call)) (next : State)
    (leads : replay (begun object first) history ≡ Some next) where
  pub begins_same : object.first next ≡ first
  begins_same = replay_began object lawful first is history next leads

  pub next_first : IsFirst object (object.first next)
  next_first = subst (IsFirst object) (sym begins_same) is

  pub next_replays : replay (begun object (object.first next)) history ≡ Some next
  next_replays = subst (λ (state : State). replay (begun object state) history ≡ Some next) (sym begins_same) leads

-- snapshots that are prefixes of what was seen are prefixes of what is seen later
pub bases_begin : {Call : Type 0} (marks snapshot : List (Mark Call)) (bases : List (Based Call)) → IsMarkPrefix marks snapshot → All (λ base. IsMarkPrefix base.marks marks) bases → All (λ base. IsMarkPrefix base.marks snapshot) bases
bases_begin {Call} marks snapshot bases begins all =
    All-weaker (λ (base : Based Call). IsMarkPrefix base.marks marks) (λ (base : Based Call). IsMarkPrefix base.marks snapshot) (λ base front. begins_through front begins) bases all

-- one more mark after the last
pub one_more : {Call : Type 0} (front tail now : List (Mark Call)) (mark : Mark Call) → now ≡ tail ++ mark ∷ [] → front ++ now ≡ (front ++ tail) ++ mark ∷ []
one_more front tail now mark is = ap (λ list. front ++ list) is ∙ sym (append_assoc front tail (mark ∷ []))

-- the marks of all that a seat has seen, and of a call of its own
pub marks_with : {State Call : Type 0} (seat : SeatState State Call) (front tail now : List (Mark Call)) (mark : Mark Call) (call : Where Call) → front ++ tail ≡ seat.marks → now ≡ tail ++ mark ∷ [] → mark.seat ≡ seat.known.number → mark.call ≡ call → front ++ now ≡ made_of seat call
marks_with seat front tail now mark call all is number same =
    one_more front tail now mark is ∙ (λ k. all k ++ record { seat = number k; call = same k } ∷ [])
