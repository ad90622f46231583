-- Lemmas on histories: their replay, and the calls of one seat in them.
use Rattle.std.proofs.Common.{◌≡◌, ℕ, ◌+◌, Bool, true, false, List, [], ◌∷◌, ◌++◌, length, All, suc, ◌≤◌, Option, None, Some, refl, sym, ◌∙◌, ap, arith, IsSome, is_some, ◌==◌, ◌≢◌, eq-eqb, if◌then◌else◌}
use Rattle.std.specs.Option.{option_and_then}
use Rattle.std.proofs.lemmas.Bool.{ne_eqb}
use Rattle.std.proofs.lemmas.Option.{option_and_then_some, same_Some}
use Rattle.std.proofs.lemmas.List.{append-nil}
use Rattle.std.proofs.lemmas.List.Elements.{All-tail}
use Rattle.camp_object.specs.Objects.{Sequential, IsFirst, IsLawfulObject, begun}
use Rattle.camp_object.specs.Histories.{IsBeginning, run, replay, IsLegal, IsAccepted, own}

pub run-none : {State Call Reply : Type 0} (object : Sequential State Call Reply) (history : List (ℕ × Call)) → run object None history ≡ None
run-none object [] = refl
run-none object (entry ∷ history) = run-none object history

pub run-append : {State Call Reply : Type 0} (object : Sequential State Call Reply) (state : Option State) (one two : List (ℕ × Call)) → run object state (one ++ two) ≡ run object (run object state one) two
run-append object state [] two = refl
run-append object state (entry ∷ one) two = run-append object (option_and_then (λ s. object.after s entry.1) state) one two

-- what holds of an object holds of it where its histories begin with another state
pub begun_lawful : {State Call Reply : Type 0} (object : Sequential State Call Reply) → IsLawfulObject object → (first : State) → IsFirst object first → IsLawfulObject (begun object first)
begun_lawful object lawful first is = record {
  starts = is.none_yet;
  counts = lawful.counts;
  begins = is.itself;
  stays = lawful.stays;
  writes = lawful.writes;
  tells = lawful.tells;
  tells_exactly = lawful.tells_exactly;
  tells_none = lawful.tells_none;
}

-- a history can begin with the first state of each object
pub initial_first : {State Call Reply : Type 0} (object : Sequential State Call Reply) → IsLawfulObject object → IsFirst object object.initial
initial_first object lawful = record { none_yet = lawful.starts; itself = lawful.begins }

-- a state that is there began with this one
abbrev BeganWith : {State Call Reply : Type 0} → Sequential State Call Reply → State → Option State → Type 0
BeganWith {State} object first option = (state : State) → option ≡ Some state → object.first state ≡ first

run_began : {State Call Reply : Type 0} (object : Sequential State Call Reply) → IsLawfulObject object → (first : State) (from : Option State) (history : List (ℕ × Call))
    → BeganWith object first from → BeganWith object first (run object from history)
run_began object lawful first from [] began = began
run_began object lawful first from (entry ∷ history) began =
    run_began object lawful first (option_and_then (λ s. object.after s entry.1) from) history (
    λ next is. option_and_then_some (λ s. object.after s entry.1) from next is (
    λ state at gives. lawful.stays state entry.1 next gives ∙ began state at
    )
    )

-- the state that a history leads to determines the state that it began with
pub replay_began : {State Call Reply : Type 0} (object : Sequential State Call Reply) → IsLawfulObject object → (first : State) → IsFirst object first → (history : List (ℕ × Call)) (state : State) → replay (begun object first) history ≡ Some state → object.first state ≡ first
replay_began {Call} object lawful first is history state replays =
    run_began (begun object first) (begun_lawful object lawful first is) first (Some first) history (λ s at. ap object.first (same_Some s first (sym at)) ∙ is.itself) state replays

-- one more call
pub replay_more : {State Call Reply : Type 0} (object : Sequential State Call Reply) (history : List (ℕ × Call)) (entry : ℕ × Call) → replay object (history ++ entry ∷ []) ≡ option_and_then (λ s. object.after s entry.1) (replay object history)
replay_more object history entry = run-append object (Some object.initial) history (entry ∷ [])

pub replay_accepted : {State Call Reply : Type 0} (object : Sequential State Call Reply) (history : List (ℕ × Call)) (entry : ℕ × Call) (state next : State) → replay object history ≡ Some state → object.after state entry.1 ≡ Some next → replay object (history ++ entry ∷ []) ≡ Some next
replay_accepted object history entry state next replays accepts =
    replay_more object history entry ∙ ap (option_and_then (λ s. object.after s entry.1)) replays ∙ accepts

pub some_is_some : {A : Type 0} {option : Option A} {value : A} → option ≡ Some value → IsSome option
some_is_some {A} is = ap is_some is

pub accepted_at : {State Call Reply : Type 0} (object : Sequential State Call Reply) (history : List (ℕ × Call)) (call : Call) (state next : State) → replay object history ≡ Some state → object.after state call ≡ Some next → IsAccepted object history call
accepted_at object history call state next replays accepts =
    some_is_some (ap (option_and_then (λ s. object.after s call)) replays ∙ accepts)

-- the state after a legal history
pub state_of_legal : {A : Type 0} (option : Option A) → IsSome option → (value : A) × (option ≡ Some value)
state_of_legal None is = cc
state_of_legal (Some value) is = (value, refl)

-- a prefix of a legal history is legal
run_from_some : {State Call Reply : Type 0} (object : Sequential State Call Reply) (state : Option State) (rest : List (ℕ × Call)) → IsSome (run object state rest) → IsSome state
run_from_some object None rest legal = sym (ap is_some (run-none object rest)) ∙ legal
run_from_some object (Some state) rest legal = refl

pub legal_front : {State Call Reply : Type 0} (object : Sequential State Call Reply) {beginning whole : List (ℕ × Call)} → IsBeginning beginning whole → IsLegal object whole → IsLegal object beginning
legal_front object {beginning = beginning} {whole = whole} begins legal =
    run_from_some object (replay object beginning) begins.rest (
    ap is_some (sym (run-append object (Some object.initial) beginning begins.rest) ∙ ap (replay object) begins.makes) ∙ legal
    )

-- a state counts the calls that led to it
run_counts : {State Call Reply : Type 0} (object : Sequential State Call Reply) → IsLawfulObject object → (from : Option State) (before : ℕ) (history : List (ℕ × Call)) (to : State)
    → ((state : State) → from ≡ Some state → object.count state ≡ before) → run object from history ≡ Some to → object.count to ≡ before + length history
run_counts object lawful from before [] to counts leads = let at = counts to leads in omega arith
run_counts object lawful from before (entry ∷ history) to counts leads =
    let further = run_counts object lawful (option_and_then (λ s. object.after s entry.1) from) (before + 1) history to (
    λ next is. option_and_then_some (λ s. object.after s entry.1) from next is (
    λ state at gives. let one = lawful.counts state entry.1 next gives in let here = counts state at in omega arith
    )
    ) leads in
    omega arith

pub count-replay : {State Call Reply : Type 0} (object : Sequential State Call Reply) → IsLawfulObject object → (history : List (ℕ × Call)) (state : State) → replay object history ≡ Some state → object.count state ≡ length history
count-replay object lawful history state replays =
    let counts = run_counts object lawful (Some object.initial) 0 history state (λ first is. ap object.count (same_Some first object.initial (sym is)) ∙ lawful.starts) replays in omega arith

pub own-append : {Call : Type 0} (seat : ℕ) (one two : List (ℕ × Call)) → own seat (one ++ two) ≡ own seat one ++ own seat two
own-append seat [] two = refl
own-append seat (entry ∷ one) two =
    elim (entry.0 == seat) as (λ b. (if b then entry.1 ∷ own seat (one ++ two) else own seat (one ++ two)) ≡ (if b then entry.1 ∷ own seat one else own seat one) ++ own seat two) [
      | true ↦ ap (λ calls. entry.1 ∷ calls) (own-append seat one two)
      | false ↦ own-append seat one two
    ]

-- a call of the seat itself
pub own_mine : {Call : Type 0} (seat : ℕ) (history : List (ℕ × Call)) (call : Call) → own seat (history ++ (seat, call) ∷ []) ≡ own seat history ++ call ∷ []
own_mine seat history call =
    own-append seat history ((seat, call) ∷ []) ∙ ap (λ (b : Bool). own seat history ++ (if b then call ∷ [] else [])) (eq-eqb seat seat refl)

-- a call of another seat
pub own_other : {Call : Type 0} (seat other : ℕ) (history : List (ℕ × Call)) (call : Call) → other ≢ seat → own seat (history ++ (other, call) ∷ []) ≡ own seat history
own_other seat other history call differ =
    own-append seat history ((other, call) ∷ []) ∙ ap (λ (b : Bool). own seat history ++ (if b then call ∷ [] else [])) (ne_eqb other seat differ) ∙ append-nil (own seat history)

-- a seat has no more calls than there are
pub length-own-within : {Call : Type 0} (seat : ℕ) (history : List (ℕ × Call)) → length (own seat history) ≤ length history
length-own-within seat [] = omega arith
length-own-within seat (entry ∷ history) =
    let further = length-own-within seat history in
    elim (entry.0 == seat) as (λ b. length (if b then entry.1 ∷ own seat history else own seat history) ≤ length (entry ∷ history)) [
      | true ↦ omega arith
      | false ↦ omega arith
    ]

-- and as many where no other seat has one
pub length-own-all : {Call : Type 0} (seat : ℕ) (history : List (ℕ × Call)) → All (λ entry. entry.0 ≡ seat) history → length (own seat history) ≡ length history
length-own-all seat [] all = refl
length-own-all seat (entry ∷ history) all =
    let here : entry.0 ≡ seat = all 0 entry (omega arith) in
    let further = length-own-all seat history (All-tail (λ entry. entry.0 ≡ seat) entry history all) in
    ap (λ (b : Bool). length (if b then entry.1 ∷ own seat history else own seat history)) (eq-eqb entry.0 seat here) ∙ ap suc further
