-- Runs of several sections of calls over one object; section k is asked at seat k.
use Rattle.std.specs.Prelude.{◌≡◌, ℕ, ◌+◌, ◌<◌, List, [], ◌∷◌, length, map, slice_index_or, Option}
use Rattle.std.specs.Prelude.{Result, Ok, Err, MatchOption, Vec, vec_items}
use Rattle.std.specs.List.{All, AllZip}
use Rattle.camp_object.specs.Histories.{IsBeginning, IsAnswered, IsLegal}
use Rattle.camp_object.specs.Objects.{Sequential}
use Rattle.camp_object.specs.declared.faults.Fault.{Fault}
use Rattle.camp_clients.specs.Answers.{SaysAmongThreads, SaysAlone, reported_position}
use Rattle.camp_clients.specs.Positions.{own_at, done_at}
use Rattle.camp_clients.specs.Sections.{Section}

-- vectors, as the lists of their elements
abbrev pub lists_of : {X Z : Type 0} → List (Vec X Z) → List (List X)
lists_of vectors = map vec_items vectors

-- the section of a seat
abbrev pub section_of : {X : Type 0} → List (List X) → ℕ → List X
section_of sections seat = slice_index_or sections seat []

-- the calls of each seat in the history are those of its section that were accepted, in order, each at its position
abbrev pub OwnDone : {Call Answer : Type 0} → (Answer → Option ℕ) → List (List Call) → List (List Answer)
    → List (ℕ × Call) → Type 0
OwnDone reported_position sections answers history = (seat : ℕ) → seat < length sections →
    own_at seat 0 history ≡ done_at reported_position (section_of sections seat) (section_of answers seat)

-- `OwnDone` holds, and the history has no calls of other seats than those of the sections
pub record IsExactly {Call Answer : Type 0} (reported_position : Answer → Option ℕ) (sections : List (List Call))
    (answers : List (List Answer)) (history : List (ℕ × Call)) : Type 0 where
  pub own_done : OwnDone reported_position sections answers history
  pub no_other : All (λ entry. entry.0 < length sections) history

-- sections run one after the other, the first at seat `seat`, the next at `seat + 1`, and so on; the given relation
-- holds of each answer, at the seat of its section
abbrev pub InTurn : {Prefix Call Answer : Type 0} → (ℕ → Prefix → Call → Answer → Prefix → Type 0) → (seat : ℕ) → Prefix
    → List (List Call) → List (List Answer) → Prefix → Type 0
InTurn Says seat first [] [] last = first ≡ last
InTurn Says seat first [] (answers ∷ others) last = ⊥
InTurn Says seat first (calls ∷ sections) [] last = ⊥
InTurn {Prefix} Says seat first (calls ∷ sections) (answers ∷ others) last =
    (next : Prefix) × Section (Says seat) first calls answers next × InTurn Says (seat + 1) next sections others last

-- sections run one after the other, while nobody else asks
abbrev pub OneByOne : {State Call Reply : Type 0} → Sequential State Call Reply → (seat : ℕ) → List (ℕ × Call)
    → List (List Call) → List (List (Result Reply Fault)) → List (ℕ × Call) → Type 0
OneByOne object = InTurn (SaysAlone object)

-- an answer under a lock: the call was accepted, or it is the object's answer at some legal history
abbrev pub SaysSomewhere : {State Call Reply : Type 0} → Sequential State Call Reply → Call → Result Reply Fault
    → Type 0
SaysSomewhere {State} {Call} object call (Ok reply) =
    MatchOption (object.done_at reply) ((prefix : List (ℕ × Call)) × IsAnswered object prefix call reply) (λ at. Unit {0})
SaysSomewhere object call (Err fault) = ⊥

-- the answers to the opening, asked at seat 0 while nobody else asks; the history begins with its accepted calls
pub record HasOpening {State Call Reply : Type 0} (object : Sequential State Call Reply) (calls : List Call)
    (answers : List (Result Reply Fault)) (history : List (ℕ × Call)) : Type 0 where
  pub last : List (ℕ × Call)
  pub alone : Section (SaysAlone object 0) [] calls answers last
  pub within : IsBeginning last history

-- a run over a lock: it has one legal history of exactly the calls that were accepted; the history begins with the
-- accepted calls of the opening, which was asked alone
pub record IsLocked {State Call Reply : Type 0} (object : Sequential State Call Reply) (sections : List (List Call))
    (answers : List (List (Result Reply Fault))) (history : List (ℕ × Call)) : Type 0 where
  pub legal : IsLegal object history
  pub as_many : length answers ≡ length sections
  pub exactly : IsExactly (reported_position object) sections answers history
  pub opening : HasOpening object (section_of sections 0) (section_of answers 0) history
  pub clients : (seat : ℕ) → 0 < seat → seat < length sections →
      AllZip (SaysSomewhere object) (section_of sections seat) (section_of answers seat)

-- the answers to a section were given at growing prefixes of the history, the first of which begins with `first`
pub record HasPrefixes {State Call Reply : Type 0} (object : Sequential State Call Reply) (seat tries : ℕ)
    (first : List (ℕ × Call)) (calls : List Call) (answers : List (Result Reply Fault)) (history : List (ℕ × Call))
    : Type 0 where
  pub last : List (ℕ × Call)
  pub prefixes : Section (SaysAmongThreads object seat tries) first calls answers last
  pub within : IsBeginning last history

-- a run over a head: it has one legal history of exactly the calls that were accepted; the answers were given at
-- growing prefixes of it, from the empty prefix on for the opening, and from the opening's last prefix on for each
-- client
pub record IsShared {State Call Reply : Type 0} (object : Sequential State Call Reply) (tries : ℕ)
    (sections : List (List Call)) (answers : List (List (Result Reply Fault))) (history : List (ℕ × Call))
    : Type 0 where
  pub legal : IsLegal object history
  pub as_many : length answers ≡ length sections
  pub exactly : IsExactly (reported_position object) sections answers history
  pub opening : HasPrefixes object 0 tries [] (section_of sections 0) (section_of answers 0) history
  pub clients : (seat : ℕ) → 0 < seat → seat < length sections →
      HasPrefixes object seat tries opening.last (section_of sections seat) (section_of answers seat) history
