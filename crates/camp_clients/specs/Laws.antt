-- The laws of runs.
use Rattle.std.specs.Prelude.{ℕ, ◌<◌, List, [], ◌∷◌, length, Result}
use Rattle.camp_object.specs.Histories.{IsLegal}
use Rattle.camp_object.specs.Objects.{Sequential}
use Rattle.camp_object.specs.declared.faults.Fault.{Fault}
use Rattle.camp_clients.specs.Answers.{StepsAlone}
use Rattle.camp_clients.specs.Runs.{HasOpening, InTurn, IsLocked, IsShared, OneByOne, section_of}

module _ {State Call Reply : Type 0} (object : Sequential State Call Reply) where
  -- a single section over a head has the answers and the history of a serial run
  abbrev pub SharedIsSerial : Type 0
  SharedIsSerial = (tries : ℕ) (calls : List Call) (answers : List (List (Result Reply Fault)))
      (history : List (ℕ × Call)) → 0 < tries → IsShared object tries (calls ∷ []) answers history
      → OneByOne object 0 [] (calls ∷ []) answers history

  -- a single section over a lock has the answers and the history of a serial run
  abbrev pub LockedIsSerial : Type 0
  LockedIsSerial = (calls : List Call) (answers : List (List (Result Reply Fault))) (history : List (ℕ × Call))
      → IsLocked object (calls ∷ []) answers history → OneByOne object 0 [] (calls ∷ []) answers history

  -- in a serial run whose history is legal, each call that is reported as accepted was accepted at the state after the
  -- calls before it
  abbrev pub DoneWasAccepted : Type 0
  DoneWasAccepted = (sections : List (List Call)) (answers : List (List (Result Reply Fault)))
      (history : List (ℕ × Call)) → IsLegal object history → OneByOne object 0 [] sections answers history
      → InTurn (StepsAlone object) 0 [] sections answers history

  -- the opening of a run over a head runs alone: the history begins with its accepted calls, in their order, without
  -- any other call between them
  abbrev pub OpeningIsAlone : Type 0
  OpeningIsAlone = (tries : ℕ) (sections : List (List Call)) (answers : List (List (Result Reply Fault)))
      (history : List (ℕ × Call)) → 0 < tries → 0 < length sections → IsShared object tries sections answers history
      → HasOpening object (section_of sections 0) (section_of answers 0) history
