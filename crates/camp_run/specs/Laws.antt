-- The laws of runs of scripts, whatever the limits of the repository.
use Rattle.std.specs.Prelude.{ℕ, ◌<◌, List, [], ◌∷◌, Result}
use Rattle.camp_object.specs.declared.faults.Fault.{Fault}
use Rattle.camp_call.specs.declared.calls.Call.{Call}
use Rattle.camp_call.specs.declared.replies.Reply.{Reply}
use Rattle.camp_object.specs.Histories.{IsLegal}
use Rattle.camp_clients.specs.Runs.{IsLocked, IsShared, OneByOne}
use Rattle.camp_repo.specs.Limits.{Bounds}
use Rattle.camp_repo.specs.Objects.{repository_within}
use Rattle.camp_run.specs.Serial.{IsSerial}

-- a script of one section has the same result over a lock as in one thread
abbrev pub LockedSectionIsSerial : Type 0
LockedSectionIsSerial = (limits : Bounds) (calls : List Call) (answers : List (List (Result Reply Fault))) (history : List (ℕ × Call))
    → IsLocked (repository_within limits) (calls ∷ []) answers history → IsSerial limits (calls ∷ []) answers history

-- a script of one section has the same result over a head, with any number of tries, as in one thread
abbrev pub SharedSectionIsSerial : Type 0
SharedSectionIsSerial = (limits : Bounds) (tries : ℕ) (calls : List Call) (answers : List (List (Result Reply Fault)))
    (history : List (ℕ × Call)) → 0 < tries → IsShared (repository_within limits) tries (calls ∷ []) answers history
    → IsSerial limits (calls ∷ []) answers history

-- if sections were asked one after the other and the history is legal, answers and history are those of a serial run
abbrev pub OneByOneIsSerial : Type 0
OneByOneIsSerial = (limits : Bounds) (sections : List (List Call)) (answers : List (List (Result Reply Fault)))
    (history : List (ℕ × Call)) → IsLegal (repository_within limits) history → OneByOne (repository_within limits) 0 [] sections answers history
    → IsSerial limits sections answers history
