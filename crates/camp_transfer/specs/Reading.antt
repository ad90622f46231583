-- The commits of a stream: its commands are applied one after the other, up to its end or its first fault.
use Rattle.std.specs.Prelude.{◌≡◌, ◌≢◌, ◌⊎◌, ◌==◌, ℕ, Bool, true, false, List, [], ◌∷◌, codes, length, Option, None, Some, option_and_then, Ok, Err}
use Rattle.std.specs.List.{slice_get, starts_with}
use Rattle.camp_commits.specs.Applying.{AppliesCommand}
use Rattle.camp_commits.specs.Objects.{Objects}
use Rattle.camp_commits.specs.declared.applying.Step.{Step}
use Rattle.camp_commits.specs.declared.commits.TreeCommit.{TreeCommit}
use Rattle.camp_commits.specs.declared.faults.ApplyError.TheVariants as apply
use Rattle.camp_commits.specs.declared.faults.CommandFault.{CommandFault}
use Rattle.camp_commits.specs.declared.faults.CommandFault.TheVariants as fault
use Rattle.camp_stream.specs.CommandValues.{ChangeValue, CommandValue, CommitCommand, DeleteEntries, DeleteEntry, DoneCommand, SetEntry, text_value}
use Rattle.camp_stream.specs.Commands.{command_at}
use Rattle.camp_transfer.specs.declared.faults.StopReason.TheVariants.{Malformed, Command, Unfinished}
use Rattle.camp_transfer.specs.declared.faults.StopReason.{StopReason}
use Rattle.camp_transfer.specs.declared.reading.StreamCommits.{StreamCommits}
use Rattle.camp_transfer.specs.declared.reading.StreamEnd.{StreamEnd}
use Rattle.camp_transfer.specs.declared.reading.StreamEnd.TheVariants.{Whole, Stopped}

-- the first line of a stream announces that it ends with `done`
abbrev pub announces_done : List ℕ → Bool
announces_done stream = starts_with (λ a b. a == b) stream (codes "feature done\n")

-- a command counts as a whole one: it is not `done` and, if `done` is announced, it is not the last of the stream, which may
-- be cut off
pub record IsWhole (announced : Bool) (command : CommandValue) (left : List ℕ) : Type 0 where
  pub other : command ≢ DoneCommand
  pub followed : announced ≡ true → left ≢ []

-- the next command of a stream is applied: the commit that it makes, what is defined after it, and the bytes after it
pub record AppliesNext (announced : Bool) (objects : Objects) (rest : List ℕ) (made : Option TreeCommit) (new : Objects) (left : List ℕ) : Type 0 where
  pub command : CommandValue
  pub reads : command_at rest ≡ Ok (command, left)
  pub whole : IsWhole announced command left
  pub step : Step
  pub applies : AppliesCommand objects command (Ok step)
  pub commit : step.commit ≡ made
  pub becomes : step.objects ≡ new

-- commands of a stream are applied one after the other; each makes a commit or none
abbrev pub AppliesEachCommand : (announced : Bool) → Objects → (rest : List ℕ) → List (Option TreeCommit) → Objects → (left : List ℕ) → Type 0
AppliesEachCommand announced objects rest [] new left = (new ≡ objects) × (left ≡ rest)
AppliesEachCommand announced objects rest (made ∷ others) new left =
    (between : Objects) × ((after : List ℕ) × (AppliesNext announced objects rest made between after × AppliesEachCommand announced between after others new left))

-- the commits among what commands make
abbrev pub commits_among : List (Option TreeCommit) → List TreeCommit
commits_among [] = []
commits_among (None ∷ others) = commits_among others
commits_among (Some commit ∷ others) = commit ∷ commits_among others

-- no bytes are left, or as many commands were read as the stream has bytes, which no stream has
abbrev pub IsReadToEnd : (stream : List ℕ) → List (Option TreeCommit) → (left : List ℕ) → Type 0
IsReadToEnd stream made left = (left ≡ []) ⊎ (length made ≡ length stream)

-- the id that a command gives, if it is a commit that has one
abbrev pub id_in_stream : CommandValue → Option (List ℕ)
id_in_stream (CommitCommand commit) = commit.original_oid
id_in_stream other = None

-- the path of a change, as it is in the stream
abbrev pub path_in_stream : ChangeValue → Option (List ℕ)
path_in_stream (SetEntry mode content path) = Some path
path_in_stream (DeleteEntry path) = Some path
path_in_stream DeleteEntries = None

-- the index of the change that a fault is about
abbrev pub index_of_fault : CommandFault → Option ℕ
index_of_fault (fault.Change wrong) = Some wrong.index
index_of_fault (fault.Entry wrong) = Some wrong.index
index_of_fault other = None

-- the path that a fault of a command is about, if it is about one
abbrev pub faulty_path : CommandValue → CommandFault → Option (List ℕ)
faulty_path (CommitCommand commit) why = option_and_then (λ index. option_and_then path_in_stream (slice_get commit.changes index)) (index_of_fault why)
faulty_path other why = None

-- the next command of a stream can't be applied: its fault, with the id of the commit and the path that it is about
pub record FailsNext (announced : Bool) (objects : Objects) (rest : List ℕ) (why : CommandFault) (commit path : Option (List ℕ)) : Type 0 where
  pub command : CommandValue
  pub left : List ℕ
  pub reads : command_at rest ≡ Ok (command, left)
  pub whole : IsWhole announced command left
  pub applies : AppliesCommand objects command (Err (apply.Fault why))
  pub named : commit ≡ id_in_stream command
  pub about : path ≡ faulty_path command why

-- the last command of a stream, which is not `done`
pub record IsLastCommand (rest : List ℕ) : Type 0 where
  pub command : CommandValue
  pub reads : command_at rest ≡ Ok (command, [])
  pub other : command ≢ DoneCommand

-- a stream is not read any further, with this many bytes left: its next item is malformed, its next command can't be
-- applied, or it ends without the `done` that it announces
abbrev pub StopsReading : (announced : Bool) (ended : Type 0) → Objects → (rest : List ℕ) → StopReason → (left : ℕ) → Type 0
StopsReading announced ended objects rest (Malformed kind) left = (rest ≢ []) × (command_at rest ≡ Err (record { kind = kind; left = left }))
StopsReading announced ended objects rest (Command why commit path) left =
    (left ≡ length rest) × FailsNext announced objects rest why (text_value commit) (text_value path)
StopsReading announced ended objects rest Unfinished left =
    (announced ≡ true) × ((left ≡ 0) × (ended ⊎ IsLastCommand rest))

-- where reading ends: where the bytes have ended, if no `done` is announced; at `done`; or at a fault
abbrev pub EndsReading : (announced : Bool) (ended : Type 0) → Objects → (rest : List ℕ) → StreamEnd → Type 0
EndsReading announced ended objects rest Whole =
    ((announced ≡ false) × ended) ⊎ ((left : List ℕ) × (command_at rest ≡ Ok (DoneCommand, left)))
EndsReading announced ended objects rest (Stopped stop) = StopsReading announced ended objects rest stop.why stop.left

-- the commits of a stream are those that its commands make, up to where reading ends
pub record ReadsCommits (known : Objects) (stream : List ℕ) (found : StreamCommits) : Type 0 where
  pub made : List (Option TreeCommit)
  pub rest : List ℕ
  pub applies : AppliesEachCommand (announces_done stream) known stream made found.objects rest
  pub are : found.commits.items ≡ commits_among made
  pub ends : EndsReading (announces_done stream) (IsReadToEnd stream made rest) found.objects rest found.end
