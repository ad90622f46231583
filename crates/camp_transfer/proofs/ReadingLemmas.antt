-- Commands that are applied one after the other, and one more.
use Rattle.std.proofs.Common.{◌≡◌, ◌≢◌, ℕ, ◌+◌, Bool, List, [], ◌∷◌, ◌++◌, length, length-append, Option, None, Some, refl, sym, ap, ◌∙◌, subst}
use Rattle.std.proofs.Common.{inl, inr}
use Rattle.camp_commits.specs.Objects.{Objects}
use Rattle.camp_commits.specs.declared.commits.TreeCommit.{TreeCommit}
use Rattle.camp_stream.specs.CommandValues.{DoneCommand, value_of_command}
use Rattle.camp_stream.specs.declared.commands.Command.{Command as StreamCommand}
use Rattle.camp_stream.specs.declared.commands.Command.TheVariants as command
use Rattle.camp_transfer.specs.Inside.Reading.{EndsWithBytes}
use Rattle.camp_transfer.specs.Reading.{AppliesEachCommand, AppliesNext, EndsReading, IsReadToEnd, ReadsCommits, StopsReading, announces_done, commits_among}
use Rattle.camp_transfer.specs.declared.faults.StopReason.{StopReason}
use Rattle.camp_transfer.specs.declared.faults.StopReason.TheVariants.{Malformed, Command, Unfinished}
use Rattle.camp_transfer.specs.declared.reading.StreamCommits.{StreamCommits}
use Rattle.camp_transfer.specs.declared.reading.StreamEnd.{StreamEnd}
use Rattle.camp_transfer.specs.declared.reading.StreamEnd.TheVariants.{Whole, Stopped}

-- the commands that were read so far, as many as a count says, and what they made
pub record IsReadSoFar (announced : Bool) (known : Objects) (stream : List ℕ) (count : ℕ) (objects : Objects) (rest : List ℕ) (commits : List TreeCommit) : Type 0 where
  pub made : List (Option TreeCommit)
  pub long : length made ≡ count
  pub applies : AppliesEachCommand announced known stream made objects rest
  pub are : commits ≡ commits_among made

-- no command was read
pub nothing_read : (announced : Bool) (known : Objects) (stream : List ℕ) → IsReadSoFar announced known stream 0 known stream []
nothing_read announced known stream = record { made = []; long = refl; applies = (refl, refl); are = refl }

applies_more : (announced : Bool) (made : List (Option TreeCommit)) (next : Option TreeCommit) (known mid new : Objects) (stream rest left : List ℕ) → AppliesEachCommand announced known stream made mid rest → AppliesNext announced mid rest next new left → AppliesEachCommand announced known stream (made ++ next ∷ []) new left
applies_more announced [] next known mid new stream rest left (same, at) applies =
    (new, (left, (subst (λ (objects : Objects). AppliesNext announced objects stream next new left) same (subst (λ (bytes : List ℕ). AppliesNext announced mid bytes next new left) at applies), (refl, refl))))
applies_more announced (first ∷ made) next known mid new stream rest left each applies =
    (each.0, (each.1.0, (each.1.1.0, applies_more announced made next each.0 mid new each.1.0 rest left each.1.1.1 applies)))

commits_more : (made : List (Option TreeCommit)) (next : Option TreeCommit) → commits_among (made ++ next ∷ []) ≡ commits_among made ++ commits_among (next ∷ [])
commits_more [] next = refl
commits_more (None ∷ made) next = commits_more made next
commits_more (Some commit ∷ made) next = ap (λ (others : List TreeCommit). commit ∷ others) (commits_more made next)

-- one more command was read
pub one_more_read : (announced : Bool) (known : Objects) (stream : List ℕ) (count : ℕ) (mid new : Objects) (rest left : List ℕ) (commits all : List TreeCommit) (next : Option TreeCommit) → IsReadSoFar announced known stream count mid rest commits → AppliesNext announced mid rest next new left → all ≡ commits ++ commits_among (next ∷ []) → IsReadSoFar announced known stream (count + 1) new left all
one_more_read announced known stream count mid new rest left commits all next so_far applies grown = record {
  made = so_far.made ++ next ∷ [];
  long = length-append so_far.made (next ∷ []) ∙ ap (λ (n : ℕ). n + 1) so_far.long;
  applies = applies_more announced so_far.made next known mid new stream rest left so_far.applies applies;
  are = grown ∙ ap (λ (others : List TreeCommit). others ++ commits_among (next ∷ [])) so_far.are ∙ sym (commits_more so_far.made next);
}

stops_later : (announced : Bool) (first second : Type 0) (objects : Objects) (rest : List ℕ) (why : StopReason) (left : ℕ) → (first → second) → StopsReading announced first objects rest why left → StopsReading announced second objects rest why left
stops_later announced first second objects rest (Malformed kind) left on stops = stops
stops_later announced first second objects rest (Command why commit path) left on stops = stops
stops_later announced first second objects rest Unfinished left on (told, (none, inl ended)) = (told, (none, inl (on ended)))
stops_later announced first second objects rest Unfinished left on (told, (none, inr last)) = (told, (none, inr last))

ends_later : (announced : Bool) (first second : Type 0) (objects : Objects) (rest : List ℕ) (end : StreamEnd) → (first → second) → EndsReading announced first objects rest end → EndsReading announced second objects rest end
ends_later announced first second objects rest Whole on (inl (untold, ended)) = inl (untold, on ended)
ends_later announced first second objects rest Whole on (inr done) = inr done
ends_later announced first second objects rest (Stopped stop) on stops = stops_later announced first second objects rest stop.why stop.left on stops

-- reading ends at the bytes that are left
pub ends_here : (announced : Bool) (known : Objects) (stream : List ℕ) (count : ℕ) (rest : List ℕ) (found : StreamCommits) → announced ≡ announces_done stream → IsReadSoFar announced known stream count found.objects rest found.commits.items → EndsReading announced (rest ≡ []) found.objects rest found.end → ReadsCommits known stream found
ends_here announced known stream count rest found told so_far ends = record {
  made = so_far.made;
  rest = rest;
  applies = subst (λ (a : Bool). AppliesEachCommand a known stream so_far.made found.objects rest) told so_far.applies;
  are = so_far.are;
  ends = subst (λ (a : Bool). EndsReading a (IsReadToEnd stream so_far.made rest) found.objects rest found.end) told (ends_later announced (rest ≡ []) (IsReadToEnd stream so_far.made rest) found.objects rest found.end (λ empty. inl empty) ends);
}

ends_with : (announced : Bool) (ended : Type 0) (objects : Objects) (rest : List ℕ) (end : StreamEnd) → ended → EndsWithBytes announced end → EndsReading announced ended objects rest end
ends_with announced ended objects rest Whole is untold = inl (untold, is)
ends_with announced ended objects rest (Stopped stop) is at =
    subst (λ (why : StopReason). StopsReading announced ended objects rest why stop.left) (sym at.1.0) (at.0, (at.1.1, inl is))

-- as many commands were read as the stream has bytes
pub ends_counted : (announced : Bool) (known : Objects) (stream : List ℕ) (count : ℕ) (rest : List ℕ) (found : StreamCommits) → announced ≡ announces_done stream → count ≡ length stream → IsReadSoFar announced known stream count found.objects rest found.commits.items → EndsWithBytes announced found.end → ReadsCommits known stream found
ends_counted announced known stream count rest found told long so_far at = record {
  made = so_far.made;
  rest = rest;
  applies = subst (λ (a : Bool). AppliesEachCommand a known stream so_far.made found.objects rest) told so_far.applies;
  are = so_far.are;
  ends = subst (λ (a : Bool). EndsReading a (IsReadToEnd stream so_far.made rest) found.objects rest found.end) told (ends_with announced (IsReadToEnd stream so_far.made rest) found.objects rest found.end (inr (so_far.long ∙ long)) at);
}

-- a command that is another one than done
pub not_done : (made : StreamCommand) → made ≢ command.Done → value_of_command made ≢ DoneCommand
not_done command.Done other e = other refl
not_done (command.Blob blob) other e = cc
not_done (command.Commit commit) other e = cc
not_done (command.Reset reset) other e = cc
not_done (command.Tag tag) other e = cc
not_done (command.Progress text) other e = cc
not_done (command.Feature text) other e = cc
not_done (command.Option text) other e = cc
not_done command.Checkpoint other e = cc
