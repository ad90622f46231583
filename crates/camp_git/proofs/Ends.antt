-- How a step of the stream ends.
use Rattle.camp_git.proofs.Words.{◌≡◌, ◌∙◌, ℕ, List, Result, Ok, Err, sym, subst, true, contains_key, Files}
use Rattle.std.specs.declared.alloc.Global.{Global}
use Rattle.std.specs.Prelude.{IsErrAnd, Vec}
use Rattle.camp_catch.specs.declared.catches.Catch.{Catch}
use Rattle.camp_git.proofs.ChangedTrees.{shows_new}
use Rattle.camp_git.proofs.TreeSteps.{listed}
use Rattle.camp_git.specs.Exports.{IsUnheld, HasFilesOf}
use Rattle.camp_git.specs.FastImport.{GitTree, changed_by}
use Rattle.camp_git.specs.Holding.{CanHold, CannotHold}
use Rattle.camp_git.specs.Inside.Commits.{differences_of, paths_in}
use Rattle.camp_git.specs.Inside.Steps.{StaysBeside}
use Rattle.camp_git.specs.Inside.Streams.{StreamEnds, Streams}
use Rattle.camp_git.specs.declared.faults.Unexported.{Unexported}
use Rattle.camp_git.specs.declared.faults.Unexported.TheVariants.{NoBranch, Unheld, Memory, Write}

-- an end with an error ends the stream
pub ends_stream : {A : Type 0} (Good : A → Type 0) (called : List ℕ) (tree : Files) (name : List ℕ) (branch : List Catch) (fault : Unexported) → StreamEnds Good called tree (Err fault) → ((patch path : List ℕ) → patch ≡ called → contains_key tree path ≡ true → CannotHold tree path → IsUnheld branch patch path) → Streams name branch (Err fault)
ends_stream Good called tree name branch (NoBranch missing) w bad = w
ends_stream Good called tree name branch (Unheld patch path) w bad = bad patch path w.0 w.1 w.2
ends_stream Good called tree name branch Memory w bad = tt
ends_stream Good called tree name branch (Write error) w bad = w

-- an error that is passed on ends it too
pub stops : (name : List ℕ) (branch : List Catch) (result : Result (Vec ℕ Global) Unexported) (fault : Unexported) → IsErrAnd result (λ error. error ≡ fault) → Streams name branch (Err fault) → Streams name branch result
stops name branch (Ok text) fault is w = absurd is
stops name branch (Err error) fault is w = subst (λ f. Streams name branch (Err f)) (sym is) w

-- if nothing changes outside these paths, the changes at them make the new tree of the old one
pub shows_step : (old new : Files) (set : List (List ℕ × Unit {0})) → CanHold old → CanHold new → StaysBeside set old new → (git : GitTree) → HasFilesOf git old → HasFilesOf (changed_by git (differences_of old new (paths_in set))) new
shows_step old new set was held stays git shows =
    shows_new old new was held (paths_in set) (λ path lacks. stays path (sym (listed set path) ∙ lacks)) git shows
