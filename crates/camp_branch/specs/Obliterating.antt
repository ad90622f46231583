-- Taking patches out of a branch: all others are moved to its front, and what comes after them is dropped.
use Rattle.std.specs.Prelude.{◌≡◌, ℕ, not, List, filter, Ok}
use Rattle.camp_catch.specs.declared.catches.Catch.{Catch}
use Rattle.camp_branch.specs.Branches.{is_among, names_of}
use Rattle.camp_branch.specs.Pulling.{Outcome, WantedNext}

-- the names of a branch's patches that are not among these
abbrev pub other_names : List Catch → List (List ℕ) → List (List ℕ)
other_names branch names = filter (λ name. not (is_among names name)) (names_of branch)

-- the outcome of an obliteration: the patches that stay, if all of them can be moved in front of those that are taken
-- out branch <-> staying gone
abbrev pub ObliterateGives : List Catch → List (List ℕ) → Outcome → Type 0
ObliterateGives branch names =
    WantedNext (other_names branch names) branch (λ staying gone outcome. outcome ≡ Ok staying)
