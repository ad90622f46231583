-- The catches at the start of a branch that keep their positions.
use Rattle.std.specs.Prelude.{ℕ, not, List}
use Rattle.std.specs.List.{prefix_len}
use Rattle.camp_catch.specs.declared.catches.Catch.{Catch}
use Rattle.camp_branch.specs.Branches.{is_among, name_of}

-- the length of the longest prefix whose patches are all among the names
abbrev pub front_of : List (List ℕ) → List Catch → ℕ
front_of names list = prefix_len (λ k. is_among names (name_of k)) list

-- the length of the longest prefix of which no patch is among the names
abbrev pub front_before : List (List ℕ) → List Catch → ℕ
front_before names list = prefix_len (λ k. not (is_among names (name_of k))) list
