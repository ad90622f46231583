-- The conflicts of catches, as they are collected: unordered, possibly with repetitions.
use Rattle.std.specs.Prelude.{ℕ, List, [], ◌∷◌, map}
use Rattle.std.specs.List.{flat_map}
use Rattle.std.specs.Ordering.{nat_cmp}
use Rattle.std.specs.Cmp.Lexicographic.{slice_cmp}
use Rattle.std.specs.FinMap.{keys}
use Rattle.std.specs.declared.cmp.Ordering.{Ordering}
use Rattle.std.specs.declared.cmp.Ordering.TheVariants.{Less, Equal, Greater}
use Rattle.camp_ctx.specs.Contexts.{ContextedPatches}
use Rattle.camp_catch.specs.declared.catches.Catch.{Catch}
use Rattle.camp_catch.specs.declared.catches.Catch.TheVariants.{Plain}
use Rattle.camp_branch.specs.Branches.{name_of}

-- two names as a pair, the lesser first; none if the names are equal
abbrev pub ordered_by : Ordering → List ℕ → List ℕ → List (List ℕ × List ℕ)
ordered_by Less first second = (first, second) ∷ []
ordered_by Equal first second = []
ordered_by Greater first second = (second, first) ∷ []

-- two different names as a pair
abbrev pub pair_of : List ℕ → List ℕ → List (List ℕ × List ℕ)
pair_of first second = ordered_by (slice_cmp nat_cmp first second) first second

-- the names of the patches in a set
abbrev pub names_within : ContextedPatches → List (List ℕ)
names_within xs = map (λ key. key.name) (keys xs)

-- the names of the patches in the set of a conflictor; none for a plain catch
abbrev pub names_against : Catch → List (List ℕ)
names_against (Plain a) = []
names_against (Catch.Conflictor k) = names_within k.conflicts

-- the conflicts of a catch
abbrev pub pairs_at : Catch → List (List ℕ × List ℕ)
pairs_at k = flat_map (pair_of (name_of k)) (names_against k)

-- the conflicts of catches
abbrev pub pairs_in : List Catch → List (List ℕ × List ℕ)
pairs_in branch = flat_map pairs_at branch
