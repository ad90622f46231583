-- The unresolved conflicts of catches, unordered, possibly with repetitions.
use Rattle.std.specs.Prelude.{ℕ, List, [], map, filter, if◌then◌else◌}
use Rattle.std.specs.List.{flat_map}
use Rattle.std.specs.FinMap.{keys}
use Rattle.camp_ctx.specs.Contexts.{ContextedPatch, ContextedPatches, context_key}
use Rattle.camp_catch.specs.declared.catches.Catch.{Catch}
use Rattle.camp_catch.specs.declared.catches.Catch.TheVariants.{Plain}
use Rattle.camp_branch.specs.Branches.{name_of}
use Rattle.camp_branch.specs.Inside.Collecting.{pair_of}
use Rattle.camp_questions.specs.OpenConflicts.{is_unresolved}

-- a name and that of a contexted patch as a pair, if the label of the contexted patch is unresolved; else none
abbrev pub unresolved_with : ContextedPatches → List ℕ → ContextedPatch → List (List ℕ × List ℕ)
unresolved_with seen name x = if is_unresolved seen (context_key x) then pair_of name x.patch.name else []

-- the names of those patches of a set whose labels are unresolved
abbrev pub unresolved_within : ContextedPatches → ContextedPatches → List (List ℕ)
unresolved_within seen xs = map (λ key. key.name) (filter (is_unresolved seen) (keys xs))

-- the names of the patches with which a catch is in an unresolved conflict
abbrev pub unresolved_against : ContextedPatches → Catch → List (List ℕ)
unresolved_against seen (Plain a) = []
unresolved_against seen (Catch.Conflictor k) = if is_unresolved seen (context_key k.identity) then unresolved_within seen k.conflicts else []

-- the unresolved conflicts of a catch
abbrev pub unresolved_of_catch : ContextedPatches → Catch → List (List ℕ × List ℕ)
unresolved_of_catch seen k = flat_map (pair_of (name_of k)) (unresolved_against seen k)

-- the unresolved conflicts of catches
abbrev pub unresolved_in : ContextedPatches → List Catch → List (List ℕ × List ℕ)
unresolved_in seen branch = flat_map (unresolved_of_catch seen) branch
