-- The size of a patch, as a test and as a fact.
use Rattle.camp_repo.proofs.Words.{◌≡◌, ℕ, ◌≤◌, ◌+◌, ◌∙◌, false, Bool, List, [], length, drop, Option, nat_le, nat_lt, refl, sym, ap, arith, list_any, option_map_or, Files, Primitive, Catch, Agree, AreLacked, is_among, name_of, path_of, has_long_file, is_full_with, ◌-◌, leb-true, length-drop, Lines, Applies, has_long_side, is_patch_sized, is_too_large, longest_file, and_parts, not-false, or_parts}
use Rattle.std.proofs.lemmas.Bool.Decides.{nat_tests}
use Rattle.std.proofs.lemmas.List.Sums.{count_by-le-length, length-filter}
use Rattle.camp_prim.proofs.Maps.{get_inserted, get_removed}
use Rattle.camp_prim.specs.Hunks.{Edit}
use Rattle.camp_prim.specs.declared.primitives.Primitive.TheVariants.{Add, Hunk, Remove}
use Rattle.camp_repo.proofs.NameSteps.{named_behind}
use Rattle.camp_call.specs.Patches.{IsPatchSized}

-- a record that is not too large has the size of a patch
pub sized_of : (most : ℕ) (catches : List Catch) (changes : List Primitive) → is_too_large most catches changes ≡ false
    → IsPatchSized changes
sized_of most catches changes small =
    let few = or_parts (nat_lt most (length catches + length changes)) _ small in
    let short = or_parts (list_any has_long_side changes) _ few.1 in
    let sized = not-false (is_patch_sized changes) short.1 in
    let ends = and_parts (nat_le 1 (length changes)) (nat_le (length changes) 64) sized in
    (leb-true 1 (length changes) ends.0, leb-true (length changes) 64 ends.1)

abbrev is_long : Option Lines → Bool
is_long found = option_map_or (λ lines. nat_lt longest_file (length lines)) found false

-- a file that is added is not too long, and one that is removed is gone
pub short_or_gone : (change : Primitive) (old tree : Files) → ((edit : Edit) → change ≡ Hunk edit → ⊥) → Applies change old tree → false ≡ has_long_file (path_of change) tree
short_or_gone (Add path) old tree never adds = sym (ap (has_long_file path) adds.becomes ∙ ap is_long (get_inserted old path []))
short_or_gone (Remove path) old tree never removes = sym (ap (has_long_file path) removes.becomes ∙ ap is_long (get_removed old path))
short_or_gone (Hunk edit) old tree never applies = absurd (never edit refl)

-- if a branch has headroom for all that another one has after agreeing prefixes, it has headroom for those of some
-- names
pub has_room : (most : ℕ) (ours theirs : List Catch) (long : ℕ) (names : List (List ℕ)) → Agree theirs ours long → AreLacked ours names → length ours + (length theirs - long) ≤ most → false ≡ is_full_with most ours theirs names
has_room most ours theirs long names agree lacked room =
    let behind = drop long theirs in
    let named = ap length (named_behind theirs ours long names agree lacked) ∙ length-filter (λ k. is_among names (name_of k)) behind in
    let few = count_by-le-length (λ k. is_among names (name_of k)) behind in
    let rest = length-drop long theirs in
    grind (arith, nat_tests)
