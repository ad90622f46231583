-- What the primitives of a patch leave unchanged.
use Rattle.camp_git.proofs.Words.{◌≡◌, ◌∙◌, ◌∷◌, [], ◌||◌, ℕ, false, cond, List, Some, None, refl, sym, ap, bytes_eq, contains_key, eq_by_cmp, get, nat_cmp, nat_list_cmp_total, slice_cmp, map_of, list_any, Files}
use Rattle.std.specs.FinMap.{contains_key-keys, get-insert, get-remove, insert}
use Rattle.std.proofs.lemmas.Bool.{or_parts}
use Rattle.std.proofs.lemmas.Map.Text.{is_eq-slice_cmp}
use Rattle.camp_prim.specs.Effect.{Applies}
use Rattle.camp_prim.specs.Commuting.{path_of}
use Rattle.camp_prim.specs.declared.primitives.Primitive.{Primitive}
use Rattle.camp_prim.specs.declared.primitives.Primitive.TheVariants.{Add, Remove, Hunk}
use Rattle.camp_branch.proofs.BranchFields.{contains_more}
use Rattle.camp_branch.specs.Branches.{is_among}
use Rattle.camp_git.proofs.HeldTrees.{Paths}
use Rattle.camp_git.specs.Inside.Commits.{paths_in}
use Rattle.camp_git.specs.Inside.Steps.{StaysBeside, StaysBesideNew}

apart : (path other : List ℕ) → bytes_eq path other ≡ false → eq_by_cmp (slice_cmp nat_cmp) path other ≡ false
apart path other e = is_eq-slice_cmp path other ∙ e

-- a primitive changes no path but its own
pub stays_elsewhere : (p : Primitive) (old new : Files) (path : List ℕ) → Applies p old new → bytes_eq path (path_of p) ≡ false → get new path ≡ get old path
stays_elsewhere (Add own) old new path w other =
    ap (λ (f : Files). get f path) w.becomes ∙ get-insert nat_list_cmp_total old own [] path ∙ ap (λ b. cond b (Some []) (get old path)) (apart path own other)
stays_elsewhere (Remove own) old new path w other =
    ap (λ (f : Files). get f path) w.becomes ∙ get-remove nat_list_cmp_total old own path ∙ ap (λ b. cond b None (get old path)) (apart path own other)
stays_elsewhere (Hunk hunk) old new path w other =
    ap (λ (f : Files). get f path) w.becomes ∙ get-insert nat_list_cmp_total old hunk.path w.changed path ∙ ap (λ b. cond b (Some w.changed) (get old path)) (apart path hunk.path other)

-- sets of paths, with the path of one more primitive
pub one_stays : (fewer paths more : Paths) (p : Primitive) (own : List ℕ) (first old new : Files) → own ≡ path_of p → more ≡ insert paths own tt → Applies p old new → ((path : List ℕ) → contains_key paths path ≡ false → (contains_key fewer path ≡ false) × (get old path ≡ get first path)) → (path : List ℕ) → contains_key more path ≡ false → (contains_key fewer path ≡ false) × (get new path ≡ get first path)
one_stays fewer paths more p own first old new is grown w before path lacks =
    let both = or_parts (contains_key paths path) (bytes_eq path own) (sym (ap (λ m. contains_key m path) grown ∙ contains_more paths own path) ∙ lacks) in
    let was = before path both.0 in
    (was.0, stays_elsewhere p old new path w (ap (bytes_eq path) (sym is) ∙ both.1) ∙ was.1)

pub stays_on : (paths all : List (List ℕ × Unit {0})) (first old new : Files) → StaysBeside paths first old → StaysBesideNew paths all old new → StaysBeside all first new
stays_on paths all first old new before now path lacks =
    let w = now path lacks in w.1 ∙ before path w.0

same_test : (path : List ℕ) (paths : List (List ℕ)) → list_any (bytes_eq path) paths ≡ list_any (eq_by_cmp (slice_cmp nat_cmp) path) paths
same_test path [] = refl
same_test path (p ∷ paths) =
    ap (λ b. b || list_any (bytes_eq path) paths) (sym (is_eq-slice_cmp path p)) ∙ ap (λ b. eq_by_cmp (slice_cmp nat_cmp) path p || b) (same_test path paths)

-- the paths of a set are those that it has
pub listed : (set : List (List ℕ × Unit {0})) (path : List ℕ) → is_among (paths_in set) path ≡ contains_key (map_of (slice_cmp nat_cmp) set) path
listed set path =
    same_test path (paths_in set) ∙ sym (contains_key-keys (map_of (slice_cmp nat_cmp) set) path)
