-- A contexted patch that is valid after a list becomes one that is valid before it.
use Rattle.camp_ctx.proofs.Words.{◌≡◌, List, [], ◌∷◌, ◌++◌, sym, subst, append_assoc, Files, Applies, inverse_of, label_of, Named, leads_back, AppliesAll, Cancels, PassesBy, Keeps, AddsToContext, cancel, commute, keep, FromLast, AddsAll, PassesByAll, ContextedPatch, whole, Valid, KeepsValid}
use Rattle.camp_prim.proofs.Applied.{applies_once}
use Rattle.camp_seq.specs.Equivalence.{◌~◌, through}
use Rattle.camp_seq.proofs.ListEquivalence.{equal_are, before, behind, after_one, swapped, passed, fronted, ordered}
use Rattle.camp_seq.proofs.ListRuns.{cut_run, equivalent_run}

-- lists that are equivalent lead from the same trees
pub run_along : (s t : List Named) → s ~ t → (old new : Files) → AppliesAll s old new → AppliesAll t old new
run_along s t e old new r = (equivalent_run s t e old new).0 r

valid_by_cancel : (a : Named) → KeepsValid (Cancels a) (Applies a.prim)
valid_by_cancel a x y w old new applies valid =
    let back : x.context ~ (inverse_of a ∷ y.context) =
    through (fronted (label_of (inverse_of a)) x.context (inverse_of a) w.rest w.front) (after_one (inverse_of a) w.rest y.context (ordered w.rest y.context w.context)) in
    let run = run_along (whole x) (inverse_of a ∷ y.context ++ x.patch ∷ []) (before x.context (inverse_of a ∷ y.context) (x.patch ∷ []) back) new valid.0 valid.1 in
    let same : run.0 ≡ old = applies_once (inverse_of a).prim new run.0 old run.1 (leads_back a.prim old new applies) in
    (valid.0, subst (λ p. AppliesAll (y.context ++ p ∷ []) old valid.0) (sym w.patch) (subst (λ t. AppliesAll (y.context ++ x.patch ∷ []) t valid.0) same run.2))

pub valid_by_passing : (a : Named) → KeepsValid (PassesBy a) (Applies a.prim)
valid_by_passing a x y w old new applies valid =
    let past : (a ∷ x.context) ~ (y.context ++ w.a' ∷ []) =
    through (passed a x.context w.passed w.a' w.past_context) (before w.passed y.context (w.a' ∷ []) (ordered w.passed y.context w.context)) in
    let last : (y.context ++ w.a' ∷ x.patch ∷ []) ~ (y.context ++ y.patch ∷ w.a'' ∷ []) =
    behind y.context (w.a' ∷ x.patch ∷ []) (y.patch ∷ w.a'' ∷ []) (swapped w.a' x.patch y.patch w.a'' [] w.past_patch) in
    let all : (a ∷ whole x) ~ (whole y ++ w.a'' ∷ []) =
    through (before (a ∷ x.context) (y.context ++ w.a' ∷ []) (x.patch ∷ []) past) (through (equal_are _ _ (append_assoc y.context (w.a' ∷ []) (x.patch ∷ []))) (through last (equal_are _ _ (sym (append_assoc y.context (y.patch ∷ []) (w.a'' ∷ [])))))) in
    let run = run_along (a ∷ whole x) (whole y ++ w.a'' ∷ []) all old valid.0 (new, applies, valid.1) in
    let cut = cut_run (whole y) (w.a'' ∷ []) old valid.0 run in
    (cut.0, cut.1)

valid_by_keeping : (a : Named) → KeepsValid (Keeps a) (Applies a.prim)
valid_by_keeping a x y w old new applies valid =
    let run = run_along (a ∷ whole x) (y.context ++ x.patch ∷ []) (before (a ∷ x.context) y.context (x.patch ∷ []) (ordered (a ∷ x.context) y.context w.context)) old valid.0 (new, applies, valid.1) in
    (valid.0, subst (λ p. AppliesAll (y.context ++ p ∷ []) old valid.0) (sym w.patch) run)

pub valid_by_adding : (a : Named) → KeepsValid (AddsToContext a) (Applies a.prim)
valid_by_adding a x y (cancel w) = valid_by_cancel a x y w
valid_by_adding a x y (commute never w) = valid_by_passing a x y w
valid_by_adding a x y (keep never none w) = valid_by_keeping a x y w

-- a step that keeps validity, repeated over a list
valid_from_last : (Change : Named → ContextedPatch → ContextedPatch → Type 0) → ((a : Named) → KeepsValid (Change a) (Applies a.prim)) → (r : List Named) → KeepsValid (FromLast Change r) (AppliesAll r)
valid_from_last Change keeps [] x y w old new run valid = subst (λ t. Valid t y) run (subst (Valid new) (sym w) valid)
valid_from_last Change keeps (a ∷ r) x y w old new run valid =
    keeps a w.0 y w.2 old run.0 run.1 (valid_from_last Change keeps r x w.0 w.1 run.0 new run.2 valid)

pub valid_by_adding_all : (r : List Named) → KeepsValid (AddsAll r) (AppliesAll r)
valid_by_adding_all = valid_from_last AddsToContext valid_by_adding

pub valid_by_passing_all : (r : List Named) → KeepsValid (PassesByAll r) (AppliesAll r)
valid_by_passing_all = valid_from_last PassesBy valid_by_passing
