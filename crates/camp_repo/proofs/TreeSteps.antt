-- The tree of a branch as a function, and what changes lead to.
use Rattle.camp_repo.proofs.Words.{◌≡◌, Bool, true, false, cond, List, [], ◌∷◌, Option, None, Some, Result, Ok, Err, refl, sym, ap, ◌∙◌, empty, option_and_then, Files, applied, path_of, Primitive, Catch, LeadsTo, AppliesEach, Refusal, changed, has_long_file, led_to, then_from, Applies-from_applied, applied-from_Applies, tree_of_effects, tree_after, tree_of}
use Rattle.camp_prim.specs.declared.named.Named.{Named}
use Rattle.camp_seq.specs.Running.{AppliesAll}

-- primitives lead to exactly the tree that the function gives
pub leads_after : (ps : List Named) (old new : Files) → AppliesAll ps old new → tree_after old ps ≡ Some new
leads_after [] old new e = ap Some (sym e)
leads_after (p ∷ ps) old new v =
    ap (option_and_then (λ next. tree_after next ps)) (applied-from_Applies p.prim old v.0 v.1) ∙ leads_after ps v.0 new v.2

-- the tree that a branch leads to
pub tree_found : (catches : List Catch) (tree : Files) → LeadsTo catches tree → tree_of catches ≡ Some tree
tree_found catches tree v = leads_after _ empty tree (tree_of_effects catches empty tree v)

short : (change : Primitive) (tree : Files) (b : Bool) (new : Files) (goes_on : Files → Result Files Refusal) → then_from (cond b (Err Refusal.TooLarge) (Ok tree)) goes_on ≡ Ok new → goes_on tree ≡ Ok new
short change tree true new goes_on e = cc
short change tree false new goes_on e = e

led_on : (change : Primitive) (old new : Files) (o : Option Files) (goes_on : Files → Result Files Refusal) → applied change old ≡ o → then_from (led_to change o) goes_on ≡ Ok new → (tree : Files) × (applied change old ≡ Some tree) × (goes_on tree ≡ Ok new)
led_on change old new None goes_on is e = cc
led_on change old new (Some tree) goes_on is e =
    (tree, is, short change tree (has_long_file (path_of change) tree) new goes_on e)

-- changes that lead to a tree apply one after the other
pub changes_apply : (changes : List Primitive) (old new : Files) → changed changes old ≡ Ok new → AppliesEach changes old new
changes_apply [] old new e = cc
changes_apply (change ∷ changes) old new e =
    let on = led_on change old new (applied change old) (changed changes) refl e in
    (on.0, Applies-from_applied change old on.0 on.1, changes_apply changes on.0 new on.2)
