-- The effect of a primitive on a tree, as a relation and as a function.
use Rattle.camp_prim.proofs.Words.{◌≡◌, ℕ, cond, Option, None, Some, is_some, option_map, option_and_then, List, [], ◌∷◌, refl, sym, ap, ◌∙◌, get, insert, remove, none-some, same_Some, Lines, Files, Adds, Removes, Splices, Edit, Applies, is_empty_file, spliced, applied, AppliedIsApplies, Primitive, Add, Remove, Hunk}
use Rattle.camp_prim.proofs.Splices.{SplicesLines-from_spliced, spliced-from_SplicesLines}

Adds-from_applied : (path : List ℕ) (old new : Files) (found : Option Lines) → get old path ≡ found → cond (is_some found) None (Some (insert old path [])) ≡ Some new → Adds path old new
Adds-from_applied path old new None here e = record { absent = here; becomes = sym (same_Some _ _ e) }
Adds-from_applied path old new (Some lines) here e = absurd (none-some new e)

Removes-from_applied : (path : List ℕ) (old new : Files) (found : Option Lines) → get old path ≡ found → cond (is_empty_file found) (Some (remove old path)) None ≡ Some new → Removes path old new
Removes-from_applied path old new None here e = absurd (none-some new e)
Removes-from_applied path old new (Some []) here e = record { empty = here; becomes = sym (same_Some _ _ e) }
Removes-from_applied path old new (Some (line ∷ lines)) here e = absurd (none-some new e)

Splices-from_spliced : (hunk : Edit) (old new : Files) (lines : Lines) (changed : Option Lines) → get old hunk.path ≡ Some lines → spliced hunk.line hunk.old hunk.new lines ≡ changed → option_map (insert old hunk.path) changed ≡ Some new → Splices hunk.path hunk.line hunk.old hunk.new old new
Splices-from_spliced hunk old new lines None here is e = absurd (none-some new e)
Splices-from_spliced hunk old new lines (Some changed) here is e =
    record {
      lines = lines;
      changed = changed;
      found = here;
      splices = SplicesLines-from_spliced hunk.line hunk.old hunk.new lines changed is;
      becomes = sym (same_Some _ _ e);
    }

Splices-from_applied : (hunk : Edit) (old new : Files) (found : Option Lines) → get old hunk.path ≡ found → option_and_then (λ lines. option_map (insert old hunk.path) (spliced hunk.line hunk.old hunk.new lines)) found ≡ Some new → Splices hunk.path hunk.line hunk.old hunk.new old new
Splices-from_applied hunk old new None here e = absurd (none-some new e)
Splices-from_applied hunk old new (Some lines) here e = Splices-from_spliced hunk old new lines _ here refl e

pub Applies-from_applied : (p : Primitive) (old new : Files) → applied p old ≡ Some new → Applies p old new
Applies-from_applied (Add path) old new e = Adds-from_applied path old new _ refl e
Applies-from_applied (Remove path) old new e = Removes-from_applied path old new _ refl e
Applies-from_applied (Hunk hunk) old new e = Splices-from_applied hunk old new _ refl e

applied-from_Adds : (path : List ℕ) (old new : Files) → Adds path old new → applied (Add path) old ≡ Some new
applied-from_Adds path old new a = rw a.absent (ap Some (sym a.becomes))

applied-from_Removes : (path : List ℕ) (old new : Files) → Removes path old new → applied (Remove path) old ≡ Some new
applied-from_Removes path old new a = rw a.empty (ap Some (sym a.becomes))

applied-from_Splices : (hunk : Edit) (old new : Files) → Splices hunk.path hunk.line hunk.old hunk.new old new → applied (Hunk hunk) old ≡ Some new
applied-from_Splices hunk old new a =
    ap (option_and_then (λ lines. option_map (insert old hunk.path) (spliced hunk.line hunk.old hunk.new lines))) a.found
    ∙ ap (option_map (insert old hunk.path)) (spliced-from_SplicesLines hunk.line hunk.old hunk.new a.lines a.changed a.splices)
    ∙ ap Some (sym a.becomes)

pub applied-from_Applies : (p : Primitive) (old new : Files) → Applies p old new → applied p old ≡ Some new
applied-from_Applies (Add path) old new a = applied-from_Adds path old new a
applied-from_Applies (Remove path) old new a = applied-from_Removes path old new a
applied-from_Applies (Hunk hunk) old new a = applied-from_Splices hunk old new a

pub applied_is : AppliedIsApplies
applied_is p old new = (Applies-from_applied p old new, applied-from_Applies p old new)

-- a primitive leads from a tree to at most one tree
pub applies_once : (p : Primitive) (old new other : Files) → Applies p old new → Applies p old other → new ≡ other
applies_once p old new other a b =
    same_Some _ _ (sym (applied-from_Applies p old new a) ∙ applied-from_Applies p old other b)

none_at : (o : Option Files) → ((new : Files) → ¬ (o ≡ Some new)) → o ≡ None
none_at None nowhere = refl
none_at (Some new) nowhere = absurd (nowhere new refl)

-- if it leads to no tree, the function gives none
pub applied-none : (p : Primitive) (old : Files) → ((new : Files) → ¬ (Applies p old new)) → applied p old ≡ None
applied-none p old nowhere = none_at (applied p old) (λ new e. nowhere new (Applies-from_applied p old new e))
