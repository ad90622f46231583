-- Changes of a tree lead to one tree.
use Rattle.camp_uses.proofs.Words.{◌≡◌, ℕ, List, [], ◌∷◌, refl, sym, ◌∙◌, subst, Option, None, Some, IsSome, Result, Ok, Err, OnOk, same_Some, Answers, AnswersByTrial, Files, Lines, Adds, Removes, Applies, Leads, Primitive, CleanMerge}
use Rattle.std.specs.FinMap.{get, insert}
use Rattle.camp_base.specs.declared.faults.Apply.{Apply}
use Rattle.camp_base.specs.declared.faults.Apply.TheVariants.{DoesNotApply, Memory}
use Rattle.camp_prim.specs.Applied.{AppliedIsApplies, InverseLeadsBack}
use Rattle.camp_prim.specs.Effect.{inverted}
use Rattle.camp_prim.specs.Laws.{SameEffect}
use Rattle.camp_prim.specs.declared.named.Named.{Named}
use Rattle.camp_prim.specs.declared.primitives.Primitive.TheVariants.{Add, Remove}
use Rattle.camp_seq.specs.Laws as lists
use Rattle.camp_seq.specs.Laws.{MergeCloses}
use Rattle.camp_seq.specs.Running.{AppliesAll, inverse_all}

pub applies_once : AppliedIsApplies → (p : Primitive) (old a b : Files) → Applies p old a → Applies p old b → a ≡ b
applies_once is p old a b x y = same_Some a b (sym ((is p old a).1 x) ∙ (is p old b).1 y)

pub runs_once : AppliedIsApplies → (s : List Named) (old a b : Files) → AppliesAll s old a → AppliesAll s old b → a ≡ b
runs_once is [] old a b x y = x ∙ sym y
runs_once is (p ∷ s) old a b (m, first, rest) (n, other, others) =
    runs_once is s n a b (subst (λ tree. AppliesAll s tree a) (applies_once is p.prim old m n first other) rest) others

-- a file that was added can be removed again, if memory does not run out
pub taken_away : AppliedIsApplies → InverseLeadsBack → (path : List ℕ) (old between new : Files) (result : Result (Unit {0}) Apply) → Adds path old between → Answers (Removes path) between result new → OnOk result (new ≡ old) × ¬ (result ≡ Err DoesNotApply)
taken_away is back path old between new (Ok done) adds removes =
    (applies_once is (Remove path) between new old removes ((back (Add path) old between).0 adds), λ e. cc)
taken_away is back path old between new (Err DoesNotApply) adds (none, kept) =
    absurd (none old ((back (Add path) old between).0 adds))
taken_away is back path old between new (Err Memory) adds kept = (tt, λ e. cc)

-- without the first of two that commute, the other one applies alone
pub taken_out : AppliedIsApplies → InverseLeadsBack → (p q alone last : Named) → SameEffect p q alone last → (old now new : Files) → Applies (inverted last.prim) now new → Leads p.prim q.prim old now → Applies alone.prim old new
taken_out is back p q alone last same old now new undone leads =
    let other = (same old now).0 leads in
    let again = (back last.prim other.between now).0 other.second in
    subst (λ tree. Applies alone.prim old tree) (applies_once is (inverted last.prim) now other.between new again undone) other.first

-- a file that cannot be added is there
there : (path : List ℕ) (old : Files) (o : Option Lines) → ((new : Files) → ¬ (Adds path old new)) → get old path ≡ o → IsSome o
there path old None none is = absurd (none (insert old path []) (record { absent = is; becomes = refl }))
there path old (Some lines) none is = refl

pub present : (path : List ℕ) (old new : Files) (fault : Apply) → Answers (Adds path) old (Err fault) new → fault ≡ DoesNotApply → IsSome (get old path)
present path old new DoesNotApply (none, kept) e = there path old (get old path) none refl
present path old new Memory kept e = cc

-- the inverse of a list undoes what the list did
pub undone : AppliedIsApplies → lists.InverseOfListLeadsBack → (s t : List Named) (old between new : Files) (result : Result (Unit {0}) Apply) → t ≡ inverse_all s → AppliesAll s old between → AnswersByTrial (AppliesAll t) between result new → OnOk result (new ≡ old)
undone is back s t old between new (Ok done) same runs again = runs_once is (inverse_all s) between new old (subst (λ u. AppliesAll u between new) same again) ((back s old between).0 runs)
undone is back s t old between new (Err DoesNotApply) same runs again = tt
undone is back s t old between new (Err Memory) same runs again = tt

-- two lists that merge lead to one tree
pub one_tree : AppliedIsApplies → MergeCloses → (a b b' a' : List Named) (old left right here other : Files) → CleanMerge a b b' a' → AppliesAll a old left → AppliesAll b' left here → AppliesAll b old right → AppliesAll a' right other → here ≡ other
one_tree is closes a b b' a' old left right here other merge first behind second beside =
    let (new, l, r) = closes a b b' a' merge old left right first second in
    runs_once is b' left here new behind l ∙ sym (runs_once is a' right other new beside r)
