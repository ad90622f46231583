-- Branches lead to exactly one tree, also after a pull and after an obliteration.
use Rattle.camp_branch.proofs.Words.{◌≡◌, ℕ, ◌+◌, false, List, [], ◌∷◌, ◌++◌, flat_map, Ok, sym, ◌∙◌, subst, empty, Files, Named, Primitive, AppliesAll, joined_runs, FitsAll, effect_of, keys_of, Catch, one_runs, plain_fits, run_once, lists_keep_effects, LeadsTo, recorded, AppliesEach, ObliterateGives, other_names, PullGives, common_names}
use Rattle.camp_branch.proofs.Steps.{pulled_by, left_by}

pub one_end : (list : List Catch) (old new other : Files) → FitsAll list old new → FitsAll list old other → new ≡ other
one_end [] old new other v w = v ∙ sym w
one_end (j ∷ list) old new other v w =
    let same = run_once (effect_of j) old v.0 w.0 v.1.effect w.1.effect in
    one_end list w.0 new other (subst (λ t. FitsAll list t new) same v.2) w.2

pub joined_fits : (s t : List Catch) (old between new : Files) → FitsAll s old between → FitsAll t between new → FitsAll (s ++ t) old new
joined_fits [] t old between new v w = subst (λ x. FitsAll t x new) v w
joined_fits (j ∷ s) t old between new v w = (v.0, v.1, joined_fits s t v.0 between new v.2 w)

pub pulled_tree : (from to pulled : List Catch) (wanted : List (List ℕ)) (theirs ours : Files) → PullGives from to wanted (Ok pulled) → LeadsTo from theirs → LeadsTo to ours → (tree : Files) × LeadsTo pulled tree
pulled_tree from to pulled wanted theirs ours gives v w =
    let p = pulled_by from to wanted pulled gives in
    let common = common_names from to in
    let a = lists_keep_effects.arranged common from p.from_common p.behind p.own_front empty theirs v in
    let c = lists_keep_effects.arranged wanted p.behind p.chosen p.left p.choice a.0 theirs a.2 in
    let b = lists_keep_effects.arranged common to p.to_common p.others p.their_front empty ours w in
    let aligned = lists_keep_effects.aligned (keys_of p.to_common) p.from_common p.to_common p.same empty a.0 a.1 in
    let same : a.0 ≡ b.0 = one_end p.to_common empty a.0 b.0 aligned b.1 in
    let m = lists_keep_effects.merged p.chosen p.others p.taken p.beside p.merge b.0 ours c.0 b.2 (subst (λ t. FitsAll p.chosen t c.0) same c.1) in
    (m.0, subst (λ l. LeadsTo l m.0) (sym p.becomes) (joined_fits to p.taken empty ours m.0 w m.1))

pub left_tree : (branch left : List Catch) (names : List (List ℕ)) (own : Files) → ObliterateGives branch names (Ok left) → LeadsTo branch own → (tree : Files) × LeadsTo left tree
left_tree branch left names own gives v =
    let w = left_by branch names left gives in
    let a = lists_keep_effects.arranged (other_names branch names) branch left w.0 w.1 empty own v in
    (a.0, a.1)

pub tree_of_effects : (list : List Catch) (old new : Files) → FitsAll list old new → AppliesAll (flat_map effect_of list) old new
tree_of_effects [] old new v = v
tree_of_effects (j ∷ list) old new v =
    joined_runs (effect_of j) (flat_map effect_of list) old v.0 new v.1.effect (tree_of_effects list v.0 new v.2)

recorded_fits : (name : List ℕ) (place : ℕ) (changes : List Primitive) (old new : Files) → AppliesEach changes old new → FitsAll (recorded name place changes) old new
recorded_fits name place [] old new v = v
recorded_fits name place (change ∷ changes) old new v =
    let p : Named = record { name = name; place = place; inverse = false; prim = change } in
    (v.0, plain_fits p old v.0 (one_runs p old v.0 v.1), recorded_fits name (place + 1) changes v.0 new v.2)

pub recorded_tree : (branch : List Catch) (name : List ℕ) (changes : List Primitive) (old new : Files) → LeadsTo branch old → AppliesEach changes old new → LeadsTo (branch ++ recorded name 1 changes) new
recorded_tree branch name changes old new v w =
    joined_fits branch (recorded name 1 changes) empty old new v (recorded_fits name 1 changes old new w)
