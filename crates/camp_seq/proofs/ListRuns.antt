-- The effect of lists of primitives on trees: of joined lists, commuted lists, inverses.
use Rattle.camp_seq.proofs.Words.{◌≡◌, List, [], ◌∷◌, ◌++◌, map, reverse, refl, sym, ap, ◌∙◌, subst, reverse-append, map-append, Files, inverse_of, Commute, Named, leads_back, inverse_of-inverse_of, effect, CommutesOnce, EquivalentRun, InverseOfListLeadsBack, AppliesAll, inverse_all, ℕ, ◌+◌, ◌<◌, Err, length, take, drop, get_or, drop_more, take_more, Answers, AnswersByTrial, Applies}
use Rattle.camp_seq.proofs.ExchangeSteps.{shared}
use Rattle.camp_base.specs.declared.faults.Apply.{Apply}
use Rattle.camp_base.specs.declared.faults.Apply.TheVariants.{DoesNotApply, Memory}
use Rattle.camp_prim.proofs.Applied.{applies_once}
use Rattle.camp_seq.proofs.ListSteps.{whole}

pub joined_runs : (s t : List Named) (old between new : Files) → AppliesAll s old between → AppliesAll t between new → AppliesAll (s ++ t) old new
joined_runs [] t old between new r q = subst (λ x. AppliesAll t x new) r q
joined_runs (p ∷ s) t old between new r q = (r.0, r.1, joined_runs s t r.0 between new r.2 q)

-- a run of two lists reaches a tree between them
pub cut_run : (s t : List Named) (old new : Files) → AppliesAll (s ++ t) old new → (between : Files) × AppliesAll s old between × AppliesAll t between new
cut_run [] t old new r = (old, refl, r)
cut_run (p ∷ s) t old new r =
    let cut = cut_run s t r.0 new r.2 in
    (cut.0, (r.0, r.1, cut.1), cut.2)

swapped_runs : (p q q' p' : Named) (after : List Named) (old new : Files) → Commute p q q' p' → AppliesAll (p ∷ q ∷ after) old new → AppliesAll (q' ∷ p' ∷ after) old new
swapped_runs p q q' p' after old new s r =
    let leads = (effect p q q' p' s old r.2.0).0 (record { between = r.0; first = r.1; second = r.2.1 }) in
    (leads.between, leads.first, (r.2.0, leads.second, r.2.2))

exchanged_runs : (s t : List Named) (old new : Files) → CommutesOnce Commute s t → AppliesAll s old new → AppliesAll t old new
exchanged_runs s t old new e r =
    let cut = cut_run e.before (e.p ∷ e.q ∷ e.after) old new (subst (λ x. AppliesAll x old new) e.was r) in
    subst (λ x. AppliesAll x old new) (sym e.becomes) (joined_runs e.before (e.q' ∷ e.p' ∷ e.after) old cut.0 new cut.1 (swapped_runs e.p e.q e.q' e.p' e.after cut.0 new e.turns cut.2))

pub equivalent_run : EquivalentRun
equivalent_run s t e old new = shared (λ x. AppliesAll x old new) (λ x y w r. exchanged_runs x y old new w r) s t e

pub inverse_all-cons : (p : Named) (s : List Named) → inverse_all (p ∷ s) ≡ inverse_all s ++ inverse_of p ∷ []
inverse_all-cons p s = reverse-append (inverse_of p ∷ []) (map inverse_of s)

pub inverse_all-append : (s t : List Named) → inverse_all (s ++ t) ≡ inverse_all t ++ inverse_all s
inverse_all-append s t = ap reverse (map-append inverse_of s t) ∙ reverse-append (map inverse_of s) (map inverse_of t)

pub inverse_all-inverse_all : (s : List Named) → inverse_all (inverse_all s) ≡ s
inverse_all-inverse_all [] = refl
inverse_all-inverse_all (p ∷ s) =
    ap inverse_all (inverse_all-cons p s) ∙ inverse_all-append (inverse_all s) (inverse_of p ∷ []) ∙ ap (λ x. x ∷ inverse_all (inverse_all s)) (inverse_of-inverse_of p) ∙ ap (λ x. p ∷ x) (inverse_all-inverse_all s)

pub runs_back : (s : List Named) (old new : Files) → AppliesAll s old new → AppliesAll (inverse_all s) new old
runs_back [] old new r = sym r
runs_back (p ∷ s) old new r =
    subst (λ x. AppliesAll x new old) (sym (inverse_all-cons p s)) (joined_runs (inverse_all s) (inverse_of p ∷ []) new r.0 old (runs_back s r.0 new r.2) (old, leads_back p.prim old r.0 r.1, refl))

pub inverse_all_leads_back : InverseOfListLeadsBack
inverse_all_leads_back s old new =
    (runs_back s old new, λ r. subst (λ x. AppliesAll x old new) (inverse_all-inverse_all s) (runs_back (inverse_all s) new old r))

pub run_more : (s : List Named) (i : ℕ) (p : Named) (old between new : Files) → i < length s → p ≡ get_or s i p → AppliesAll (take i s) old between → Applies p.prim between new → AppliesAll (take (i + 1) s) old new
run_more s i p old between new within is runs applies =
    let more : take (i + 1) s ≡ take i s ++ p ∷ [] = take_more s i p within ∙ ap (λ x. take i s ++ x ∷ []) (sym is) in
    subst (λ x. AppliesAll x old new) (sym more) (joined_runs (take i s) (p ∷ []) old between new runs (new, applies, refl))

no_run : (s : List Named) (p : Named) (rest : List Named) (old between : Files) → AppliesAll s old between → ((any : Files) → ¬ (Applies p.prim between any)) → (new : Files) → ¬ (AppliesAll (s ++ p ∷ rest) old new)
no_run [] p rest old between runs never new r = never r.0 (subst (λ x. Applies p.prim x r.0) (sym runs) r.1)
no_run (q ∷ s) p rest old between runs never new r =
    no_run s p rest runs.0 between runs.2 never new (subst (λ x. AppliesAll (s ++ p ∷ rest) x new) (applies_once q.prim old r.0 runs.0 r.1 runs.1) r.2)

-- if a primitive does not apply to the tree that those before it give, the list leads to no tree
pub run_stops : (s : List Named) (i : ℕ) (p : Named) (old between after : Files) (fault : Apply) → i < length s → p ≡ get_or s i p → AppliesAll (take i s) old between → Answers (Applies p.prim) between (Err fault) after → AnswersByTrial (AppliesAll s) old (Err fault) old
run_stops s i p old between after DoesNotApply within is runs answer =
    let next : drop i s ≡ p ∷ drop (i + 1) s = drop_more s i p within ∙ ap (λ x. x ∷ drop (i + 1) s) (sym is) in
    (λ new r. no_run (take i s) p (drop (i + 1) s) old between runs answer.0 new (subst (λ x. AppliesAll x old new) (whole s i (p ∷ drop (i + 1) s) next) r), refl)
run_stops s i p old between after Memory within is runs answer = refl
