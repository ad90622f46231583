use Rattle.camp_questions.proofs.Words.{List, ◌++◌, [], ◌∷◌, ◌∙◌, ap, arith, refl, ℕ, is_among, names_in, take_all, AreAlike, Needed}
use Rattle.camp_questions.proofs.GraphSteps.{all_needed, grown_needs, none_needed, one_needed}
use Rattle.camp_questions.proofs.needed.needed_by_blockers.Goals as goal

pub loop-name-init : goal.loop-name-init
loop-name-init c = none_needed c.args.catches.now c.args.names.now c.in_ok-all.all.items c.in_ok-all.ensures.items

pub loop-name-preserved : goal.loop-name-preserved
loop-name-preserved c =
    let names : List (List ℕ) = c.args.names.now in
    let name : List ℕ = c.name-item.result in
    let one : Needed = record { name = name; needs = c.in_ok-needs.needs } in
    let alike : AreAlike (names_in c.in_ok-named.named) (name ∷ []) = λ n. c.in_ok-named.ensures.exact n ∙ ap (λ l. is_among l n) c.from_ref.ensures.value in
    let needs = grown_needs c.args.catches.now names name (names_in c.in_ok-named.named) (names_in c.in_ok-grown.grown) c.in_ok-needs.needs.items c.requires alike c.in_ok-grown.ensures c.in_ok-needs.ensures in
    rw c.in_ok-push.ensures.items (one_needed c.args.catches.now names names c.loop-name.name-index name name c.loop-name.all.items (c.loop-name.all.items ++ one ∷ []) one (omega arith) c.name-item.is c.loop-name.invariant needs refl refl)

pub returns : goal.returns
returns c =
    all_needed c.args.catches.now c.args.names.now _ c.loop-name.all.items (take_all c.loop-name.name-index c.args.names.now (omega arith)) c.loop-name.invariant
