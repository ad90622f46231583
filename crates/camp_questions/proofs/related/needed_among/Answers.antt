use Rattle.camp_questions.proofs.Words.{List, ◌++◌, [], ◌∷◌, ◌∙◌, ap, arith, refl, subst, ℕ, is_among, names_in, take_all, AreAlike, Needed}
use Rattle.camp_questions.proofs.PartsOfOne.{grown_marks, none_marked, one_marked}
use Rattle.camp_questions.specs.Inside.PartsOfOne.{AreMarkedAmong}
use Rattle.camp_questions.proofs.related.needed_among.Goals as goal

pub loop-name-init : goal.loop-name-init
loop-name-init c branch inverted = none_marked branch c.args.names.now c.in_ok-all.all.items c.in_ok-all.ensures.items

pub loop-name-preserved : goal.loop-name-preserved
loop-name-preserved c branch inverted =
    let names : List (List ℕ) = c.args.names.now in
    let name : List ℕ = c.name-item.result in
    let one : Needed = record { name = name; needs = c.in_ok-needs.needs } in
    let alike : AreAlike (names_in c.in_ok-named.named) (name ∷ []) = λ n. c.in_ok-named.ensures.exact n ∙ ap (λ l. is_among l n) c.from_ref.ensures.value in
    let marks = grown_marks branch c.args.back.now names (names_in c.in_ok-named.named) (names_in c.in_ok-grown.grown) one inverted alike c.in_ok-grown.ensures c.in_ok-needs.ensures in
    rw c.in_ok-push.ensures.items (one_marked branch names names c.loop-name.name-index name name c.loop-name.all.items (c.loop-name.all.items ++ one ∷ []) one (omega arith) c.name-item.is (c.loop-name.invariant branch inverted) marks refl refl)

pub returns : goal.returns
returns c branch inverted =
    let names : List (List ℕ) = c.args.names.now in
    subst (λ l. AreMarkedAmong branch names l c.loop-name.all.items) (take_all c.loop-name.name-index names (omega arith)) (c.loop-name.invariant branch inverted)
