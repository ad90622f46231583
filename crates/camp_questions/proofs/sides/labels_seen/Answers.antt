use Rattle.camp_questions.proofs.Words.{List, Catch, Named, ◌≡◌, ◌≤◌, ◌+◌, ◌-◌, ◌++◌, ◌∙◌, ap, arith, drop, drop_all, effect_of, get, length, subst, inverse_all, IsGathered, AreSeen, contexted_in}
use Rattle.camp_questions.proofs.SeenLabels.{catch_before, nothing_so_far, one_so_far, seen_in_all}
use Rattle.camp_questions.specs.Inside.Seeing.{from_first_conflictor}
use Rattle.camp_questions.proofs.sides.labels_seen.Goals as goal

pub loop-at-init : goal.loop-at-init
loop-at-init c =
    nothing_so_far (drop c.len-at.result c.in_ok-catches.catches.items) c.empty-undone.result c.empty-seen.result (drop_all c.len-at.result c.in_ok-catches.catches.items (omega (arith, c.len-at.ensures, c.in_ok-catches.catches.ok.0))) c.empty-undone.ensures.exact c.empty-seen.ensures.exact

pub loop-at-preserved : goal.loop-at-preserved
loop-at-preserved c =
    let catches : List Catch = c.in_ok-catches.catches.items in
    let k : Catch = c.index-catch.result.now in
    let at = c.loop-at.at in
    let undone : List Named = c.loop-at.undone in
    let follows : at - 1 + 1 ≡ at = omega arith in
    let within : at ≤ length catches = omega (arith, c.len-at.ensures, c.in_ok-catches.catches.ok.0) in
    let effect : c.effect.result.now ≡ effect_of k = c.effect.ensures.exact ∙ ap effect_of c.deref-in-loop-at.ensures in
    one_so_far k (drop at catches) (drop (at - 1) catches) undone c.append_inverse.new.list c.loop-at.seen c.in_ok-seen.seen (catch_before catches (at - 1) at k k follows within c.index-catch.ensures) c.loop-at.invariant
    (λ key. subst (λ j. IsGathered undone (get c.loop-at.seen key) (contexted_in j key) (get c.in_ok-seen.seen key)) c.deref.ensures (c.in_ok-seen.ensures key))
    (c.in_ok-append_inverse.ensures ∙ ap (λ e. undone ++ inverse_all e) effect)

pub returns : goal.returns
returns c =
    let none : c.loop-at.at ≡ 0 = omega arith in
    seen_in_all c.args.branch.now c.loop-at.seen
    (subst (λ l. AreSeen l c.loop-at.seen) (ap (λ n. drop n c.in_ok-catches.catches.items) none ∙ c.in_ok-catches.ensures ∙ ap from_first_conflictor c.catches-2.ensures.value) c.loop-at.invariant.are)
