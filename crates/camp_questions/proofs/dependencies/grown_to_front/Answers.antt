use Rattle.camp_questions.proofs.Words.{IfOk-weaker, reverse, ◌≡◌, ◌∙◌, subst, names_in, catches_in_order, GrowsToFront, GrowsToTakeOut, IsInverted}
use Rattle.camp_questions.proofs.PatchesBack.{needed_taken_back, reversed}
use Rattle.camp_questions.proofs.PatchesOfLists.{patches_there}
use Rattle.camp_questions.proofs.dependencies.grown_to_front.Goals as goal

pub inverted_patches-requires : goal.inverted_patches-requires
inverted_patches-requires c =
    patches_there c.args.branch.now c.deref.result.now (c.deref.ensures.value ∙ c.in_ok-catches.ensures.exact ∙ c.catches-2.ensures.value) c.catches-2.ensures.lawful

pub dependents_by_pass-requires : goal.dependents_by_pass-requires
dependents_by_pass-requires c =
    let back : IsInverted c.deref.result.now c.in-Some.back.items = rw c.in-Some.is at c.in_ok-back.ensures in
    rw (c.deref-in-Some.ensures.value, c.reverse.ensures.items) (reversed c.in-Some.back.items back.are)

pub returns-in-Some : goal.returns-in-Some
returns-in-Some c =
    let names = names_in c.args.names in
    let list : c.deref.result.now ≡ c.args.branch.now = c.deref.ensures.value ∙ c.in_ok-catches.ensures.exact ∙ c.catches-2.ensures.value in
    let back : IsInverted c.deref.result.now c.in-Some.back.items = rw c.in-Some.is at c.in_ok-back.ensures in
    let turned : c.deref-in-Some.result.now ≡ reverse c.in-Some.back.items = c.deref-in-Some.ensures.value ∙ c.reverse.ensures.items in
    IfOk-weaker c.dependents_by_pass.result (λ grown. GrowsToTakeOut (catches_in_order c.deref-in-Some.result.now) names (names_in grown)) (λ grown. GrowsToFront c.args.branch.now names (names_in grown)) (λ grown grows. needed_taken_back c.args.branch.now c.in-Some.back.items names (names_in grown) (subst (λ l. IsInverted l c.in-Some.back.items) list back) (subst (λ l. GrowsToTakeOut (catches_in_order l) names (names_in grown)) turned grows)) c.dependents_by_pass.ensures
