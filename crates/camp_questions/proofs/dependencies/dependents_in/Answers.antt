use Rattle.camp_questions.proofs.Words.{IfOk-weaker, List, map, ◌≡◌, ◌∙◌, ap, subst, Catch, name_of, names_in, catches_in_order, DependsOnTakenOut, CanBeTakenOut, GrowsToTakeOut}
use Rattle.camp_questions.proofs.BranchGrowths.{to_go}
use Rattle.camp_questions.proofs.Growing.{grown_in_order}
use Rattle.camp_questions.proofs.PatchesOfLists.{patches_there}
use Rattle.camp_questions.proofs.dependencies.dependents_in.Goals as goal

pub by_patch-requires : goal.by_patch-requires
by_patch-requires c =
    patches_there c.args.branch.now c.deref.result.now (c.deref.ensures.value ∙ c.in_ok-to_vec.ensures.exact ∙ c.catches-2.ensures.value) c.catches-2.ensures.lawful

pub returns : goal.returns
returns c =
    let branch : List Catch = c.args.branch.now in
    let list : c.deref.result.now ≡ branch = c.deref.ensures.value ∙ c.in_ok-to_vec.ensures.exact ∙ c.catches-2.ensures.value in
    let whole : catches_in_order c.deref-2.result.now ≡ branch = ap catches_in_order c.deref-2.ensures.value ∙ c.in_ok-patches.ensures.catches ∙ list in
    let grows = subst (λ l. GrowsToTakeOut l (names_in c.in_ok-named.named) (names_in c.in_ok-held.held)) whole c.in_ok-held.ensures in
    IfOk-weaker c.in_order.result _ _ (λ told is. grown_in_order (map name_of branch) (CanBeTakenOut branch) (DependsOnTakenOut branch) (to_go branch) branch c.args.names.now (names_in c.in_ok-named.named) (names_in c.in_ok-held.held) told c.in_ok-named.ensures.exact grows is) c.in_order.ensures
