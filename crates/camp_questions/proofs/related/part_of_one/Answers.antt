use Rattle.camp_questions.proofs.Words.{◌∙◌}
use Rattle.camp_questions.proofs.PatchesOfLists.{patches_there}
use Rattle.camp_questions.proofs.related.part_of_one.Goals as goal

pub inverted_patches-requires : goal.inverted_patches-requires
inverted_patches-requires c =
    patches_there c.args.branch.now c.deref.result.now (c.deref.ensures.value ∙ c.in_ok-catches.ensures.exact ∙ c.catches-2.ensures.value) c.catches-2.ensures.lawful
