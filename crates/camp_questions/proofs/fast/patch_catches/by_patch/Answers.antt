use Rattle.camp_questions.proofs.Words.{ap, arith, ◌∙◌, name_of, PatchCatches}
use Rattle.camp_questions.proofs.PatchesOfLists.{all_found, none_found, one_found}
use Rattle.camp_questions.proofs.fast.patch_catches.by_patch.Goals as goal

pub loop-start-init : goal.loop-start-init
loop-start-init c = rw c.new-patches.ensures.items (none_found c.args.list.now c.requires.0 c.requires.1)

pub loop-start-preserved : goal.loop-start-preserved
loop-start-preserved c =
    let b : PatchCatches = record { name = c.name-name.result.now; catches = c.in_ok-catches.catches } in
    rw c.in_ok-push.ensures.items (one_found c.args.list.now c.loop-start.start c.end_of_patch-end.result c.loop-start.patches.items b c.index-list-start.result c.index-list-start.result c.loop-start-test.true c.end_of_patch-end.ensures.exact c.index-list-start.is (c.name-name.ensures.exact ∙ ap name_of c.deref.ensures) c.in_ok-catches.ensures c.loop-start.invariant).0

pub returns : goal.returns
returns c =
    all_found c.args.list.now c.loop-start.start c.loop-start.patches.items (omega (arith, c.loop-start-test.false)) c.loop-start.invariant
