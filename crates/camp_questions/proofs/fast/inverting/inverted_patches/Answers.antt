use Rattle.camp_questions.proofs.Words.{◌∙◌, arith, refl, subst, take_all, AreInverses, PatchCatches, all_zip_more}
use Rattle.camp_questions.proofs.PatchesBack.{AreAllBack, IsBack, all_back}
use Rattle.camp_questions.proofs.fast.inverting.inverted_patches.Goals as goal

pub loop-patch-preserved : goal.loop-patch-preserved
loop-patch-preserved c =
    let p : PatchCatches = c.patch-item.result in
    let b : PatchCatches = record { name = p.name; catches = c.in-Some.catches } in
    let inverses : AreInverses p.catches.items b.catches.items = rw (c.in-Some.is, c.deref.ensures.value) at c.in_ok-catches.ensures in
    rw c.in_ok-push.ensures.items (all_zip_more IsBack c.deref-patch-items.result.now c.loop-patch.back.items c.loop-patch.patch-index p b (omega arith) c.patch-item.is c.loop-patch.invariant (refl, inverses))

pub returns : goal.returns
returns c =
    all_back c.args.list.now c.in_ok-patches.patches.items c.loop-patch.back.items c.in_ok-patches.ensures (c.in_ok-have_room.ensures c.if-not-branch.false) (subst (λ l. AreAllBack l c.loop-patch.back.items) (take_all c.loop-patch.patch-index c.deref-patch-items.result.now (omega arith) ∙ c.deref-patch-items.ensures.value) c.loop-patch.invariant)
