use Rattle.camp_questions.proofs.Words.{List, ◌≡◌, ◌+◌, [], ◌∷◌, ◌∙◌, ap, arith, length, length-append, subst, sym, get_or-map, length-map, names_in_order, AreFilesOf, AreKnown, AreReached, PatchCatches, Needed}
use Rattle.camp_questions.proofs.FileMarks.{as_many_files}
use Rattle.camp_questions.proofs.ReachedPatches.{all_known, none_known, one_known}
use Rattle.camp_questions.proofs.fast.reaching.all_reached.Goals as goal

pub loop-patch-init : goal.loop-patch-init
loop-patch-init c = record {
  count = ap length c.in_ok-all.ensures.items;
  known = λ branch inverted. none_known branch (names_in_order c.args.patches.now) c.in_ok-all.all.items c.in_ok-all.ensures.items;
}

pub reached-requires-clause-known : goal.reached-requires-clause-known
reached-requires-clause-known c =
    (c.requires.0, c.requires.1, subst (AreKnown c.requires.0 (names_in_order c.args.patches.now)) (sym c.deref-in-loop-patch.ensures.value) (c.loop-patch.invariant.known c.requires.0 c.requires.1).known)

pub reached-requires-clause-next : goal.reached-requires-clause-next
reached-requires-clause-next c =
    let same = ap length c.deref-in-loop-patch.ensures.value in
    let count = c.loop-patch.invariant.count in omega (arith, same, count)

pub reached-requires-clause-files : goal.reached-requires-clause-files
reached-requires-clause-files c =
    subst (AreFilesOf c.args.patches.now) (sym c.deref.ensures.value) c.in_ok-files.ensures

pub reached-requires-clause-each : goal.reached-requires-clause-each
reached-requires-clause-each c =
    ap length c.deref.ensures.value ∙ as_many_files c.args.patches.now c.in_ok-files.files.items c.in_ok-files.ensures

pub loop-patch-preserved : goal.loop-patch-preserved
loop-patch-preserved c =
    let patches : List PatchCatches = c.args.patches.now in
    let names = names_in_order patches in
    let p : PatchCatches = c.patch-item.result in
    let one : Needed = record { name = p.name; needs = c.in_ok-needs.needs } in
    let long = length-map patches (λ (x : PatchCatches). x.name) in
    let called : p.name ≡ _ = ap (λ (x : PatchCatches). x.name) c.patch-item.is ∙ sym (get_or-map (λ (x : PatchCatches). x.name) patches c.loop-patch.patch-index p p.name (omega arith)) in
    record {
      count = ap length c.in_ok-push.ensures.items ∙ length-append c.loop-patch.all.items (one ∷ []) ∙ ap (λ n. n + 1) c.loop-patch.invariant.count;
      known = λ branch inverted.
          let so_far = c.loop-patch.invariant.known branch inverted in
          let reached = c.in_ok-needs.ensures branch inverted (subst (AreKnown branch names) (sym c.deref-in-loop-patch.ensures.value) so_far.known) in
          let here = subst (λ n. AreReached branch names n one.needs.items) (ap length c.deref-in-loop-patch.ensures.value ∙ c.loop-patch.invariant.count) reached in
          one_known branch names c.loop-patch.patch-index c.loop-patch.all.items c.push.new.self.items one c.loop-patch.invariant.count (omega (arith, long)) so_far called here c.in_ok-push.ensures.items;
    }

pub returns : goal.returns
returns c branch inverted =
    let long = length-map c.args.patches.now (λ (x : PatchCatches). x.name) in
    all_known branch (names_in_order c.args.patches.now) c.loop-patch.patch-index c.loop-patch.all.items (omega (arith, long)) (c.loop-patch.invariant.known branch inverted)
