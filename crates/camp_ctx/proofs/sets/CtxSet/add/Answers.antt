use Rattle.camp_ctx.proofs.Words.{ap, subst, sym, ◌∙◌, key_cmp, map_of, AddsAll, AreKeyed, EachMember}
use Rattle.camp_ctx.proofs.SetSteps.{nothing_added, entry_at, one_more_put, none_missing, all_added, keyed_sum}
use Rattle.camp_ctx.proofs.sets.CtxSet.add.Goals.{in-Some+in_ok-sum+in_ok-insert_if_absent, in_default}
use Rattle.camp_ctx.proofs.sets.CtxSet.add.Goals as goal

pub loop-index-init : goal.loop-index-init
loop-index-init c = nothing_added c.args.r.now _ (c.in_ok-members.ensures.exact ∙ c.new.ensures.exact)

pub loop-index-preserved : goal.loop-index-preserved
loop-index-preserved c = elim c.match-at.branch [
  | in-Some+in_ok-sum+in_ok-insert_if_absent w ↦
      let entry = rw w.in-Some.is at c.at.ensures.exact in
      one_more_put c.args.r.now c.args.set.now (map_of key_cmp c.loop-index.members) (map_of key_cmp c.match-at.members) c.loop-index.index _ _ _ (entry_at _ _ _ _ c.set.view_is entry) w.in_ok-sum.ensures.exact (ap (map_of key_cmp) w.members-is ∙ w.in_ok-insert_if_absent.ensures.exact) c.loop-index.invariant
  | in_default w ↦
      let none = rw w.in_default.is at c.at.ensures.exact in
      absurd (none_missing _ _ _ c.len-index-end.ensures.value c.loop-index-test.true none)
]

pub invariant_of-result : goal.invariant_of-result
invariant_of-result c =
    let sum : EachMember (AddsAll c.args.r.now) c.args.set.now (map_of key_cmp c.loop-index.members) =
    all_added c.args.r.now _ c.args.set.now _ _ _ c.set.view_is c.len-index-end.ensures.value c.loop-index-test.false c.loop-index.invariant in
    subst AreKeyed (sym c.in_ok-members-2.ensures.exact) (keyed_sum c.args.r.now c.args.set.now _ sum (subst AreKeyed c.set.view_is c.set.invariant))

pub returns : goal.returns
returns c = record { exact = subst (EachMember (AddsAll c.args.r.now) c.args.set.now) (sym c.in_ok-members-2.ensures.exact) (all_added c.args.r.now _ c.args.set.now _ _ _ c.set.view_is c.len-index-end.ensures.value c.loop-index-test.false c.loop-index.invariant) }
