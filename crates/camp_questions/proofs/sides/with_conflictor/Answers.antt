use Rattle.camp_questions.proofs.Words.{[], ◌∷◌, subst, sym, some_member, AllGathered}
use Rattle.camp_questions.proofs.SeenLabels.{conflictor_told, one_member_told}
use Rattle.camp_questions.proofs.sides.with_conflictor.Goals.{in-Some+in_ok-seen-2, in_default}
use Rattle.camp_questions.proofs.sides.with_conflictor.Goals as goal

pub loop-index-preserved : goal.loop-index-preserved
loop-index-preserved c = elim c.match-at.branch [
  | in-Some+in_ok-seen-2 w ↦
      let at = rw w.in-Some.is at c.at.ensures.exact in
      one_member_told c.args.undone.now c.args.k.now c.loop-index.index _ c.args.was c.loop-index.seen c.match-at.seen at c.loop-index.invariant (subst (AllGathered c.args.undone.now (w.in-Some.member.now ∷ []) c.loop-index.seen) (sym w.seen-is) w.in_ok-seen-2.ensures)
  | in_default w ↦
      let none = rw w.in_default.is at c.at.ensures.exact in
      some_member c.args.k.now.conflicts c.loop-index.index _ c.len-index-end.ensures.value c.loop-index-test.true none
]

pub returns : goal.returns
returns c key =
    conflictor_told c.args.undone.now c.args.k.now c.args.was c.loop-index.seen c.loop-index.index c.len-index-end.result c.len-index-end.ensures.keyed c.len-index-end.ensures.value c.loop-index-test.false c.loop-index.invariant key
