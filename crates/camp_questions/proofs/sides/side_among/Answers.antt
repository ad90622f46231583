use Rattle.camp_questions.proofs.Words.{subst, sym, some_member, members_of, AppendsIfNamed}
use Rattle.camp_questions.proofs.SeenLabels.{all_come, one_comes}
use Rattle.camp_questions.proofs.sides.side_among.Goals.{in-Some+in_ok-append_named, in_default}
use Rattle.camp_questions.proofs.sides.side_among.Goals as goal

pub loop-index-preserved : goal.loop-index-preserved
loop-index-preserved c = elim c.match-at.branch [
  | in-Some+in_ok-append_named w ↦
      let at = rw w.in-Some.is at c.at.ensures.exact in
      one_comes c.args.name.now (members_of c.args.seen.now) c.loop-index.index _ c.loop-index.side c.match-at.side at c.loop-index.invariant (subst (AppendsIfNamed c.loop-index.side c.args.name.now _) (sym w.side-is) w.in_ok-append_named.ensures)
  | in_default w ↦
      let none = rw w.in_default.is at c.at.ensures.exact in
      some_member c.args.seen.now c.loop-index.index _ c.len-index-end.ensures.value c.loop-index-test.true none
]

pub returns : goal.returns
returns c =
    all_come c.args.name.now c.args.seen.now c.loop-index.index c.len-index-end.result c.loop-index.side c.len-index-end.ensures.value c.loop-index-test.false c.loop-index.invariant
