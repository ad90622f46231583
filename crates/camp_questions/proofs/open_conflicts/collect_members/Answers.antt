use Rattle.camp_questions.proofs.Words.{ap, ◌∙◌, some_member, members_of}
use Rattle.camp_questions.proofs.OpenPairs.{all_open, one_more_open}
use Rattle.camp_questions.proofs.open_conflicts.collect_members.Goals.{in-Some+in_ok-collect_member, in_default}
use Rattle.camp_questions.proofs.open_conflicts.collect_members.Goals as goal

pub loop-index-preserved : goal.loop-index-preserved
loop-index-preserved c = elim c.match-at.branch [
  | in-Some+in_ok-collect_member w ↦
      let at = rw w.in-Some.is at c.at.ensures.exact in
      one_more_open c.args.seen.now c.args.name.now (members_of c.args.set.now) c.loop-index.index _ c.args.pairs.now.items c.loop-index.pairs.items c.match-at.pairs.items at c.loop-index.invariant (ap (λ v. v.items) w.pairs-is ∙ w.in_ok-collect_member.ensures)
  | in_default w ↦
      let none = rw w.in_default.is at c.at.ensures.exact in
      some_member c.args.set.now c.loop-index.index _ c.len-index-end.ensures.value c.loop-index-test.true none
]

pub returns : goal.returns
returns c =
    all_open c.args.seen.now c.args.name.now c.args.set.now c.loop-index.index c.len-index-end.result c.args.pairs.now.items c.loop-index.pairs.items c.len-index-end.ensures.keyed c.len-index-end.ensures.value c.loop-index-test.false c.loop-index.invariant
