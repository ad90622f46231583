use Rattle.camp_questions.proofs.OpenChanges.{ascend_there}
use Rattle.camp_questions.proofs.open_changes.opened_and_resolved.Goals as goal

pub without-requires : goal.without-requires
without-requires c = ascend_there c.args.state.now c.args.branch.now c.in_ok-before.before c.in_ok-before.ensures

pub without-requires-2 : goal.without-requires-2
without-requires-2 c = ascend_there c.args.next.now c.args.branch.now c.in_ok-after.after c.in_ok-after.ensures

pub returns : goal.returns
returns c = record {
  before = c.in_ok-before.before;
  after = c.in_ok-after.after;
  were = c.in_ok-before.ensures;
  are = c.in_ok-after.ensures;
  opens = c.in_ok-opened.ensures;
  resolves = c.in_ok-resolved.ensures;
}
