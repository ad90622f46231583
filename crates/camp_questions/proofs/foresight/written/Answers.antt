use Rattle.camp_questions.proofs.Words.{◌∙◌, sym}
use Rattle.camp_questions.proofs.Foreseeing.{accepted_so, is_there, stands_so}
use Rattle.camp_questions.proofs.foresight.written.Goals as goal

pub unreachable-requires-in_default-branch : goal.unreachable-requires-in_default-branch
unreachable-requires-in_default-branch c =
    is_there c.args.call.now c.args.state.now c.args.next.now c.in-Some.name c.requires (sym c.branch_written.ensures ∙ c.in-Some.is) c.in_default-branch.ensures.value

pub returns : goal.returns
returns c =
    let stands = stands_so c.args.next.now c.in-Some.name c.in_Some-branch.branch.now c.tree.result.now c.in_ok-tree.tree c.in_ok-pairs.pairs.items c.new.result c.in_ok-opened.opened c.in_ok-opened.resolved c.in_Some-branch.ensures.value c.tree.ensures.exact c.in_ok-tree.ensures.exact c.in_ok-pairs.ensures.exact c.new.ensures.exact in
    accepted_so c.args.call.now c.args.state.now c.args.next.now _ c.count.result c.count.ensures.value (sym c.branch_written.ensures ∙ c.in-Some.is) stands c.in_ok-opened.ensures
