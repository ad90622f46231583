use Rattle.std.proofs.Common.{◌∙◌}
use Rattle.camp_importer.proofs.BranchLemmas.{in_state}
use Rattle.camp_importer.proofs.starting.has_branch.Goals as goal

pub returns-in_Some-state : goal.returns-in_Some-state
returns-in_Some-state c =
    (c.in_Some-state.field-0.now, in_state c.args.book.now c.state.result.now c.args.name.now c.state.ensures.exact ∙ c.in_Some-state.ensures.value)

pub returns-in_None-state : goal.returns-in_None-state
returns-in_None-state c =
    in_state c.args.book.now c.state.result.now c.args.name.now c.state.ensures.exact ∙ c.in_None-state.ensures.value
