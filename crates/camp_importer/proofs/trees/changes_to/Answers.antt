use Rattle.std.proofs.Common.{◌∙◌}
use Rattle.camp_importer.proofs.BranchLemmas.{in_state}
use Rattle.camp_importer.proofs.MarkLemmas.{is_found, leads_or}
use Rattle.camp_importer.proofs.trees.changes_to.Goals as goal

pub returns : goal.returns
returns c =
    leads_or c.args.book.now c.args.name.now c.args.branch.now c.in_Some-found.found.now c.tree.result.now c.args.tree.now c.lead.result
    (in_state c.args.book.now c.state.result.now c.args.branch.now c.state.ensures.exact ∙ c.in_Some-found.ensures.value) c.tree.ensures.exact
    c.lead.ensures

pub unreachable-requires : goal.unreachable-requires
unreachable-requires c =
    is_found c.args.book.now c.args.branch.now c.requires.there (in_state c.args.book.now c.state.result.now c.args.branch.now c.state.ensures.exact ∙ c.in_None-found.ensures.value)
