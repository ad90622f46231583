use Rattle.camp_row.proofs.Words.{ap, ◌∙◌, sym, Some}
use Rattle.camp_row.proofs.TrailEntries.{on_chain_below}
use Rattle.camp_row.proofs.rows.Row.entry_at.Goals as goal

pub entry_of-requires-clause-on_chain : goal.entry_of-requires-clause-on_chain
entry_of-requires-clause-on_chain c = (on_chain_below c.trail.view_is c.requires.leads (c.len.ensures ∙ c.trail.inside.cells.ok.0) c.requires.index c.index-cell.ensures).on_chain

pub returns-clause-entry : goal.returns-clause-entry
returns-clause-entry c =
    let at = on_chain_below c.trail.view_is c.requires.leads (c.len.ensures ∙ c.trail.inside.cells.ok.0) c.requires.index c.index-cell.ensures in
    at.entry_is ∙ ap Some (sym (c.entry_of.ensures.entry at.on_chain))
