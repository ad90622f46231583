use Rattle.camp_base.proofs.Words.{◌∙◌}
use Rattle.camp_base.proofs.NameLemmas.{behind_all_but_eight, tail_spelt}
use Rattle.camp_base.proofs.paths.tail_of.Goals as goal

pub returns : goal.returns
returns c =
    c.from_be_bytes.ensures
    ∙ tail_spelt c.args.bytes.now _ _ c.copy_from_slice.ensures.after (behind_all_but_eight c.args.bytes.now _ c.saturating_sub.ensures)
