use Rattle.camp_base.proofs.Words.{◌∙◌}
use Rattle.camp_base.proofs.NameLemmas.{head_spelt}
use Rattle.camp_base.proofs.names.Name.head.Goals as goal

pub returns-clause-value : goal.returns-clause-value
returns-clause-value c = c.from_be_bytes.ensures ∙ head_spelt c.self.inside c.args.self.now c.self.invariant c.self.view_is
