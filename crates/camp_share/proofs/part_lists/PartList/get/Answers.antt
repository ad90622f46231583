use Rattle.camp_share.proofs.Words.{append-nil, ◌∙◌}
use Rattle.camp_share.proofs.PartLemmas.{first_from}
use Rattle.camp_share.proofs.part_lists.PartList.get.Goals as goal

pub returns : goal.returns
returns g c = record { exact = first_from c.args.self.now c.iter_from.result _ c.args.index c.next.result (c.iter_from.ensures.rest ∙ append-nil _) c.next.ensures.steps }
