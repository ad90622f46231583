use Rattle.camp_share.proofs.PartLemmas.{first_from}
use Rattle.camp_share.proofs.lists.SharedList.get.Goals as goal

pub returns : goal.returns
returns g c = record { exact = first_from c.args.self.now c.iter_from.result _ c.args.index c.next.result c.iter_from.ensures.rest c.next.ensures.steps }
