use Rattle.camp_share.proofs.PartLemmas.{one_replaced}
use Rattle.camp_share.proofs.Words.{IfOk-weaker}
use Rattle.camp_share.proofs.lists.SharedList.replaced.Goals as goal

pub returns : goal.returns
returns g c = record {
  exact = IfOk-weaker c.with_one.result _ _ (λ list is. one_replaced c.args.self.now list c.args.item c.args.index c.requires is) c.with_one.ensures;
}
