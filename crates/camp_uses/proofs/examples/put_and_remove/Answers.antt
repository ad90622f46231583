use Rattle.std.proofs.lemmas.Result.{IfOk-weaker}
use Rattle.camp_uses.proofs.Emptied.{put_and_taken_of}
use Rattle.camp_uses.proofs.examples.put_and_remove.Goals as goal

pub returns : goal.returns
returns c = record {
  exact = IfOk-weaker c.without.result _ _ (λ left taken. put_and_taken_of _ _ _ _ _ _ c.in_ok-share.ensures c.in_ok-one.ensures.exact taken) c.without.ensures.exact;
}
