use Rattle.camp_share.proofs.Words.{◌∙◌, IfOk-weaker}
use Rattle.camp_share.proofs.PartLemmas.{spliced_copies}
use Rattle.camp_share.proofs.pieces.OnePart.spliced.Goals as goal

pub returns : goal.returns
returns g c =
    IfOk-weaker c.of.result _ _
    (λ last is. is ∙ spliced_copies c.args.self.now c.items-old.result.now _ _ _ c.args.new.now c.args.from c.args.to c.items-old.ensures c.in_ok-items.ensures c.in_ok-append_copies.ensures.joined c.in_ok-append_copies-2.ensures.joined)
    c.of.ensures
