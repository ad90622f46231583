use Rattle.camp_base.proofs.Words.{◌∙◌}
use Rattle.camp_base.proofs.NameLemmas.{in_order_by_heads}
use Rattle.camp_base.proofs.names.NameOrd.cmp.Goals as goal

pub returns-then-head-other_head : goal.returns-then-head-other_head
returns-then-head-other_head c =
    let mine = c.head-head.ensures in
    let others = c.head-other_head.ensures in
    c.cmp.ensures ∙ in_order_by_heads c.args.self.now c.args.other.now _ _ mine.form others.form mine.value others.value c.if-head-other_head.true
