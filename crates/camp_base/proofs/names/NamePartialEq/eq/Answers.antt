use Rattle.camp_base.proofs.Words.{length, subst}
use Rattle.std.specs.Prelude.{◌≤◌}
use Rattle.camp_base.proofs.NameLemmas.{differ_by_heads, same_by_heads}
use Rattle.camp_base.proofs.names.NamePartialEq.eq.Goals as goal

pub returns-then-head-other_head : goal.returns-then-head-other_head
returns-then-head-other_head c =
    let mine = c.head-head.ensures in
    let others = c.head-other_head.ensures in
    differ_by_heads c.args.self.now c.args.other.now _ _ mine.value others.value c.if-head-other_head.true

pub returns-then-bytes-le8-2 : goal.returns-then-bytes-le8-2
returns-then-bytes-le8-2 c =
    let mine = c.head-head.ensures in
    let others = c.head-other_head.ensures in
    same_by_heads c.args.self.now c.args.other.now _ _ mine.form others.form mine.value others.value c.if-head-other_head.false
    (subst (λ name. length name ≤ 8) c.bytes.ensures.value c.if-bytes-le8.true)
    (subst (λ name. length name ≤ 8) c.bytes-then-bytes-le8.ensures.value c.if-bytes-le8-2.true)
