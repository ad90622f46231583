use Rattle.camp_base.proofs.Words.{length, subst, ap, ◌∙◌}
use Rattle.std.specs.Prelude.{◌≤◌}
use Rattle.camp_base.specs.Inside.NameFields.{spelt}
use Rattle.camp_base.specs.Inside.PathFields.{last_eight}
use Rattle.camp_base.proofs.NameLemmas.{same_by_tails}
use Rattle.camp_base.proofs.paths.PathPartialEq.eq.Goals as goal

pub returns-then-bytes-le8-2 : goal.returns-then-bytes-le8-2
returns-then-bytes-le8-2 c =
    same_by_tails c.args.self.now c.args.other.now _ _ c.bytes.ensures.form c.bytes-then-bytes-le8.ensures.form
    (c.self.invariant.tail ∙ ap (λ path. spelt 8 0 (last_eight path)) c.self.view_is)
    (c.other.invariant.tail ∙ ap (λ path. spelt 8 0 (last_eight path)) c.other.view_is)
    c.if-self-other.false
    (subst (λ path. length path ≤ 8) c.bytes.ensures.value c.if-bytes-le8.true)
    (subst (λ path. length path ≤ 8) c.bytes-then-bytes-le8.ensures.value c.if-bytes-le8-2.true)
