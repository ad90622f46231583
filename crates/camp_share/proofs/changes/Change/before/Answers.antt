use Rattle.camp_share.proofs.Words.{◌++◌, take, sym, ap, subst, ◌∙◌, All, All-take, joined, IsPart}
use Rattle.camp_share.proofs.changes.Change.before.Goals as goal

pub invariant_of-result : goal.invariant_of-result
invariant_of-result g c = subst (All IsPart) (sym c.in_ok-parts.ensures) (All-take IsPart _ _ c.requires.parts)

pub returns : goal.returns
returns g c =
    ap (λ ps. joined ps ++ c.in_ok-middle.middle) c.in_ok-parts.ensures ∙ c.in_ok-middle.ensures
    ∙ ap (λ n. take n (joined c.args.parts.now)) c.behind_with_room-index.ensures.same
