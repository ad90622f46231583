use Rattle.camp_catch.proofs.Words.{ap, inl, inr, refl, ◌∙◌, joined_by, Conflictor}
use Rattle.camp_catch.proofs.merging.joined_where.Goals as goal

pub returns-then-not-in_conflict : goal.returns-then-not-in_conflict
returns-then-not-in_conflict c =
    let no = c.if-not-in_conflict.true in
    record { joined = _; own_joined = _; joins = inr ((λ yes. cc), refl); own_joins = inr ((λ yes. cc), refl); after = refl; beside = refl }

pub returns : goal.returns
returns c =
    let yes = c.if-not-in_conflict.false in
    let second = c.in_ok-second.ensures ∙ ap (λ (f : Conflictor). joined_by f.identity c.args.own) c.in_ok-first.ensures in
    record { joined = _; own_joined = _; joins = inl (yes, c.in_ok-first.ensures); own_joins = inl (yes, second); after = refl; beside = refl }
