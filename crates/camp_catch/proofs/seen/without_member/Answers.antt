use Rattle.camp_catch.proofs.seen.without_member.Goals as goal

pub returns : goal.returns
returns c = record { s' = c.ordered-effect.result; effect = c.ordered-effect.ensures.exact; is = λ t. record { effect = c.ordered-effect.result; conflicts = c.in_ok-conflicts.ensures.exact t; identity = c.in_ok-identity.ensures.exact t } }
