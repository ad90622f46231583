use Rattle.camp_ctx.proofs.Words.{◌≡◌, subst, AddsToContext, PassesBy}
use Rattle.camp_ctx.specs.Inside.InPlace.{in_context}
use Rattle.camp_ctx.proofs.contexted.Contexted.stays_unchanged.Goals as goal

pub returns : goal.returns
returns c =
    let a = c.args.a.now in
    let here : in_context c.context.result.now c.patch.result.now ≡ c.args.self.now =
    λ i. record { context = c.context.ensures.exact i; patch = c.patch.ensures.exact i } in
    record { sound = λ yes. subst (λ x. AddsToContext a x x) here (c.stays.ensures.sound yes); passes = λ yes. subst (λ x. PassesBy a x x) here (c.stays.ensures.passes yes) }
