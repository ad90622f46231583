use Rattle.camp_seq.proofs.PassingSteps.{passes_push}
use Rattle.camp_ctx.proofs.Words.{◌∙◌, [], ◌∷◌, ◌++◌, ap, subst, inverse_of, Passes}
use Rattle.camp_ctx.proofs.fast.after.inverse_passes_unchanged.Goals as goal

pub returns : goal.returns
returns c = λ yes.
    let s = c.args.s.now in
    let patch = c.args.patch.now in
    let back = c.invert-back.result in
    let passes = passes_push back s s back patch patch back (c.stays_past.ensures.sound c.if-not-stays_past.false) (c.commutes_unchanged.ensures.exact.0 yes) in
    subst (λ b. Passes b (s ++ patch ∷ []) (s ++ patch ∷ []) b) (c.invert-back.ensures.exact ∙ ap inverse_of c.in_ok-copy.ensures.exact) passes
