use Rattle.camp_uses.proofs.Words.{List, MergeLists, Catch}
use Rattle.camp_uses.proofs.Turned.{fits_after}
use Rattle.camp_uses.proofs.catches.theirs_after_ours.Goals as goal

pub returns-in-Ok-clause-fits : goal.returns-in-Ok-clause-fits
returns-in-Ok-clause-fits c =
    let merged : (rest : List Catch) × MergeLists c.args.theirs.now c.args.ours.now c.in-Ok.after.items rest = c.in-Ok.ensures.exact in
    fits_after c.lists_keep_effects.ensures.law _ _ _ _ merged.1
