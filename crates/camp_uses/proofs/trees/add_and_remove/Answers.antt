use Rattle.camp_uses.proofs.Once.{taken_away, present}
use Rattle.camp_uses.proofs.trees.add_and_remove.Goals as goal

pub returns-in-Ok-clause-same : goal.returns-in-Ok-clause-same
returns-in-Ok-clause-same c =
    (taken_away c.applied_is_applies.ensures.law c.inverse_leads_back.ensures.law _ _ _ _ _ c.in-Ok.ensures.exact c.remove_file.ensures.exact).0

pub returns-in-Ok-clause-fault : goal.returns-in-Ok-clause-fault
returns-in-Ok-clause-fault c =
    let applies = (taken_away c.applied_is_applies.ensures.law c.inverse_leads_back.ensures.law _ _ _ _ _ c.in-Ok.ensures.exact c.remove_file.ensures.exact).1 in
    λ failed. absurd (applies failed)

pub returns-in-Err-clause-fault : goal.returns-in-Err-clause-fault
returns-in-Err-clause-fault c = λ told. present _ _ _ c.in-Err.fault c.in-Err.ensures.exact cc
