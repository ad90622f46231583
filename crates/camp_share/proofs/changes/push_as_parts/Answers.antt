use Rattle.camp_share.proofs.Words.{arith, common_steps}
use Rattle.camp_share.proofs.changes.push_as_parts.Goals as goal

pub returns-then-len-gt-MAX_PART_LENGTH-clause-items : goal.returns-then-len-gt-MAX_PART_LENGTH-clause-items
returns-then-len-gt-MAX_PART_LENGTH-clause-items g c = grind (arith, common_steps)

pub returns-then-len-gt-MAX_PART_LENGTH-clause-parts : goal.returns-then-len-gt-MAX_PART_LENGTH-clause-parts
returns-then-len-gt-MAX_PART_LENGTH-clause-parts g c = grind (arith, common_steps)

pub returns-clause-items : goal.returns-clause-items
returns-clause-items g c = grind (arith, common_steps)

pub returns-clause-parts : goal.returns-clause-parts
returns-clause-parts g c = grind (arith, common_steps)
