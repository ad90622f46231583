use Rattle.camp_share.proofs.Words.{arith}
use Rattle.camp_share.proofs.PartLemmas.{parts_fewer}
use Rattle.camp_share.proofs.changes.Change.push_small.Goals as goal

pub len-requires : goal.len-requires
len-requires g c = let fewer = parts_fewer c.args.parts.now c.requires.parts in omega (arith, c.requires.fits)
