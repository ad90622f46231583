use Rattle.camp_catch.proofs.Words.{ap, refl, Catch}
use Rattle.camp_catch.proofs.conflictors.one_of_several_conflicts.Goals as goal

pub returns-in_default : goal.returns-in_default
returns-in_default c =
    λ pair w. (rw c.in_default.is at c.in_ok-moved.ensures) (w.moved, w.rr') (record { effect = w.effect; effects = w.effects; becomes = w.becomes })

pub returns : goal.returns
returns c =
    let left = rw c.in-Some.is at c.in_ok-moved.ensures in
    record {
      z = _;
      member = c.requires.member.1;
      several = c.requires.several;
      effect = left.effect;
      rr' = _;
      effects = left.effects;
      moved = _;
      becomes = left.becomes;
      own = c.in_ok-own.ensures.moved;
      own_becomes = c.in_ok-own.ensures.becomes;
      second = refl;
      first = ap Catch.Conflictor c.in_ok-own.ensures.is;
    }
