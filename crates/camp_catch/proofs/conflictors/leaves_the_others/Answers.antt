use Rattle.camp_catch.proofs.conflictors.leaves_the_others.Goals as goal

pub returns-in_default : goal.returns-in_default
returns-in_default c =
    λ pair w. (rw (c.in_ok-others.ensures.exact, c.key.ensures.exact, c.in_default.is) at c.in_ok-effect.ensures) (w.effect, pair.1) w.effects

pub returns : goal.returns
returns c = record {
  effect = _;
  effects = rw (c.in_ok-others.ensures.exact, c.key.ensures.exact, c.in-Some.is) at c.in_ok-effect.ensures;
  becomes = rw (c.in_ok-others.ensures.exact, c.key.ensures.exact) at c.in_ok-moved.ensures;
}
