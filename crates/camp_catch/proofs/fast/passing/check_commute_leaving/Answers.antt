use Rattle.std.proofs.Common.{◌≤◌, arith}
use Rattle.std.specs.FinMap.{len}
use Rattle.camp_catch.proofs.NoEffect.{passes_out}
use Rattle.camp_catch.proofs.fast.passing.check_commute_leaving.Goals as goal

pub returns : goal.returns
returns c =
    let several : 2 ≤ len c.args.k.now.conflicts = omega (arith, c.len.ensures.value) in
    rw (c.in_ok-effect.ensures.exact, c.in_ok-conflicts.ensures.exact, c.in_ok-identity.ensures.exact, c.key.ensures.exact) (passes_out c.args.j.now c.args.k.now c.requires.first c.requires.second c.requires.member.0 c.requires.member.1 several c.in_ok-gained.gained c.in_ok-gained.ensures.exact)
