use Rattle.std.proofs.Common.{sym, take_all, arith}
use Rattle.std.proofs.lemmas.List.{length-take-le}
use Rattle.camp_import.proofs.parts.prefix_of.Goals as goal

pub returns-then-name-le-PREFIX_LENGTH : goal.returns-then-name-le-PREFIX_LENGTH
returns-then-name-le-PREFIX_LENGTH c = sym (take_all 35 c.args.name.now c.if-name-le-PREFIX_LENGTH.true)

pub slice_bounds-result-end : goal.slice_bounds-result-end
slice_bounds-result-end c = sym (length-take-le 35 c.args.name.now (omega (arith, c.if-name-le-PREFIX_LENGTH.false)))
