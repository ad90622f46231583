use Rattle.std.proofs.Common.{◌∙◌, refl, reverse, append-nil, arith}
use Rattle.camp_import.proofs.PartLemmas.{next_change, no_change}
use Rattle.camp_import.proofs.parts.take_part.Goals as goal

pub part-init : goal.part-init
part-init c = record { taken = c.new-part.ensures.items; left = refl }

pub part-preserved : goal.part-preserved
part-preserved c =
    let both =
    next_change (reverse c.args.changes.now.items) c.part.changes.items c.pop.new.self.items c.part.part.items c.push.new.self.items
    c.in-Some.change c.part.counter c.in-Some.ensures.items c.in_ok-push-in-Some.ensures.items c.part.invariant.taken c.part.invariant.left in
    record { taken = both.0; left = both.1 }

pub returns-in-None : goal.returns-in-None
returns-in-None c =
    let same = c.in-None.ensures.items ∙ append-nil c.pop.new.self.items in
    no_change (reverse c.args.changes.now.items) c.part.changes.items c.pop.new.self.items c.part.part.items c.part.counter
    same (omega (arith, c.pop.new.self.ok.0, c.in-None.ensures.cases.1)) (omega (arith, c.part-test.true)) c.part.invariant.taken c.part.invariant.left
