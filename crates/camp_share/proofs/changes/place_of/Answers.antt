use Rattle.camp_share.proofs.Words.{sym, ◌∙◌, arith}
use Rattle.camp_share.proofs.PartLemmas.{parts_fewer, next_of, not_past, length_grown, length_told}
use Rattle.camp_share.proofs.changes.place_of.Goals as goal

pub len-requires : goal.len-requires
len-requires g c = let fewer = parts_fewer c.args.parts.now c.requires.parts in omega (arith, c.requires.len)

pub overflow_add-count : goal.overflow_add-count
overflow_add-count g c =
    let next = next_of c.args.parts.now c.next.new.self c.loop-part.count c.in-Some.part.now (c.loop-part.invariant.rest ∙ c.in-Some.ensures.steps) in
    omega (arith, next.0, parts_fewer c.args.parts.now c.requires.parts, c.requires.len)

pub loop-part-preserved : goal.loop-part-preserved
loop-part-preserved g c =
    let next = next_of c.args.parts.now c.next.new.self c.loop-part.count c.in-Some.part.now (c.loop-part.invariant.rest ∙ c.in-Some.ensures.steps) in
    let size = length_told _ c.in-Some.part.now _ c.deref.ensures c.len-in-loop-part.ensures in
    let less = length_told _ c.in-Some.part.now _ c.deref-in-loop-part.ensures c.len-left.ensures in
    let longer = length_grown c.args.parts.now c.loop-part.count c.in-Some.part.now next.0 next.1 in
    record { rest = sym next.2; left = omega (arith, c.loop-part.invariant.left) }

pub returns-in-None : goal.returns-in-None
returns-in-None g c =
    absurd (not_past c.args.parts.now c.loop-part.count c.loop-part.left c.args.index (c.loop-part.invariant.rest ∙ c.in-None.ensures.steps.0) c.loop-part.invariant.left (omega (arith, c.requires.len, c.requires.within)))

pub returns-then-left-len : goal.returns-then-left-len
returns-then-left-len g c =
    let next = next_of c.args.parts.now c.next.new.self c.loop-part.count c.in-Some.part.now (c.loop-part.invariant.rest ∙ c.in-Some.ensures.steps) in
    let size = length_told _ c.in-Some.part.now _ c.deref.ensures c.len-in-loop-part.ensures in
    let within = next.0 in
    let longer = length_grown c.args.parts.now c.loop-part.count c.in-Some.part.now next.0 next.1 in
    record { place = (omega arith, omega arith); inside = λ before. (omega arith, omega arith); exact = omega (arith, c.loop-part.invariant.left) }
