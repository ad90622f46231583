use Rattle.camp_share.proofs.Words.{◌+◌, ◌-◌, ◌≤◌, ◌++◌, length, drop, ap, ◌∙◌, arith, Vec, length-drop, take_all, joined, common_steps}
use Rattle.camp_share.proofs.PartLemmas.{length_told, end_fits, from_end}
use Rattle.camp_share.proofs.part_lists.PartList.near_end.Goals as goal

pub overflow_sub-start : goal.overflow_sub-start
overflow_sub-start g c =
    let parts = c.self.inside.parts in
    let last = c.last-ends.result.now in
    let at = c.loop-at.at - 1 in
    let size = length_told _ c.index-ends-at.result _ c.deref.ensures c.len-start.ensures in
    let fits : length c.index-ends-at.result.items + length (joined (drop (at + 1) last)) ≤ length (joined parts) =
    end_fits parts last at c.index-ends-at.result c.last-ends.ensures.end c.last-ends.ensures.within (omega arith) c.index-ends-at.is in
    let next = ap (λ k. length (joined (drop k last))) {x = at + 1} {y = c.loop-at.at} (omega arith) in
    let all = ap length c.self.view_is in
    omega (arith, c.loop-at.invariant.left)

pub returns-then-start-from : goal.returns-then-start-from
returns-then-start-from g c =
    let parts = c.self.inside.parts in
    let last = c.last-ends.result.now in
    let at = c.loop-at.at - 1 in
    let part = c.index-ends-at.result in
    let start = c.loop-at.start - c.len-start.result in
    let from = c.args.from in
    let items = c.deref-then-start-from-2.result.now in
    let size = length_told _ part _ c.deref.ensures c.len-start.ensures in
    let next = ap (λ k. length (joined (drop k last))) {x = at + 1} {y = c.loop-at.at} (omega arith) in
    let all = ap length c.self.view_is in
    let fits : length part.items + length (joined (drop (at + 1) last)) ≤ length (joined parts) =
    end_fits parts last at part c.last-ends.ensures.end c.last-ends.ensures.within (omega arith) c.index-ends-at.is in
    let lent = c.deref-then-start-from-2.ensures.value ∙ ap (λ (p : Vec _ _). p.items) c.deref-then-start-from.ensures in
    let long = length-drop (from - start) items in
    let longer = length-drop (at + 1) last in
    let cut = take_all (length items - (from - start)) (drop (from - start) items) (omega arith) in
    let rest = c.new-parts.ensures.rest ∙ take_all (length last - (at + 1)) (drop (at + 1) last) (omega arith) in
    let whole = from_end parts last at part c.last-ends.ensures.end c.last-ends.ensures.within (omega arith) c.index-ends-at.is start from
    (omega (arith, c.loop-at.invariant.left)) c.if-start-from.true (omega (arith, c.loop-at.invariant.before)) in (
      c.new.ensures.rest
          ∙ ap (λ xs. xs ++ c.args.last.now)
          (ap (λ xs. xs ++ joined c.new-parts.result) (cut ∙ ap (drop (from - start)) lent)
          ∙ ap (λ ps. drop (from - start) part.items ++ joined ps) rest ∙ whole ∙ ap (drop from) c.self.view_is),
      c.new.ensures.runs,
    )

pub loop-at-preserved : goal.loop-at-preserved
loop-at-preserved g c = grind (arith, common_steps)

pub loop-at-init : goal.loop-at-init
loop-at-init g c = grind (arith, common_steps)
