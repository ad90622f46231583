use Rattle.camp_seq.proofs.Words.{◌≡◌, ◌+◌, ◌-◌, List, length, take, refl, sym, subst, ◌∙◌, arith, length-take-le, take_all, take-take, Named, same, Norm}
use Rattle.camp_seq.proofs.PlacingSteps.{norm_of_equivalent, placed_more, room_of_part}
use Rattle.camp_seq.proofs.fast.insertions.order_by_insertion.Goals as goal

pub loop-last-init : goal.loop-last-init
loop-last-init c = record { same = same; ordered = refl }

pub insert_last-requires : goal.insert_last-requires
insert_last-requires c =
    let s : List Named = c.loop-last.items in
    let n = c.loop-last.last in
    let part : List Named = take (n + 1) s in
    let shorter : length part - 1 ≡ n = omega (arith, length-take-le (n + 1) s (omega arith)) in
    record {
      room = room_of_part c.args.items.now s n c.requires c.loop-last.invariant.same;
      own = rw shorter (subst (λ l. Norm l l) (sym (take-take n (n + 1) s (omega arith))) c.loop-last.invariant.ordered);
    }

pub loop-last-preserved : goal.loop-last-preserved
loop-last-preserved c =
    let s : List Named = c.loop-last.items in
    let n = c.loop-last.last in
    let long : length c.insert_last.new.items ≡ n + 1 = c.insert_last.auto.items ∙ length-take-le (n + 1) s (omega arith) in
    let next = placed_more c.args.items.now s n c.requires c.loop-last.invariant.same c.insert_last.new.items long c.insert_last.ensures in
    record { same = next.0; ordered = next.1 }

pub returns : goal.returns
returns c =
    let s : List Named = c.loop-last.items in
    norm_of_equivalent c.args.items.now s c.requires c.loop-last.invariant.same (subst (λ l. Norm l l) (take_all c.loop-last.last s (omega arith)) c.loop-last.invariant.ordered)
