use Rattle.camp_clients.proofs.Words.{[], take, zero-add, ◌∙◌, arith, length-take-le, lists_of, vec_items, begun, common_steps}
use Rattle.std.proofs.lemmas.List.{map_push}
use Rattle.camp_clients.proofs.SectionSteps.{one_by_one_push}
use Rattle.camp_clients.proofs.Vectors.{lists_more, length-lists_of}
use Rattle.camp_clients.proofs.one_by_one.serial_from.Goals as goal

pub loop-seat-preserved : goal.loop-seat-preserved
loop-seat-preserved g c =
    let inv = c.loop-seat.invariant in
    record {
      begins = c.at_seat.ensures.first ∙ inv.begins;
      so_far = rw (
        lists_more c.args.sections.now c.loop-seat.seat c.index-sections-seat.result c.loop-seat-test.true c.index-sections-seat.is,
        c.push_reserved.ensures.items,
        map_push vec_items c.loop-seat.answers.items c.in_ok-at_seat.field-0,
      )
          (one_by_one_push (begun g.State.Object.object c.args.first) 0 [] (lists_of (take c.loop-seat.seat c.args.sections.now)) (lists_of c.loop-seat.answers.items) c.loop-seat.book.calls
          c.index-sections-seat.result.items c.in_ok-at_seat.field-0.items c.at_seat.new.book.calls inv.so_far
          (rw (zero-add, length-lists_of, length-take-le c.loop-seat.seat c.args.sections.now (omega arith), ← c.deref.ensures.value, ← inv.begins) c.in_ok-at_seat.ensures.section));
      answered = omega (arith, inv.answered, c.push_reserved.ensures.len);
      space = omega (arith, inv.space, c.push_reserved.ensures.capacity);
    }

pub returns : goal.returns
returns g c = grind (arith, common_steps)
