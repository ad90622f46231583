use Rattle.camp_clients.proofs.Words.{◌∙◌, begins_through, arith, common_steps, begun}
use Rattle.camp_clients.proofs.SectionSteps.{section_grows, section_more, room_more}
use Rattle.camp_clients.proofs.sections.ask_all.Goals as goal

pub returns-in_err-unless_memory-clause-grows : goal.returns-in_err-unless_memory-clause-grows
returns-in_err-unless_memory-clause-grows g c =
    begins_through (section_grows (begun g.State.Object.object (g.D.Desk.first c.args.desk.now)) _ _ _ _ _ c.loop-call.invariant.section) c.ask.ensures.asks.grows

pub loop-call-preserved : goal.loop-call-preserved
loop-call-preserved g c =
    let inv = c.loop-call.invariant in
    let kept = c.in_ok-unless_memory.ensures in
    let asks = rw inv.first at (rw inv.caller at c.ask.ensures.asks) in
    record {
      keeps = g.met.D.Desk.transitive _ _ _ inv.keeps c.ask.ensures.keeps;
      caller = c.ask.ensures.caller ∙ inv.caller;
      first = c.ask.ensures.first ∙ inv.first;
      section = rw (c.push_reserved.ensures.items, kept.0)
          (section_more (begun g.State.Object.object (g.D.Desk.first c.args.desk.now)) g.met.State.Object.lawful.writes (g.D.Desk.caller c.args.desk.now) (g.D.Desk.seen c.args.desk.now) c.args.calls.now
          c.loop-call.call-index c.loop-call-test.true (g.D.Desk.seen c.loop-call.desk) c.call-item.result c.call-item.is c.ask.result (g.D.Desk.seen c.ask.new.self)
          kept.1 asks inv.room c.loop-call.answers.items inv.section);
      room = room_more (begun g.State.Object.object (g.D.Desk.first c.args.desk.now)) g.met.State.Object.lawful.writes (g.D.Desk.caller c.args.desk.now) (g.D.Desk.seen c.args.desk.now) c.args.calls.now
          c.loop-call.call-index c.loop-call-test.true (g.D.Desk.seen c.loop-call.desk) c.call-item.result c.call-item.is c.ask.result (g.D.Desk.seen c.ask.new.self)
          kept.1 asks inv.room;
      so_far = omega (arith, inv.so_far, c.push_reserved.ensures.len);
      space = omega (arith, inv.space, c.push_reserved.ensures.capacity);
    }

pub returns-clause-grows : goal.returns-clause-grows
returns-clause-grows g c = section_grows (begun g.State.Object.object (g.D.Desk.first c.args.desk.now)) _ _ _ _ _ c.loop-call.invariant.section

pub returns-clause-section : goal.returns-clause-section
returns-clause-section g c = grind (arith, common_steps)
