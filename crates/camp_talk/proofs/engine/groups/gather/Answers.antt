use Rattle.std.proofs.Common.{◌∙◌, ◌-◌, ◌^◌, rules}
use Rattle.camp_talk.proofs.GroupLemmas.{gathered_more, gathers_none, gathers_over, gathers_paused, if_steps}
use Rattle.camp_talk.specs.Engine.Groups.{MayGoOn}
use Rattle.camp_talk.proofs.engine.groups.gather.Goals as goal

pub loop-init : goal.loop-init
loop-init g c = rw c.requires (gathers_none g.B.Backend g.F.Framing c.args.limits c.args.backend.now c.args.framing.now)

pub returns-in-Some : goal.returns-in-Some
returns-in-Some g c =
    gathers_over g.B.Backend g.F.Framing c.args.limits c.args.backend.now c.args.framing.now _ _ _ c.loop.invariant.0 c.loop.invariant.2 _ _ _ c.in-Some.halt c.in-Some.ensures

pub returns-then-waiting-limits : goal.returns-then-waiting-limits
returns-then-waiting-limits g c =
    let more = gathered_more g.B.Backend g.F.Framing c.args.limits c.args.backend.now c.args.framing.now _ _ _ c.loop.invariant.0 c.loop.invariant.2 _ _ _
    c.loop.counter c.loop.invariant.1 c.in-None.ensures in
    gathers_paused g.B.Backend g.F.Framing c.args.limits _ _ _ _ _ c.loop.counter more.0 more.1

pub returns-then-not-is_ready : goal.returns-then-not-is_ready
returns-then-not-is_ready g c =
    let more = gathered_more g.B.Backend g.F.Framing c.args.limits c.args.backend.now c.args.framing.now _ _ _ c.loop.invariant.0 c.loop.invariant.2 _ _ _
    c.loop.counter c.loop.invariant.1 c.in-None.ensures in
    gathers_paused g.B.Backend g.F.Framing c.args.limits _ _ _ _ _ c.loop.counter more.0 more.1

pub loop-preserved : goal.loop-preserved
loop-preserved g c =
    let more = gathered_more g.B.Backend g.F.Framing c.args.limits c.args.backend.now c.args.framing.now _ _ _ c.loop.invariant.0 c.loop.invariant.2 _ _ _
    c.loop.counter c.loop.invariant.1 c.in-None.ensures in
    let goes_on : MayGoOn g.B.Backend g.F.Framing c.args.limits c.take_one.new.backend c.take_one.new.framing c.take_one.new.pending.items = record {
      ready = search rules;
      calls = search rules;
      bytes = search rules;
    } in
    (more.0, more.1, if_steps more.0.steps (MayGoOn g.B.Backend g.F.Framing c.args.limits c.take_one.new.backend c.take_one.new.framing c.take_one.new.pending.items) goes_on)

pub returns : goal.returns
returns g c =
    gathers_paused g.B.Backend g.F.Framing c.args.limits _ _ _ _ _ (2 ^ 64 - 2) c.loop.invariant.0 (c.loop.invariant.1 ∙ search rules)
