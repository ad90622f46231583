use Rattle.std.proofs.Common.{◌∙◌, rules}
use Rattle.camp_talk.proofs.GroupLemmas.{gathers_unbuffered}
use Rattle.camp_talk.proofs.RunLemmas.{flushes_more, flushes_some, run_begins, run_goes_on, run_stops}
use Rattle.camp_talk.specs.declared.engine.groups.Halt.TheVariants as halt
use Rattle.camp_talk.specs.declared.engine.runs.Stop.TheVariants as stop
use Rattle.camp_talk.proofs.engine.runs.run.Goals.{in-Pause, in-Unbuffered+in_default-write_response}
use Rattle.camp_talk.proofs.engine.runs.run.Goals as goal

pub loop-init : goal.loop-init
loop-init g c = (run_begins g.B.Backend g.F.Framing c.args.limits c.args.backend.now c.args.framing.now (g.W.Write.contents c.args.writer.now), c.new-pending.ensures.items)

pub returns-in-Err : goal.returns-in-Err
returns-in-Err g c =
    run_stops g.B.Backend g.F.Framing c.args.limits c.args.backend.now c.args.framing.now (g.W.Write.contents c.args.writer.now) _ _ _ c.loop.invariant.0.0 _ _ _ _ _
    c.gather-halt.result c.gather-halt.ensures c.in-Err.fault c.in-Err.ensures.flushes

pub loop-preserved : goal.loop-preserved
loop-preserved g c = elim c.match-halt-2.branch [
  | in-Pause w ↦ (
    rw w.writer-is (run_goes_on g.B.Backend g.F.Framing c.args.limits c.args.backend.now c.args.framing.now (g.W.Write.contents c.args.writer.now) _ _ _ c.loop.invariant.0.0 _ _ _ _ _
        c.loop.counter c.loop.invariant.0.1 w.in-Pause.ensures c.in_default.field-0 c.in_default.ensures.flushes),
    c.in_default.ensures.empty,
  )
  | in-Unbuffered+in_default-write_response w ↦ (
    rw w.writer-is (run_goes_on g.B.Backend g.F.Framing c.args.limits c.args.backend.now c.args.framing.now (g.W.Write.contents c.args.writer.now) _ _ _ c.loop.invariant.0.0 _ _ _ _ _
        c.loop.counter c.loop.invariant.0.1
        (gathers_unbuffered g.B.Backend g.F.Framing c.args.limits _ _ w.in-Unbuffered.response _ _ _ w.in-Unbuffered.ensures) c.in_default.field-0
        (flushes_more g.B.Backend _ _ _ _ _ c.in_default.ensures.flushes _ _ w.in_default-write_response.ensures.writes)),
    c.in_default.ensures.empty,
  )
]

pub returns-in-Err-write_response : goal.returns-in-Err-write_response
returns-in-Err-write_response g c =
    run_stops g.B.Backend g.F.Framing c.args.limits c.args.backend.now c.args.framing.now (g.W.Write.contents c.args.writer.now) _ _ _ c.loop.invariant.0.0 _ _ _ _ _
    halt.Pause (gathers_unbuffered g.B.Backend g.F.Framing c.args.limits _ _ c.in-Unbuffered.response _ _ _ c.in-Unbuffered.ensures)
    (stop.Write c.in-Err-write_response.error)
    (flushes_some g.B.Backend _ _ _ _ _ c.in_default.ensures.flushes _ _ c.in-Err-write_response.ensures.writes)

pub returns : goal.returns
returns g c = (c.loop.invariant.0.0, c.loop.invariant.0.1 ∙ search rules)
