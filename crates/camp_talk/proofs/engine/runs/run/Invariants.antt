use Rattle.std.specs.Prelude.{◌≡◌, [], length}
use Rattle.camp_talk.specs.Engine.Runs.{HasRun}
use Rattle.camp_talk.proofs.engine.runs.run.Given as goal

abbrev pub invariant-loop : goal.invariant-loop
invariant-loop g l =
    ((done : HasRun g.B.Backend g.F.Framing l.limits l.initial.backend l.initial.framing (g.W.Write.contents l.initial.writer) l.backend l.framing (g.W.Write.contents l.writer))
    × (length done.groups ≡ l.counter)) × (l.pending.items ≡ [])
