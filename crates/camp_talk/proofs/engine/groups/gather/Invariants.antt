use Rattle.std.specs.Prelude.{◌≡◌, length}
use Rattle.camp_talk.specs.Engine.Groups.{Gathered, IfSteps, MayGoOn}
use Rattle.camp_talk.proofs.engine.groups.gather.Given as goal

abbrev pub invariant-loop : goal.invariant-loop
invariant-loop g l =
    (gathered : Gathered g.B.Backend g.F.Framing l.limits l.initial.backend l.initial.framing l.backend l.framing l.pending.items)
    × (length gathered.steps ≡ l.counter) × IfSteps gathered.steps (MayGoOn g.B.Backend g.F.Framing l.limits l.backend l.framing l.pending.items)
