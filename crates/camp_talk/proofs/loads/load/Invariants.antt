use Rattle.camp_talk.specs.Diagnostics.{no_diagnostic}
use Rattle.camp_talk.proofs.Words.{Done, ◌-◌, ◌^◌}
use Rattle.camp_talk.proofs.loads.load.Given as goal

abbrev pub invariant-loop-diagnostic : goal.invariant-loop-diagnostic
invariant-loop-diagnostic g l =
    Done (g.R.Read.remaining l.initial.reader) (g.R.Read.remaining l.reader) (record { history = l.initial.book; lines = 0; diagnostic = no_diagnostic })
    (record { history = l.book; lines = l.lines; diagnostic = l.diagnostic })

abbrev pub decreases-loop-diagnostic : goal.decreases-loop-diagnostic
decreases-loop-diagnostic g l = 2 ^ 64 - l.lines
