use Rattle.camp_talk.specs.Diagnostics.{no_diagnostic}
use Rattle.camp_talk.proofs.Words.{◌-◌, ◌^◌}
use Rattle.camp_talk.specs.Inside.RequestSteps.{HasExecuted}
use Rattle.camp_talk.proofs.requests.answer_commands.Given as goal

abbrev pub invariant-loop-executed : goal.invariant-loop-executed
invariant-loop-executed l =
    HasExecuted l.initial.reader l.reader l.initial.answer.items l.answer.items
    (record { history = l.initial.book; lines = 0; diagnostic = no_diagnostic }) (record { history = l.book; lines = l.lines; diagnostic = l.diagnostic }) l.executed

abbrev pub decreases-loop-executed : goal.decreases-loop-executed
decreases-loop-executed l = 2 ^ 64 - l.lines
