use Rattle.camp_uses.proofs.Words.{◌≡◌, Answer, Next, step, GoesWithHeld}
use Rattle.camp_call.specs.declared.calls.Call.TheVariants as call
use Rattle.camp_questions.specs.declared.faults.Unanswered.TheVariants.{Memory}
use Rattle.camp_uses.proofs.Questioned.{goes_with_held, held_refused, never_answered, told_as, would_go}
use Rattle.camp_uses.proofs.questions.obliterate_held.Goals as goal

pub returns-in_err-held : goal.returns-in_err-held
returns-in_err-held c =
    let refused = held_refused c.args.state.now c.args.branch.now c.args.names.now c.requires.some c.held_can_be_taken_out.ensures.law c.accepted_calls_have_effect.ensures.law c.count-lawful.ensures.lawful c.in_err-held.field-0.0 c.in_err-held.ensures.exact in
    record { told = told_as (GoesWithHeld c.args.state.now c.args.branch.now c.args.names.now) c.from_residual.result c.in_err-held.field-0.0 c.from_residual.ensures.1 refused }

pub returns-in_err-next : goal.returns-in_err-next
returns-in_err-next c =
    let would = would_go c.args.state.now c.args.branch.now c.args.names.now c.requires.some c.held_can_be_taken_out.ensures.law c.accepted_calls_have_effect.ensures.law c.count-lawful.ensures.lawful c.in_ok-held.held c.in_ok-held.ensures.exact in
    record { told = told_as (GoesWithHeld c.args.state.now c.args.branch.now c.args.names.now) c.from_residual-in_err-next.result Memory c.from_residual-in_err-next.ensures.1 would }

pub unreachable-requires : goal.unreachable-requires
unreachable-requires c =
    let comes : Answer c.in-Answer.field-0 ≡ step c.args.state.now (call.Obliterate c.args.branch.now c.in_ok-held.held) = rw c.in-Answer.is at c.in_ok-next.ensures.exact in
    never_answered c.args.state.now c.args.branch.now c.args.names.now c.requires.some c.held_can_be_taken_out.ensures.law c.accepted_calls_have_effect.ensures.law c.count-lawful.ensures.lawful c.in_ok-held.held c.in_ok-held.ensures.exact c.in-Answer.field-0 comes

pub returns : goal.returns
returns c =
    let comes : Next c.in-Next.next ≡ step c.args.state.now (call.Obliterate c.args.branch.now c.in_ok-held.held) = rw c.in-Next.is at c.in_ok-next.ensures.exact in
    record { told = goes_with_held c.args.state.now c.args.branch.now c.args.names.now c.requires.some c.held_can_be_taken_out.ensures.law c.accepted_calls_have_effect.ensures.law c.count-lawful.ensures.lawful c.in_ok-held.held c.in_ok-held.ensures.exact c.in-Next.next comes }
