use Rattle.camp_uses.proofs.Words.{◌≡◌, Some, Answer, Next, step}
use Rattle.camp_call.specs.declared.calls.Call.TheVariants as call
use Rattle.camp_uses.proofs.Questioned.{along_refused, pull_brings, pull_refused, pull_told}
use Rattle.camp_uses.proofs.questions.pull_along.Goals as goal

pub returns-in-Next-clause-accepted : goal.returns-in-Next-clause-accepted
returns-in-Next-clause-accepted c =
    let comes : Next c.in-Next.next ≡ step c.args.state.now (call.Pull c.args.from.now c.args.to.now (Some c.in_ok-told.told)) = rw c.in-Next.is at c.in_ok-next.ensures.exact in
    pull_brings c.args.state.now c.args.from.now c.args.to.now c.args.names.now c.in_ok-told.told c.along_is_enough.ensures.law c.in_ok-told.ensures.exact c.accepted_calls_have_effect.ensures.law c.in-Next.next c.count-lawful.ensures.lawful comes

pub refusal_of-requires : goal.refusal_of-requires
refusal_of-requires c =
    let comes : Answer c.in-Answer.reply ≡ step c.args.state.now (call.Pull c.args.from.now c.args.to.now (Some c.in_ok-told.told)) = rw c.in-Answer.is at c.in_ok-next.ensures.exact in
    pull_told c.args.state.now c.args.from.now c.args.to.now c.args.names.now c.in_ok-told.told c.along_is_enough.ensures.law c.in_ok-told.ensures.exact c.in-Answer.reply comes

pub returns-clause-refused : goal.returns-clause-refused
returns-clause-refused c =
    let comes : Answer c.in-Answer.reply ≡ step c.args.state.now (call.Pull c.args.from.now c.args.to.now (Some c.in_ok-told.told)) = rw c.in-Answer.is at c.in_ok-next.ensures.exact in
    pull_refused c.args.state.now c.args.from.now c.args.to.now c.args.names.now c.in_ok-told.told c.along_is_enough.ensures.law c.in_ok-told.ensures.exact c.in-Answer.reply c.refusal_of.result comes c.refusal_of.ensures
