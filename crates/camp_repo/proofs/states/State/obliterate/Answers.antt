use Rattle.camp_repo.proofs.Words.{◌≡◌, ap, ◌∙◌, sym, Ok, Err, refused, step_obliterate, ObliterateGives, Outcome, settled, Next, is_among, names_in, first_lacked, is_empty}
use Rattle.camp_call.specs.declared.calls.Call.TheVariants as call
use Rattle.camp_repo.proofs.ByMembers.{none_among}
use Rattle.camp_repo.proofs.DecideSteps.{next_lawful, obliterate_settles}
use Rattle.camp_repo.proofs.states.State.obliterate.Goals as goal
use Rattle.camp_repo.proofs.states.State.obliterate.Goals.{After-without}

-- the outcome of the obliteration decides the call
settles : (c : After-without) (outcome : Outcome) → ObliterateGives c.in-Some.old.now (names_in c.in_ok-gone.gone) outcome → settled c.args.self.now c.in-Some.place outcome ≡ step_obliterate c.args.self.now c.args.branch.now c.args.names.now
settles c =
    let lent = c.as_slice-names.ensures.exact in
    let all = ap (first_lacked c.in-Some.old.now) (sym lent) ∙ sym c.first_lacked.ensures.exact ∙ c.in_default-first_lacked.is in
    let some = ap is_empty (sym lent) ∙ none_among c.as_slice-names.result.now ∙ sym c.is_empty.ensures ∙ c.if-is_empty.false in
    λ outcome gives. obliterate_settles c.args.self.now c.args.branch.now c.args.names.now c.in-Some.old.now c.in-Some.ensures.value all some (names_in c.in_ok-gone.gone) (λ n. c.in_ok-gone.ensures.exact n ∙ ap (λ l. is_among l n) lent) outcome gives c.in-Some.place c.in-Some.ensures.placed

pub with_replaced-requires-clause-lawful : goal.with_replaced-requires-clause-lawful
with_replaced-requires-clause-lawful c =
    next_lawful c.args.self.now (call.Obliterate c.args.branch.now c.args.names.now) _ c.in-Some.ensures.lawful (settles (goal.at.with_replaced-requires-clause-lawful c).After-without (Ok c.in-Ok.left) c.in-Ok.ensures.exact)

pub returns-in-Ok-clause-exact : goal.returns-in-Ok-clause-exact
returns-in-Ok-clause-exact c = ap Next c.in_ok-next-in-Ok.ensures ∙ settles (goal.at.returns-in-Ok-clause-exact c).After-without (Ok c.in-Ok.left) c.in-Ok.ensures.exact

pub returns-in-Err-Blocked-clause-exact : goal.returns-in-Err-Blocked-clause-exact
returns-in-Err-Blocked-clause-exact c =
    let gives = rw c.in-Err-Blocked.field-0-is at c.in-Err-Blocked.ensures.exact in
    c.refused-in-Err-Blocked.ensures ∙ ap refused c.refusal_of.ensures ∙ settles (goal.at.returns-in-Err-Blocked-clause-exact c).After-without (Err c.in-Err-Blocked.blocked) gives
