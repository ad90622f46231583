use Rattle.camp_questions.proofs.Words.{◌≡◌, ◌∙◌, inl, refl, subst, Arrange, ArrangeIsBlocked, names_in}
use Rattle.camp_questions.proofs.AlongEnough.{have_diverged, stands_behind}
use Rattle.camp_questions.proofs.pull_along.catches_after_common.Goals as goal

pub returns-in-Ok : goal.returns-in-Ok
returns-in-Ok c =
    let names = names_in c.in_ok-common.common in
    let is : c.deref.result.now ≡ c.args.from.now = c.deref.ensures.value ∙ c.in_ok-catches.ensures.exact ∙ c.catches.ensures.value in
    stands_behind c.args.from.now c.args.to.now names c.in-Ok.arranged.first.items c.in-Ok.arranged.rest.items c.in_ok-common.ensures (subst (λ l. Arrange names l c.in-Ok.arranged.first.items c.in-Ok.arranged.rest.items) is c.in-Ok.ensures.exact)

pub returns-in-Err-Blocked : goal.returns-in-Err-Blocked
returns-in-Err-Blocked c =
    let names = names_in c.in_ok-common.common in
    let is : c.deref.result.now ≡ c.args.from.now = c.deref.ensures.value ∙ c.in_ok-catches.ensures.exact ∙ c.catches.ensures.value in
    let sticks = rw c.in-Err-Blocked.field-0-is at c.in-Err-Blocked.ensures.exact in
    let patch = c.in-Err-Blocked.stuck.patch in
    inl (patch.name, have_diverged c.args.from.now c.args.to.now names patch c.in-Err-Blocked.stuck.on c.in_ok-common.ensures (subst (λ l. ArrangeIsBlocked names l patch c.in-Err-Blocked.stuck.on) is sticks), refl)
