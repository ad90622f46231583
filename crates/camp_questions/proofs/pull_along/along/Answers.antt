use Rattle.camp_questions.proofs.Words.{◌≢◌, ◌∙◌, ℕ, List, sym, subst, true≢false, bytes_eq-Decides, AreAfterCommon}
use Rattle.camp_questions.proofs.AlongEnough.{along_told}
use Rattle.camp_questions.proofs.pull_along.along.Goals as goal

pub names_to_pull-requires : goal.names_to_pull-requires
names_to_pull-requires c =
    subst (AreAfterCommon c.in_ok-theirs.theirs.now c.in_ok-ours.ours.now) (sym c.deref.ensures.value) c.in_ok-behind.ensures

pub returns : goal.returns
returns c =
    let from : List ℕ = c.args.from.now in
    let two : from ≢ c.args.to.now = λ e. true≢false (sym ((bytes_eq-Decides from c.args.to.now).1 e) ∙ (sym c.eq.ensures ∙ c.if-eq.false)) in
    let none = sym c.first_lacked.ensures.exact ∙ c.in_default.is in
    record { exact = along_told c.args.state.now from c.args.to.now c.args.names.now c.in_ok-theirs.theirs.now c.in_ok-ours.ours.now c.in_ok-theirs.ensures c.in_ok-ours.ensures c.names_to_pull.result c.answer_or_memory.result c.answer_or_memory.ensures c.names_to_pull.ensures two none }
