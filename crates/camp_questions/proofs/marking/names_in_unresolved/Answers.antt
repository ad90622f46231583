use Rattle.camp_questions.proofs.Words.{IfOk-weaker, ◌∙◌, ap, subst, AreUnresolvedAmong, names_in_pairs}
use Rattle.camp_questions.proofs.marking.names_in_unresolved.Goals as goal

pub returns : goal.returns
returns c =
    let pairs = c.in_ok-pairs.pairs.items in
    let among = subst (λ l. AreUnresolvedAmong l c.args.seen.now pairs) c.catches.ensures.value c.in_ok-pairs.ensures in
    IfOk-weaker c.names_in_pairs.result _ _ (λ names is. (pairs, among, is ∙ ap (names_in_pairs c.args.branch.now) c.deref.ensures.value)) c.names_in_pairs.ensures
