use Rattle.camp_questions.proofs.Words.{sym, subst, AreUnresolvedAmong, AreUnresolvedIn}
use Rattle.camp_questions.proofs.open_conflicts.unresolved_in.Goals as goal

pub returns : goal.returns
returns c =
    let seen = c.in_ok-labels_seen.field-0 in
    let among = subst (λ l. AreUnresolvedAmong l seen c.in_ok-pairs.pairs.items) c.catches.ensures.value c.in_ok-pairs.ensures in
    subst (AreUnresolvedIn c.args.branch.now) (sym c.new.ensures.exact) (seen, c.in_ok-labels_seen.ensures, among)
