use Rattle.camp_uses.proofs.Words.{OnOk, sym, subst, IsBeginning}
use Rattle.camp_history.specs.Seats.{history_of}
use Rattle.camp_uses.proofs.heads.ask_and_synchronise.Goals as goal

pub returns-clause-one_history : goal.returns-clause-one_history
returns-clause-one_history c =
    let synchronised = c.meet-first.ensures.synchronises in
    subst (λ seen. OnOk c.meet-first.result.2 (IsBeginning seen (history_of c.meet-first.result.0))) (sym synchronised.b_seen) synchronised.b_beginning
