use Rattle.std.proofs.lemmas.Result.{on_ok_weaker}
use Rattle.camp_history.proofs.Words.{◌∙◌, subst, begun, history_of, IsLegal}
use Rattle.camp_history.proofs.heads.Head.see_chain.Goals as goal

pub returns-clause-whole : goal.returns-clause-whole
returns-clause-whole g c = on_ok_weaker c.see_all-answer.result (λ all. c.show_invariant.ensures.entries_are ∙ all) c.see_all-answer.ensures.all

pub returns-clause-legal : goal.returns-clause-legal
returns-clause-legal g c =
    let seat = c.see_all-answer.new.seat in
    subst (λ (first : g.row.State.Denot). IsLegal (begun g.State.Object.object first) (history_of seat)) c.see_all-answer.ensures.sees_further.of.first c.show_invariant.ensures.legal
