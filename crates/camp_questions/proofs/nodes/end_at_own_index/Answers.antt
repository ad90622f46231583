use Rattle.camp_questions.proofs.Words.{◌≡◌, ◌∙◌, ap, arith, length, sym, Needed}
use Rattle.camp_questions.proofs.PlacedNeeds.{one_ends}
use Rattle.camp_questions.proofs.nodes.end_at_own_index.Goals as goal

pub loop-at-preserved : goal.loop-at-preserved
loop-at-preserved c =
    let q : Needed = c.index-all-at.result in
    let long : c.len.result ≡ length q.needs.items = c.len.ensures ∙ ap (λ (x : Needed). x.needs.len) (sym c.index-all-at.is) ∙ q.needs.ok.0 in
    let less = c.if-len-at.false in
    one_ends c.args.all.now c.loop-at.at q (omega arith) c.index-all-at.is (omega (arith, long, less)) c.loop-at.invariant

pub returns : goal.returns
returns c sure k d less = c.loop-at.invariant k d (omega (arith, less))
