use Rattle.camp_share.proofs.Words.{[], ◌∷◌, ap, ◌∙◌, arith, common_steps}
use Rattle.std.specs.List.{splice}
use Rattle.camp_share.proofs.PartLemmas.{changed_in_last}
use Rattle.camp_share.proofs.lists.SharedList.with_one.Goals as goal

pub returns : goal.returns
returns g c =
    let begins = c.len-border.ensures in
    changed_in_last c.self.inside.front c.self.inside.last (c.args.item ∷ []) _ _ c.args.from c.args.to c.len-border.result begins c.in_ok-front.ensures c.in_ok-last.ensures c.requires.range (omega arith)
    ∙ ap (λ xs. splice xs c.args.from c.args.to (c.args.item ∷ [])) c.self.view_is

pub invariant_of-result : goal.invariant_of-result
invariant_of-result g c = grind (arith, common_steps)
