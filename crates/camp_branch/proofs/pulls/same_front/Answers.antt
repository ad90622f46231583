use Rattle.camp_branch.proofs.Words.{Align, keys_of, subst, sym}
use Rattle.camp_branch.proofs.AgreedFronts.{as_it_is}
use Rattle.camp_branch.proofs.PullSteps.{none_found}
use Rattle.camp_branch.proofs.pulls.same_front.Goals as goal

pub returns-then-is_none : goal.returns-then-is_none
returns-then-is_none c =
    let to = c.args.to_common.now in
    record { exact = subst (λ l. Align (keys_of to) l to) (sym (none_found _ c.first_difference.result c.if-is_none.ensures c.first_difference.ensures)) (as_it_is to) }
