use Rattle.camp_uses.proofs.Once.{undone}
use Rattle.camp_uses.proofs.lists.do_and_undo.Goals as goal

pub returns : goal.returns
returns c = record { unchanged = undone c.applied_is_applies.ensures.law c.inverse_of_a_list_leads_back.ensures.law _ _ _ _ _ _ c.in_ok-inverse.ensures.exact c.in_ok-apply_all.ensures.exact c.apply_all-2.ensures.exact }
