use Rattle.camp_history.proofs.Seeing.{sees_further_more}
use Rattle.camp_history.proofs.heads.Head.see_chain_of.Goals as goal

pub returns-clause-sees_further : goal.returns-clause-sees_further
returns-clause-sees_further g c = sees_further_more c.in_ok-install_from.ensures.sees_further c.see_chain.ensures.sees_further
