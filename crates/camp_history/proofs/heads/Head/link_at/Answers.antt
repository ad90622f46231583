use Rattle.camp_history.proofs.Words.{subst, IfSome_then, IsMadeFrom}
use Rattle.camp_history.proofs.heads.Head.link_at.Goals as goal

pub returns : goal.returns
returns g c = IfSome_then c.get.result c.get.ensures (λ link. subst (λ ids. IsMadeFrom ids link.now) c.in_ok-parent_slot.ensures)
