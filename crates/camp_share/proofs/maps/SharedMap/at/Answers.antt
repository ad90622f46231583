use Rattle.camp_share.proofs.Words.{sym, ap, ◌∙◌, slice_get}
use Rattle.camp_share.proofs.MapLemmas.{entries_are}
use Rattle.camp_share.proofs.maps.SharedMap.at.Goals as goal

pub returns : goal.returns
returns g c = record { exact = c.get.ensures ∙ ap (λ es. slice_get es c.args.index) (sym (entries_are _ g.met.K.Ord.total _ _ c.self.view_is c.self.invariant.0)) }
