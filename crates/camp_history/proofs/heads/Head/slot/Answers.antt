use Rattle.camp_history.proofs.Words.{◌≡◌, ap, ◌∙◌, subst, IfSome, slice_index_or, ids_of}
use Rattle.camp_history.proofs.SnapshotLemmas.{slot_by}
use Rattle.camp_history.proofs.heads.Head.slot.Goals as goal

pub returns-clause-id : goal.returns-clause-id
returns-clause-id g c =
    let found = slot_by (λ slot. slot.now) _ c.deref.result.now c.args.number c.get.result c.get.ensures.lookup.1 c.get.ensures.lookup.3 in
    let ids : ids_of c.deref.result.now ≡ c.args.self.now.slots = ap ids_of c.deref.ensures.value ∙ ap (λ head. head.slots) c.self.view_is in
    subst (λ ids. IfSome c.get.result (λ slot. slot.now.id ≡ slice_index_or ids c.args.number 0)) ids found
