use Rattle.camp_history.proofs.Words.{All, ap, ◌∙◌, sym, subst, IsBaseAt, IsMarkPrefix, bases_in, based, slice_index_or}
use Rattle.camp_history.proofs.SnapshotLemmas.{noted_at}
use Rattle.camp_history.proofs.heads.Head.has_noted.Goals as goal

pub agrees-requires : goal.agrees-requires
agrees-requires g c =
    let slots = c.args.self.now.slots in
    let noted = c.noted-item.result in
    let is = ap bases_in c.deref-noted-items.ensures.value ∙ ap (λ seat. seat.bases) c.seat.view_is in
    let here : IsBaseAt slots (based noted) = noted_at (IsBaseAt slots) _ _ is c.requires.seat.bases c.loop-noted.noted-index noted c.loop-noted-test.true c.noted-item.is in
    here ∙ ap (λ number. slice_index_or slots number 0) c.if-noted-base.true ∙ sym c.requires.base

pub returns-then-noted-base : goal.returns-then-noted-base
returns-then-noted-base g c =
    let marks = c.args.seat.now.marks in
    let whole = subst (λ marks. All (λ base. IsMarkPrefix base.marks marks) (bases_in c.seat.inside.bases.items)) (ap (λ seat. seat.marks) c.seat.view_is) c.seat.invariant.begins in
    let here = noted_at (λ base. IsMarkPrefix base.marks marks) _ _ (ap bases_in c.deref-noted-items.ensures.value) whole c.loop-noted.noted-index c.noted-item.result c.loop-noted-test.true c.noted-item.is in
    record { begins = λ _. subst (λ list. IsMarkPrefix list marks) c.agrees.ensures here }
