use Rattle.camp_history.proofs.Words.{◌-◌, All, ap, ◌∙◌, sym, subst, arith, length, IsBaseAt, IsMarkPrefix, bases_in, based}
use Rattle.camp_history.proofs.SnapshotLemmas.{noted_at}
use Rattle.camp_history.proofs.heads.Head.last_noted.Goals as goal

pub returns-clause-base : goal.returns-clause-base
returns-clause-base g c =
    let slots = c.args.self.now.slots in
    let items = c.deref.result.now in
    let some = c.in_ok-last.ensures.item.3.0 in
    let is = ap bases_in c.deref.ensures.value ∙ ap (λ seat. seat.bases) c.seat.view_is in
    subst (λ base. IsBaseAt slots (based base)) (sym c.again.ensures)
    (noted_at (IsBaseAt slots) items _ is c.requires.bases (length items - 1) c.in_ok-last.field-0.now (omega (arith, some)) c.in_ok-last.ensures.item.1)

pub returns-clause-begins : goal.returns-clause-begins
returns-clause-begins g c =
    let items = c.deref.result.now in
    let marks = c.args.seat.now.marks in
    let some = c.in_ok-last.ensures.item.3.0 in
    let whole = subst (λ marks. All (λ base. IsMarkPrefix base.marks marks) (bases_in c.seat.inside.bases.items)) (ap (λ seat. seat.marks) c.seat.view_is) c.seat.invariant.begins in
    subst (λ base. IsMarkPrefix base.snapshot.value marks) (sym c.again.ensures)
    (noted_at (λ base. IsMarkPrefix base.marks marks) items _ (ap bases_in c.deref.ensures.value) whole (length items - 1) c.in_ok-last.field-0.now (omega (arith, some)) c.in_ok-last.ensures.item.1)
