use Rattle.camp_history.proofs.Words.{All, ap, ◌∙◌, subst, IsBaseAt, IsMarkPrefix, bases_in}
use Rattle.camp_history.proofs.SnapshotLemmas.{noted_at, share_of, share_none}
use Rattle.camp_history.proofs.heads.Head.common_len_of_seats.Goals as goal

pub noted_len-requires-clause-base : goal.noted_len-requires-clause-base
noted_len-requires-clause-base g c =
    let is = ap bases_in c.deref-base-items.ensures.value ∙ ap (λ seat. seat.bases) c.b.view_is in
    noted_at (IsBaseAt c.args.self.now.slots) _ _ is c.requires.seats.1.bases c.loop-base.base-index c.base-item.result c.loop-base-test.true c.base-item.is

pub returns-in-Some : goal.returns-in-Some
returns-in-Some g c =
    let marks = c.args.b.now.marks in
    let whole = subst (λ marks. All (λ base. IsMarkPrefix base.marks marks) (bases_in c.b.inside.bases.items)) (ap (λ seat. seat.marks) c.b.view_is) c.b.invariant.begins in
    let here = noted_at (λ base. IsMarkPrefix base.marks marks) _ _ (ap bases_in c.deref-base-items.ensures.value) whole c.loop-base.base-index c.base-item.result c.loop-base-test.true c.base-item.is in
    share_of c.base-item.result.snapshot.value c.args.a.now.marks marks c.in-Some.len c.in-Some.ensures.length c.in-Some.ensures.begins here

pub returns : goal.returns
returns g c = share_none c.args.a.now.marks c.args.b.now.marks
