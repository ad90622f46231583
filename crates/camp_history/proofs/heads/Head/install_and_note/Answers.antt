use Rattle.camp_history.proofs.Words.{◌≡◌, sym, ◌∙◌, ap, subst, map, entry_and_call, begins_self, SeesFurther, IsTrail, IsMarkPrefix, Installs}
use Rattle.camp_history.proofs.Seeing.{sees_same, sees_further_self}
use Rattle.camp_history.proofs.SnapshotLemmas.{installs_more, seat_installed}
use Rattle.camp_history.proofs.heads.Head.install_and_note.Goals as goal

pub returns-in_err-share-clause-sees_further : goal.returns-in_err-share-clause-sees_further
returns-in_err-share-clause-sees_further g c = sees_further_self c.args.self.now c.args.seat.now c.requires.of

pub install-requires-clause-continues_seat : goal.install-requires-clause-continues_seat
install-requires-clause-continues_seat g c = rw c.in_ok-share.ensures c.requires.continues_seat

pub returns-then-not-install-clause-sees_further : goal.returns-then-not-install-clause-sees_further
returns-then-not-install-clause-sees_further g c =
    subst (SeesFurther c.args.self.now c.args.seat.now) (sym c.if-not-install.ensures.installs) (sees_further_self c.args.self.now c.args.seat.now c.requires.of)

pub note-requires-clause-seat : goal.note-requires-clause-seat
note-requires-clause-seat g c =
    seat_installed c.args.self.now c.args.seat.now c.install.new.self c.args.snapshot.now c.requires.of c.requires.stored (rw c.in_ok-share.ensures at c.if-not-install.ensures.installs)

pub note-requires-clause-base : goal.note-requires-clause-base
note-requires-clause-base g c = rw c.again.ensures c.requires.base

pub note-requires-clause-begins : goal.note-requires-clause-begins
note-requires-clause-begins g c =
    let value = c.args.base.now.snapshot.value in
    let took : Installs c.args.seat.now c.args.snapshot.now c.install.new.self = rw c.in_ok-share.ensures at c.if-not-install.ensures.installs in
    let same : c.install.new.self.marks ≡ value = took.marks ∙ c.requires.is in
    rw c.again.ensures (subst (IsMarkPrefix value) (sym same) (begins_self (map entry_and_call value)))

pub returns-clause-sees_further : goal.returns-clause-sees_further
returns-clause-sees_further g c =
    let old = c.args.seat.now in
    let took : Installs c.args.seat.now c.args.snapshot.now c.install.new.self = rw c.in_ok-share.ensures at c.if-not-install.ensures.installs in
    let more = installs_more old c.install.new.self c.args.snapshot.now c.show_invariant.ensures.entries_are c.show_invariant.ensures.sound c.requires.continues_seat took in
    let on : SeesFurther c.args.self.now old c.note.new.seat = record {
      of = c.note.ensures.seat;
      more = sees_same old c.install.new.self c.note.new.seat more c.note.ensures.known c.note.ensures.marks;
      ahead = ap (λ known. known.ahead) c.note.ensures.known ∙ ap (λ known. known.ahead) took.known;
    } in
    subst (SeesFurther c.args.self.now old) (sym c.seat.view_is) on

pub returns-clause-leads : goal.returns-clause-leads
returns-clause-leads g c =
    let known = ap (λ seat. seat.known) c.seat.view_is ∙ c.note.ensures.known in
    subst (λ known. IsTrail known known.seen c.install.new.trail) (sym known) c.install.ensures.leads
