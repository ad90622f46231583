use Rattle.camp_history.proofs.Words.{◌≡◌, All, refl, sym, ◌∙◌, subst, All-same, Shows, SeesFurther, ContinuesSeat, HaveCommon, Installs}
use Rattle.camp_history.proofs.Seeing.{sees_further_self}
use Rattle.std.specs.Bool.{MatchBool}
use Rattle.camp_history.proofs.SnapshotLemmas.{installed_further}
use Rattle.camp_history.proofs.heads.Head.install_from.Goals as goal

pub continues_seat-requires-clause-snapshot : goal.continues_seat-requires-clause-snapshot
continues_seat-requires-clause-snapshot g c =
    All-same (λ mark. Shows c.args.self.now.store mark.call) c.in_ok-snapshot.snapshot c.args.other.now.marks c.in_ok-snapshot.ensures c.requires.other.stored

pub continues_seat-requires-clause-from : goal.continues_seat-requires-clause-from
continues_seat-requires-clause-from g c =
    subst (λ marks. HaveCommon c.walk.new.self.marks marks c.common_len_of_seats-from.result) (sym c.in_ok-snapshot.ensures) c.common_len_of_seats-from.ensures

pub returns-in_err-trail : goal.returns-in_err-trail
returns-in_err-trail g c = record { sees_further = subst (SeesFurther c.args.self.now c.args.seat.now) (sym c.walk.ensures.same) (sees_further_self c.args.self.now c.args.seat.now c.requires.of) }

pub returns-in_err-snapshot : goal.returns-in_err-snapshot
returns-in_err-snapshot g c = record { sees_further = subst (SeesFurther c.args.self.now c.args.seat.now) (sym c.walk.ensures.same) (sees_further_self c.args.self.now c.args.seat.now c.requires.of) }

pub returns : goal.returns
returns g c =
    let head = c.args.self.now in
    let old = c.args.seat.now in
    let new = c.install-installed.new.self in
    let yes = c.install-installed.result in
    let snapshot = c.in_ok-snapshot.snapshot in
    let same : c.continues_seat.new.seat ≡ old = c.continues_seat.ensures.same ∙ c.walk.ensures.same in
    let continues : ContinuesSeat old snapshot = subst (λ seat. ContinuesSeat seat snapshot) c.walk.ensures.same (c.if-not-continues_seat.ensures.continues_seat refl) in
    let took : MatchBool yes (Installs old snapshot new) (new ≡ old) = subst (λ seat. MatchBool yes (Installs seat snapshot new) (new ≡ seat)) same c.install-installed.ensures.installs in
    let stored : All (λ mark. Shows head.store mark.call) snapshot = All-same (λ mark. Shows head.store mark.call) snapshot c.args.other.now.marks c.in_ok-snapshot.ensures c.requires.other.stored in
    record { sees_further = installed_further head old new snapshot yes c.requires.of c.show_invariant.ensures.entries_are c.show_invariant.ensures.sound continues stored took }

pub returns-then-not-continues_seat : goal.returns-then-not-continues_seat
returns-then-not-continues_seat g c =
    record { sees_further = subst (SeesFurther c.args.self.now c.args.seat.now) (sym (c.continues_seat.ensures.same ∙ c.walk.ensures.same)) (sees_further_self c.args.self.now c.args.seat.now c.requires.of) }

pub returns-then-position : goal.returns-then-position
returns-then-position g c = record { sees_further = sees_further_self c.args.self.now c.args.seat.now c.requires.of }
