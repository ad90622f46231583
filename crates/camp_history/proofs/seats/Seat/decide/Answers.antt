use Rattle.camp_history.proofs.Words.{◌<◌, sym, subst, begun, begun_lawful, Decides, DecidesAt, IfOk-weaker, history_of}
use Rattle.camp_history.proofs.Seeing.{decides_begun, few_marks}
use Rattle.camp_history.proofs.seats.Seat.decide.Goals as goal

pub decide-requires : goal.decide-requires
decide-requires g c =
    let tail = c.self.inside.tail in
    let Few : g.row.State.Denot → Type 0 = λ state. g.State.Object.object.count state < 18446744073709551615 in
    let object = g.State.Object.object in
    let first = object.first c.self.inside.state in
    subst Few (sym c.deref.ensures) (few_marks (begun object first) (begun_lawful object g.met.State.Object.lawful first c.self.invariant.is_first) c.self.inside.earlier tail.items c.self.inside.state tail.len tail.cap c.self.invariant.few tail.ok tail.small c.self.invariant.replays)

pub returns : goal.returns
returns g c =
    let object = g.State.Object.object in
    let state = c.self.inside.state in
    let call = c.args.call.now in
    IfOk-weaker c.decide.result _ _ (λ decided decides.
    subst (λ seat. DecidesAt (begun object seat.first) (history_of seat) call decided) c.self.view_is
    (record { state = state; replays = c.self.invariant.replays; decides = decides_begun object (object.first state) state call decided (subst (λ state. Decides object state call decided) c.deref.ensures decides) })) c.decide.ensures
