use Rattle.std.proofs.Common.{◌≢◌, arith}
use Rattle.camp_object.specs.Objects.{begun}
use Rattle.camp_object.proofs.Replays.{begun_lawful, count-replay}
use Rattle.camp_member.proofs.readers.Reader.answer_to.Goals as goal

pub decide-requires : goal.decide-requires
decide-requires g c =
    let object = g.State.Object.object in
    let first = object.first c.self.inside.state in
    let count = count-replay (begun object first) (begun_lawful object g.met.State.Object.lawful first c.self.invariant.0) c.self.inside.history.items c.self.inside.state c.self.invariant.1 in
    let size = c.len.ensures in
    let items = c.self.inside.history.ok.0 in
    let differs : c.len.result ≢ 18446744073709551615 = c.if-len.false in
    omega (arith, count, size, items, differs)
