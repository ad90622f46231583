use Rattle.std.proofs.Common.{◌<◌, ◌≤◌, ◌^◌, length, take, subst}
use Rattle.camp_object.specs.Histories.{IsLegal}
use Rattle.camp_object.specs.Objects.{IsFirst, begun}
use Rattle.camp_object.proofs.Replays.{begun_lawful}
use Rattle.camp_member.specs.Members.{Membership}
use Rattle.camp_member.specs.Wanting.{FitsEntry}
use Rattle.camp_member.proofs.Telling.{batch_begun, finds_goes}
use Rattle.camp_member.proofs.members.Member.found.Goals as goal

pub returns-clause-goes : goal.returns-clause-goes
returns-clause-goes g c =
    let object = g.State.Object.object in
    let M = Membership g.row.State.Denot g.row.State-Call.Denot g.row.State-Reply.Denot in
    let Legal : M → Type 0 = λ m. IsLegal (begun object m.reading.first) m.reading.history in
    let First : M → Type 0 = λ m. IsFirst object m.reading.first in
    let Within : M → Type 0 = λ m. m.sent ≤ length m.waiting in
    let Batch : M → Type 0 = λ m. 0 < m.sent → FitsEntry (begun object m.reading.first) m.reading.history (take m.sent m.waiting) in
    let Room : M → Type 0 = λ m. length m.reading.history < 2 ^ 64 in
    let old = c.args.self.now in
    let first = old.reading.first in
    finds_goes (begun object first) old c.find-result.new.self c.args.index (begun_lawful object g.met.State.Object.lawful first (subst First c.self.view_is c.position-before.ensures.first))
    (subst Legal c.self.view_is c.position-before.ensures.legal) (subst Room c.self-2.view_is c.position-after.ensures.room)
    (subst Within c.self.view_is c.self.invariant.0) (subst Batch c.self.view_is (batch_begun object c.self.inside.reader.first c.self.inside.reader.history (take c.self.inside.sent c.self.inside.waiting.items) c.self.inside.sent c.self.invariant.1))
    c.args.found.now c.find-result.result c.find-result.ensures
