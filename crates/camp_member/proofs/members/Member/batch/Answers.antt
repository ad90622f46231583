use Rattle.std.proofs.Common.{◌≡◌, ◌<◌, ℕ, length, take, sym, ap, subst, arith}
use Rattle.std.proofs.lemmas.List.{length-take-le}
use Rattle.camp_member.specs.Members.{Membership}
use Rattle.camp_member.specs.Wanting.{FitsEntry}
use Rattle.camp_member.proofs.members.Member.batch.Goals as goal

pub returns-then-not-is_writing-clause-is : goal.returns-then-not-is_writing-clause-is
returns-then-not-is_writing-clause-is g c =
    let M = Membership g.row.State.Denot g.row.State-Call.Denot g.row.State-Reply.Denot in
    let at = c.loop-at.at in
    let P : M → Type 0 = λ m. FitsEntry g.State.Object.object m.reading.history (take at m.waiting) in
    let waiting = c.self.inside.waiting.items in
    let test = c.loop-at-test.true in
    let within = c.at_most_an_entry-most.ensures.within in
    let few = c.at_most_an_entry-most.ensures.few in
    let size = c.len.ensures in
    let items = c.self.inside.waiting.ok.0 in
    let long = length-take-le at waiting (omega (arith, test, within, size, items)) in
    subst P c.self.view_is (record {
      some = omega (arith, long);
      few = omega (arith, long, test, few);
      writing = c.loop-at.invariant.0;
      ready = c.loop-at.invariant.1;
    })

pub returns-clause-is : goal.returns-clause-is
returns-clause-is g c =
    let M = Membership g.row.State.Denot g.row.State-Call.Denot g.row.State-Reply.Denot in
    let most = c.at_most_an_entry-most.result in
    let at = c.loop-at.at in
    let P : M → Type 0 = λ m. FitsEntry g.State.Object.object m.reading.history (take most m.waiting) in
    let Q : ℕ → Type 0 = λ n. FitsEntry g.State.Object.object c.self.inside.reader.history (take n c.self.inside.waiting.items) in
    let Some : M → Type 0 = λ m. 0 < length m.waiting in
    let waiting = c.self.inside.waiting.items in
    let test = c.loop-at-test.false in
    let within = c.at_most_an_entry-most.ensures.within in
    let few = c.at_most_an_entry-most.ensures.few in
    let size = c.len.ensures in
    let items = c.self.inside.waiting.ok.0 in
    let some : 0 < length waiting = let first = ap length c.requires.sends.2.2 in subst Some (sym c.self.view_is) (omega (arith, first)) in
    let one : 0 < most = c.at_most_an_entry-most.ensures.some (omega (arith, some, size, items)) c.requires.some in
    let end : at ≡ most = omega (arith, test, one) in
    let long = length-take-le at waiting (omega (arith, end, within, size, items)) in
    subst P c.self.view_is (subst Q end (record {
      some = omega (arith, long);
      few = omega (arith, long, end, few);
      writing = c.loop-at.invariant.0;
      ready = c.loop-at.invariant.1;
    }))
