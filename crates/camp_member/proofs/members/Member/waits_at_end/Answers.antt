use Rattle.std.proofs.Common.{◌≡◌, List, ◌∷◌, drop, subst, arith}
use Rattle.camp_object.specs.Objects.{begun}
use Rattle.camp_member.specs.Members.{Membership}
use Rattle.camp_member.specs.Wanting.{WaitsAtEnd}
use Rattle.camp_member.specs.declared.requests.Request.{Request}
use Rattle.camp_member.proofs.members.Member.waits_at_end.Goals as goal

pub returns : goal.returns
returns g c =
    let M = Membership g.row.State.Denot g.row.State-Call.Denot g.row.State-Reply.Denot in
    let request = c.in-Some.first.now in
    let rest = drop 1 c.self.inside.waiting.items in
    let P : M → Type 0 = λ m. WaitsAtEnd (begun g.State.Object.object m.reading.first) m c.args.index request rest in
    let List_is : List (Request g.row.State-Call.Denot) → Type 0 = λ list. list ≡ request ∷ drop 1 list in
    let here = c.if-index.false in
    let exact = c.index.ensures.exact in
    let none = c.if-self-gt0.false in
    let at = c.position.ensures.exact in
    let over = c.if-first-position.false in (
      request,
      rest,
      subst P c.self.view_is (record {
        at = omega (arith, here, exact);
        none_sent = omega (arith, none);
        reads = c.if-self.false;
        first = subst List_is c.deref.ensures.value c.in-Some.ensures;
        waits = omega (arith, at, over);
      }),
    )
