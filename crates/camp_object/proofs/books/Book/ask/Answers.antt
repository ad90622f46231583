use Rattle.std.proofs.Common.{◌≡◌, [], Some, ◌∷◌, ◌++◌, refl, sym, ◌∙◌, ap, subst, arith}
use Rattle.camp_object.specs.Histories.{replay, IsAccepted}
use Rattle.camp_object.specs.Objects.{IsFirst, begun}
use Rattle.camp_object.specs.Asking.{alone_at}
use Rattle.camp_object.proofs.Replays.{begun_lawful, count-replay, replay_accepted, accepted_at}
use Rattle.camp_object.proofs.Beginnings.{begins_self}
use Rattle.camp_object.proofs.Asks.{ask_done}
use Rattle.camp_object.proofs.books.Book.ask.Given.{Over}
use Rattle.camp_object.proofs.books.Book.ask.Goals as goal

pub decide-requires : goal.decide-requires
decide-requires g c =
    let object = g.State.Object.object in
    let state = c.self.inside.state in
    omega (arith, count-replay (begun object (object.first state)) (begun_lawful object g.met.State.Object.lawful (object.first state) c.self.invariant.0) c.self.inside.history.items state c.self.invariant.1)

-- the book after the call: the old history, and the call under its seat
stands : (g : Over) (c : goal.After-done g) → c.push_reserved.new.self.items ≡ c.self.inside.history.items ++ (c.args.seat, c.args.call.now) ∷ []
stands g c =
    c.push_reserved.ensures.items
    ∙ ap (λ list. list ++ (c.args.seat, c.in_ok-copy-in-Next.copy) ∷ []) c.reserve.ensures.items
    ∙ ap (λ call. c.self.inside.history.items ++ (c.args.seat, call) ∷ []) c.in_ok-copy-in-Next.ensures

accepts : (g : Over) (c : goal.After-done g) → g.State.Object.object.after c.self.inside.state c.args.call.now ≡ Some c.in-Next.state
accepts g c = rw c.in-Next.is at c.in_ok-reply.ensures

-- the history still begins with the same state
same_first : (g : Over) (c : goal.After-done g) → g.State.Object.object.first c.in-Next.state ≡ g.State.Object.object.first c.self.inside.state
same_first g c = g.met.State.Object.lawful.stays c.self.inside.state c.args.call.now c.in-Next.state (accepts g c)

pub invariant_of-self-in-Next : goal.invariant_of-self-in-Next
invariant_of-self-in-Next g c =
    let object = g.State.Object.object in
    let first = object.first c.self.inside.state in
    subst (λ (f : g.row.State.Denot). IsFirst object f × (replay (begun object f) c.push_reserved.new.self.items ≡ Some c.in-Next.state)) (sym (same_first g c)) (
      c.self.invariant.0,
      ap (replay (begun object first)) (stands g c)
          ∙ replay_accepted (begun object first) c.self.inside.history.items (c.args.seat, c.args.call.now) c.self.inside.state c.in-Next.state c.self.invariant.1 (accepts g c),
    )

pub returns-in_ok-copy-in-Next : goal.returns-in_ok-copy-in-Next
returns-in_ok-copy-in-Next g c = record {
  asks =
      let object = g.State.Object.object in
      let first = object.first c.self.inside.state in
      let accepted : IsAccepted (begun object first) c.self.inside.history.items c.args.call.now =
      accepted_at (begun object first) c.self.inside.history.items c.args.call.now c.self.inside.state c.in-Next.state c.self.invariant.1 (accepts g c)
      in
      rw (← c.self.view_is) (record {
        first = same_first g c;
        asks =
            ask_done (begun object first) (begun_lawful object g.met.State.Object.lawful first c.self.invariant.0) (alone_at c.args.seat) c.self.inside.history.items c.self.inside.history.items c.push_reserved.new.self.items c.args.call.now c.len.result c.done.result
            (begins_self c.self.inside.history.items) refl accepted (λ not_alone. cc) (λ _. refl) (stands g c) (c.len.ensures ∙ c.push_reserved.new.self.ok.0) c.done.ensures;
      });
}
