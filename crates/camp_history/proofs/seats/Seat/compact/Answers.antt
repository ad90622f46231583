use Rattle.camp_history.proofs.Words.{◌≡◌, ◌<◌, ◌++◌, All, map, length, length-append, append-nil, ap, ◌∙◌, sym, subst, arith, Some, replay, seat_and_call, entry_of, IsMarkPrefix, bases_in, marks_in, begun}
use Rattle.camp_history.proofs.seats.Seat.compact.Given.{Over}
use Rattle.camp_history.proofs.seats.Seat.compact.Goals as goal

shared_list : (g : Over) (c : goal.After-clear g) → c.in_ok-self-inside.field-0 ≡ marks_in c.self.inside
shared_list g c = c.in_ok-self-inside.ensures ∙ sym (ap (λ seat. seat.marks) c.self.view_is)

same : (g : Over) (c : goal.After-clear g) → c.in_ok-self-inside.field-0 ++ c.clear.new.self.items ≡ marks_in c.self.inside
same g c = ap (λ list. c.in_ok-self-inside.field-0 ++ list) c.clear.ensures.items ∙ append-nil c.in_ok-self-inside.field-0 ∙ shared_list g c

pub returns : goal.returns
returns g c = (λ k. record { first = g.State.Object.object.first c.self.inside.state; known = c.self.inside.pass; marks = same g c k; bases = bases_in c.self.inside.bases.items }) ∙ c.self.view_is

pub invariant_of-self : goal.invariant_of-self
invariant_of-self g c =
    let is = sym (same g c) in
    record {
      entries_are = subst (λ marks. map entry_of marks ≡ c.self.inside.pass.seen) is c.self.invariant.entries_are;
      below = subst (λ marks. All (λ mark. mark.seat < c.self.inside.pass.row.seats) marks) is c.self.invariant.below;
      is_first = c.self.invariant.is_first;
      replays = subst (λ marks. replay (begun g.State.Object.object (g.State.Object.object.first c.self.inside.state)) (map seat_and_call marks) ≡ Some c.self.inside.state) is c.self.invariant.replays;
      begins = subst (λ marks. All (λ base. IsMarkPrefix base.marks marks) (bases_in c.self.inside.bases.items)) is c.self.invariant.begins;
      few = omega (arith, ap length (shared_list g c), ap length c.deref.ensures, c.self.inside.tail.ok.0, length-append c.self.inside.earlier c.self.inside.tail.items);
    }
