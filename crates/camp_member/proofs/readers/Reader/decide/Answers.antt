use Rattle.std.proofs.Common.{◌≡◌, ◌==◌, ℕ, List, ◌++◌, Some, sym, ◌∙◌, ap, subst, if◌then◌else◌}
use Rattle.std.specs.Option.{unwrap_or}
use Rattle.camp_object.specs.Histories.{replay}
use Rattle.camp_object.specs.Objects.{IsFirst, begun}
use Rattle.camp_object.proofs.Replays.{begun_lawful, count-replay, replay_began}
use Rattle.camp_member.specs.Decisions.{AreDecided}
use Rattle.camp_member.specs.Entries.{number_in}
use Rattle.camp_member.specs.Inside.Drafts.{Drafted, DraftsAll}
use Rattle.camp_member.specs.Readings.{DecidesEntry, Reading}
use Rattle.camp_member.proofs.readers.Reader.decide.Given.{Over}
use Rattle.camp_member.proofs.readers.Reader.decide.Goals as goal

pub of_calls-requires : goal.of_calls-requires
of_calls-requires g c =
    let object = g.State.Object.object in
    let lawful = g.met.State.Object.lawful in
    let first = object.first c.self.inside.state in
    count-replay (begun object first) (begun_lawful object lawful first c.self.invariant.0) c.self.inside.history.items c.self.inside.state c.self.invariant.1
    ∙ sym (c.len-before.ensures ∙ c.self.inside.history.ok.0)

-- the history after the entry
items : (g : Over) (c : goal.After-drop-accepted-2 g) → c.append.new.self.items ≡ c.self.inside.history.items ++ c.draft.inside.accepted.items
items g c = c.in_ok-append.ensures.items ∙ ap (λ list. list ++ c.draft.inside.accepted.items) c.reserve.ensures.items

-- what the draft says after the history
drafted : (g : Over) (c : goal.After-drop-accepted-2 g)
    → (replay (begun g.State.Object.object (g.State.Object.object.first c.self.inside.state)) (c.self.inside.history.items ++ c.draft.inside.accepted.items) ≡ Some (unwrap_or c.draft.inside.next c.self.inside.state))
    × AreDecided (begun g.State.Object.object (g.State.Object.object.first c.self.inside.state)) c.self.inside.history.items c.seat-seat.result c.calls.result.now c.draft.inside.replies.items (c.self.inside.history.items ++ c.draft.inside.accepted.items)
drafted g c =
    let first = g.State.Object.object.first c.self.inside.state in
    let object = begun g.State.Object.object first in
    let P : Drafted g.row.State.Denot g.row.State-Call.Denot g.row.State-Reply.Denot → Type 0 = λ draft. DraftsAll object c.self.inside.state c.len-before.result c.seat-seat.result c.calls.result.now draft in
    subst P (sym c.draft.view_is) (c.in_ok-draft.ensures first) c.self.inside.history.items c.self.invariant.1 (sym (c.len-before.ensures ∙ c.self.inside.history.ok.0))

replays : (g : Over) (c : goal.After-drop-accepted-2 g) → replay (begun g.State.Object.object (g.State.Object.object.first c.self.inside.state)) c.append.new.self.items ≡ Some c.advance.new.state
replays g c = ap (replay (begun g.State.Object.object (g.State.Object.object.first c.self.inside.state))) (items g c) ∙ (drafted g c).0 ∙ ap Some (sym c.advance.ensures)

same_first : (g : Over) (c : goal.After-drop-accepted-2 g) → g.State.Object.object.first c.advance.new.state ≡ g.State.Object.object.first c.self.inside.state
same_first g c = replay_began g.State.Object.object g.met.State.Object.lawful (g.State.Object.object.first c.self.inside.state) c.self.invariant.0 c.append.new.self.items c.advance.new.state (replays g c)

pub invariant_of-self-2 : goal.invariant_of-self-2
invariant_of-self-2 g c =
    let object = g.State.Object.object in
    let P : g.row.State.Denot → Type 0 = λ first. IsFirst object first × (replay (begun object first) c.append.new.self.items ≡ Some c.advance.new.state) in
    subst P (sym (same_first g c)) (c.self.invariant.0, replays g c)

pub returns-clause-first : goal.returns-clause-first
returns-clause-first g c = same_first g c ∙ ap (λ (r : Reading g.row.State.Denot g.row.State-Call.Denot). r.first) c.self.view_is

pub returns-clause-decides : goal.returns-clause-decides
returns-clause-decides g c =
    let object = g.State.Object.object in
    let R = Reading g.row.State.Denot g.row.State-Call.Denot in
    let new : R = record { first = object.first c.advance.new.state; index = c.in_ok-next.next; history = c.append.new.self.items; numbers = c.set_number.new.numbers.entries } in
    let P : R → Type 0 = λ old. DecidesEntry (begun object old.first) old c.args.entry.now c.draft.inside.replies.items new in
    let history = c.self.inside.history.items in
    let T : ℕ × List g.row.State-Call.Denot × List (ℕ × g.row.State-Call.Denot) → Type 0 =
    λ t. AreDecided (begun object (object.first c.self.inside.state)) history t.0 t.1 c.draft.inside.replies.items t.2 in
    subst P c.self.view_is (record {
      decided = subst T (λ i. (c.seat-seat.ensures.exact i, c.calls.ensures.exact i, sym (items g c) i)) (drafted g c).1;
      last = λ seat. c.in_ok-set_number.ensures.set seat
          ∙ (λ i. if seat == c.seat-seat.ensures.exact i then c.number-number.ensures.exact i else number_in c.self.inside.numbers.entries seat);
    })
