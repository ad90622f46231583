use Rattle.std.proofs.Common.{take}
use Rattle.camp_object.specs.Objects.{begun}
use Rattle.camp_member.specs.Inside.Drafts.{CountsEach, DraftsAll}
use Rattle.camp_member.proofs.drafts.Draft.of_calls.Given as goal

abbrev pub invariant-loop-call : goal.invariant-loop-call
invariant-loop-call g l =
    CountsEach g.State.Object.object l.state l.before l.draft
    × ((first : g.row.State.Denot) → DraftsAll (begun g.State.Object.object first) l.state l.before l.seat (take l.call-index l.calls) l.draft)
