use Rattle.std.proofs.Common.{rules, ◌≡◌, ◌+◌, List, [], ◌∷◌, ◌++◌, take, sym, subst}
use Rattle.std.proofs.lemmas.List.{take_more}
use Rattle.camp_object.specs.Objects.{begun}
use Rattle.camp_member.specs.Inside.Drafts.{DraftsAll}
use Rattle.camp_member.proofs.Deciding.{decides_begun, drafts_more}
use Rattle.camp_member.proofs.drafts.Draft.of_calls.Goals as goal

pub loop-call-preserved : goal.loop-call-preserved
loop-call-preserved g c =
    let calls = c.args.calls.now in
    let i = c.loop-call.call-index in
    let call = c.call-item.result in
    let next : take (i + 1) calls ≡ take i calls ++ call ∷ [] = search (rules, take_more) in (
      c.in_ok-decide.ensures.counts,
      λ first.
          let object = begun g.State.Object.object first in
          let P : List g.row.State-Call.Denot → Type 0 = λ list. DraftsAll object c.args.state.now c.args.before c.args.seat list c.decide.new.self in
          subst P (sym next) (drafts_more object c.args.state.now c.args.before c.args.seat (take i calls) call c.loop-call.draft c.decide.new.self (c.loop-call.invariant.1 first) (decides_begun g.State.Object.object first c.args.state.now c.args.before c.args.seat call c.loop-call.draft c.decide.new.self c.in_ok-decide.ensures.decides)),
    )
