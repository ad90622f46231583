use Rattle.std.proofs.lemmas.List.Elements.{All-push, All-same}
use Rattle.camp_call.specs.declared.calls.Call.{Call}
use Rattle.camp_history.specs.Seats.{IsSeatOf}
use Rattle.worked.proofs.plays.seatings.put.Goals as goal

pub returns : goal.returns
returns c =
    let P = IsSeatOf {Call = Call} c.args.head.now in
    All-same P _ _ c.in_ok-push.ensures.items (All-push P _ _ c.requires.left c.requires.seat)
