use Rattle.std.specs.Prelude.{MatchOption}
use Rattle.camp_uses.proofs.Words.{Ok, Contents, sym, subst, repository}
use Rattle.camp_object.specs.Asking.{Ask}
use Rattle.camp_object.specs.Objects.{IsFirst, begun}
use Rattle.camp_history.specs.Seats.{caller_at, history_of}
use Rattle.camp_uses.specs.Shared.{HistoryHasTree, HistoryLacksBranch}
use Rattle.camp_uses.proofs.Shared.{asks_alone, found}
use Rattle.camp_uses.proofs.heads.tree_at.Goals as goal

pub returns-clause-own : goal.returns-clause-own
returns-clause-own g c =
    let first = c.args.head.now.first in
    let is : IsFirst repository first = subst (λ (state : Contents). IsFirst repository state) c.requires.first c.number-number.ensures.first in
    let asks = subst (λ kept. Ask (begun repository first) (caller_at c.args.head.now c.args.seat.now) (history_of c.args.seat.now) kept c.ask.result (history_of c.ask.new.seat)) c.in_ok-kept.ensures.call c.ask.ensures.asks in
    asks_alone first is (caller_at c.args.head.now c.args.seat.now) (history_of c.args.seat.now) (history_of c.ask.new.seat) c.args.branch.now c.ask.result asks.legal asks.says

pub returns-clause-tree : goal.returns-clause-tree
returns-clause-tree g c =
    let first = c.args.head.now.first in
    let is : IsFirst repository first = subst (λ (state : Contents). IsFirst repository state) c.requires.first c.number-number.ensures.first in
    let asks = subst (λ kept. Ask (begun repository first) (caller_at c.args.head.now c.args.seat.now) (history_of c.args.seat.now) kept (Ok c.in_ok-reply.reply) (history_of c.ask.new.seat)) c.in_ok-kept.ensures.call c.in_ok-reply.ensures.asks in
    subst (λ tree. MatchOption tree (HistoryLacksBranch first.limits (history_of c.ask.new.seat) c.args.branch.now) (HistoryHasTree first.limits (history_of c.ask.new.seat) c.args.branch.now)) (sym c.tree_in.ensures.exact)
    (found c.histories_tell_trees.ensures.law first is (caller_at c.args.head.now c.args.seat.now) (history_of c.args.seat.now) (history_of c.ask.new.seat) c.args.branch.now c.in_ok-reply.reply asks.legal asks.says)
