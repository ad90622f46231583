use Rattle.camp_history.proofs.Words.{◌≡◌, ◌≢◌, ◌<◌, ◌+◌, [], ◌∷◌, ◌++◌, sym, ◌∙◌, subst, length, map, take, All, List, arith, All-same, All-push, news, entry_of, Mark}
use Rattle.camp_row.specs.Chains as chain
use Rattle.camp_history.proofs.SnapshotLemmas.{step, all_taken, one_more_is_next}
use Rattle.camp_history.proofs.heads.Head.follows_trail.Goals as goal

pub loop-mark-preserved : goal.loop-mark-preserved
loop-mark-preserved g c =
    let past = c.loop-mark.invariant in
    let seat = c.args.seat.now in
    let list = news seat c.args.snapshot.now in
    let i = c.loop-mark.index in
    let mark = c.in-Some.mark.now in
    let left = c.next.new.self in
    let entry = c.entry_at-entry.result in
    let at = c.entry_at-entry.ensures in
    let first = sym past.rest ∙ c.in-Some.ensures in
    let next = step list left i mark first in
    let index : entry.index ≡ mark.call.index = c.if-entry-index.false ∙ c.index.ensures in
    let is : entry ≡ entry_of mark = λ k. record { seat = c.if-entry-mark.false k; index = index k } in
    let index = c.if-index-len.false in
    let len = c.len.ensures.exact in
    let within = past.within in
    let other : i ≢ length c.args.trail.now = λ same. index (same ∙ sym len) in
    let Below : Mark g.row.State-Call.Denot → Type 0 = λ mark. mark.seat < seat.known.row.seats in
    record {
      same = at.same ∙ past.same;
      rest = sym next.2;
      within = omega (arith, other);
      ahead = one_more_is_next seat.known.seen seat.known.ahead list left i mark entry first past.ahead (rw (← past.same) at.entry) is;
      below = All-same Below (take (i + 1) list) (take i list ++ mark ∷ []) next.1 (All-push Below (take i list) mark past.below (rw (← past.same, ← c.if-entry-mark.false) at.below));
    }

pub returns-clause-continues_seat : goal.returns-clause-continues_seat
returns-clause-continues_seat g c = λ yes.
    let past = c.loop-mark.invariant in
    let seat = c.args.seat.now in
    let list = news seat c.args.snapshot.now in
    let i = c.loop-mark.index in
    let all : take i list ≡ list = all_taken list i (sym past.rest ∙ c.in_default.ensures) in
    let Comes : List (Mark g.row.State-Call.Denot) → Type 0 = λ list. chain.IsPrefix (seat.known.seen ++ map entry_of list) seat.known.ahead in
    let Below : List (Mark g.row.State-Call.Denot) → Type 0 = λ list. All (λ mark. mark.seat < seat.known.row.seats) list in
    record { begins = c.requires.begins; ahead = subst Comes all past.ahead; below = subst Below all past.below }
