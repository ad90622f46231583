use Rattle.std.proofs.lemmas.Result.{on_ok_weaker}
use Rattle.camp_history.proofs.Words.{◌≡◌, ◌++◌, ◌∷◌, [], ◌∙◌, ap, sym, Shows}
use Rattle.camp_history.proofs.Seeing.{next_seen}
use Rattle.camp_history.proofs.heads.Head.see.Goals as goal

pub step-requires-clause-state : goal.step-requires-clause-state
step-requires-clause-state g c = rw c.value.ensures at (c.in_ok-state.ensures c.args.next.entry.seat)

pub returns-clause-sees_further : goal.returns-clause-sees_further
returns-clause-sees_further g c =
    let store : c.args.self.now.store ≡ c.self.inside.calls = ap (λ head. head.store) (sym c.self.view_is) in
    let shown : Shows c.args.self.now.store c.in-Some.call = rw store c.in-Some.ensures.0 in
    next_seen c.args.self.now c.args.seat.now c.step.new.self c.args.next c.in-Some.call c.step.result c.requires.of c.requires.next shown c.step.ensures.ok c.step.ensures.err

pub returns-clause-known : goal.returns-clause-known
returns-clause-known g c =
    let known = c.args.seat.now.known in
    on_ok_weaker c.step.result
    (λ ok. ap (λ seat. seat.known) ok ∙ ap (λ index. record known { seen = known.seen ++ record { seat = c.args.next.entry.seat; index = index } ∷ [] }) c.in-Some.ensures.1) c.step.ensures.ok
