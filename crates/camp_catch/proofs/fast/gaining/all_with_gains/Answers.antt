use Rattle.camp_catch.proofs.Words.{◌∷◌, ◌++◌, ◌∙◌, [], ap, sym, append-nil, append_assoc, nil_from_length}
use Rattle.camp_catch.proofs.fast.gaining.all_with_gains.Goals as goal

pub loop-catch-init : goal.loop-catch-init
loop-catch-init c = rw c.in_ok-settled.ensures.items (sym c.into_iter-catch-iterator.ensures.into_iter_gives.0)

pub loop-catch-preserved : goal.loop-catch-preserved
loop-catch-preserved c =
    let done = c.loop-catch.settled.items in
    let more = c.loop-catch.invariant ∙ ap (λ xs. done ++ xs) c.in-Some.ensures.steps.0 ∙ sym (append_assoc done (c.in-Some.catch ∷ []) c.next.new.self.rest.items) in
    rw (c.in_ok-push.ensures.items, c.in_ok-finish.ensures) more

pub returns : goal.returns
returns c =
    let done = c.loop-catch.settled.items in
    let none = nil_from_length _ (sym c.loop-catch.catch-iterator.rest.ok.0 ∙ c.in-None.ensures.steps.0) in
    sym (c.loop-catch.invariant ∙ ap (λ xs. done ++ xs) none ∙ append-nil done)
