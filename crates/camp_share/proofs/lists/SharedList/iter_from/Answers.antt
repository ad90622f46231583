use Rattle.camp_share.proofs.Words.{◌+◌, ◌-◌, ◌++◌, length, drop, sym, ap, ◌∙◌, arith, length-drop, take_all, drop-append-add}
use Rattle.camp_share.proofs.lists.SharedList.iter_from.Goals as goal

pub returns-clause-rest : goal.returns-clause-rest
returns-clause-rest g c =
    let front = c.self.inside.front in
    let last = c.self.inside.last in
    let items = c.items-last.result.now in
    let place = c.args.from - c.len-border.result in
    let begins = c.len-border.ensures in
    let long = length-drop place items in
    c.of_part-2.ensures.rest ∙ take_all (length items - place) (drop place items) (omega arith) ∙ ap (drop place) c.items-last.ensures
    ∙ sym (drop-append-add front last place) ∙ ap (λ k. drop k (front ++ last)) {x = length front + place} {y = c.args.from} (omega arith)
    ∙ ap (drop c.args.from) c.self.view_is
