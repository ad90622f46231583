use Rattle.camp_share.proofs.Words.{◌+◌, ◌-◌, ◌++◌, length, take, drop, sym, ap, ◌∙◌, arith, drop-append-add, slice_range}
use Rattle.camp_share.proofs.lists.SharedList.range.Goals as goal

pub returns : goal.returns
returns g c =
    let front = c.self.inside.front in
    let last = c.self.inside.last in
    let place = c.args.from - c.len-border.result in
    let begins = c.len-border.ensures in record {
      exact =
          ap (λ xs. slice_range xs place (c.args.to - c.len-border.result)) c.items.ensures
          ∙ ap (λ n. take n (drop place last)) {x = (c.args.to - c.len-border.result) - place} {y = c.args.to - c.args.from} (omega arith)
          ∙ ap (take (c.args.to - c.args.from)) (sym (drop-append-add front last place) ∙ ap (λ k. drop k (front ++ last)) {x = length front + place} {y = c.args.from} (omega arith) ∙ ap (drop c.args.from) c.self.view_is);
    }
