use Rattle.camp_notation.proofs.Common.{◌≡◌, ◌++◌, ◌∙◌, Some, ap, sym, string_bytes, slice_get-get_or, slice_get, catch_text}
use Rattle.camp_notation.proofs.RowLemmas.{one_more}
use Rattle.camp_notation.proofs.catches.append_catches.Goals as goal

pub loop-at-preserved : goal.loop-at-preserved
loop-at-preserved c =
    let list = c.args.list.now in
    let text = catch_text c.args.known.now in
    let j = c.index-list-at.result in
    let separated = string_bytes c.append_separator.new.text in
    let is : slice_get list c.loop-at.at ≡ Some j = slice_get-get_or list c.loop-at.at j c.loop-at-test.true ∙ ap Some (sym c.index-list-at.is) in
    one_more text list c.loop-at.at j (string_bytes c.push.new.self) (string_bytes c.loop-at.text) separated (string_bytes c.append_catch.new.text)
    c.loop-at.invariant is c.in_ok-append_separator.ensures (c.in_ok-append_catch.ensures ∙ ap (λ k. separated ++ text k) c.deref.ensures)
