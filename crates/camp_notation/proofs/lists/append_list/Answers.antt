use Rattle.camp_notation.proofs.Common.{◌≡◌, ◌∙◌, Some, ap, sym, string_bytes, slice_get-get_or, slice_get, named_text}
use Rattle.camp_notation.proofs.RowLemmas.{one_more}
use Rattle.camp_notation.proofs.lists.append_list.Goals as goal

pub loop-at-preserved : goal.loop-at-preserved
loop-at-preserved c =
    let list = c.args.s.now in
    let p = c.index-s-at.result in
    let is : slice_get list c.loop-at.at ≡ Some p = slice_get-get_or list c.loop-at.at p c.loop-at-test.true ∙ ap Some (sym c.index-s-at.is) in
    one_more (named_text c.args.known.now) list c.loop-at.at p (string_bytes c.push.new.self) (string_bytes c.loop-at.text) (string_bytes c.append_separator.new.text) (string_bytes c.append_named.new.text)
    c.loop-at.invariant is c.in_ok-append_separator.ensures c.in_ok-append_named.ensures
