use Rattle.camp_share.proofs.Words.{◌++◌, ap, ◌∙◌, arith, IfOk-weaker}
use Rattle.std.specs.List.{splice}
use Rattle.camp_share.proofs.PartLemmas.{both_ok, changed_in_front, changed_in_last, joined_at_end}
use Rattle.camp_share.proofs.pieces.spliced.Goals as goal

pub returns-then-to-border : goal.returns-then-to-border
returns-then-to-border g c =
    both_ok c.both.result c.of.result c.share.result _ _ _ c.both.ensures.first c.both.ensures.second c.of.ensures c.share.ensures
    (λ changed same new kept. changed_in_front c.args.front.now c.args.last.now c.args.items.now changed same c.args.from c.args.to (new ∙ c.in_ok-list.ensures) kept c.requires.range (omega arith))

pub returns-then-has_room : goal.returns-then-has_room
returns-then-has_room g c =
    let begins = c.len-border.ensures in
    both_ok c.both-then-has_room.result c.share-then-has_room.result c.spliced-changed.result _ _ _ c.both-then-has_room.ensures.first c.both-then-has_room.ensures.second c.share-then-has_room.ensures c.spliced-changed.ensures
    (λ same changed kept new. changed_in_last c.args.front.now c.args.last.now c.args.items.now same changed c.args.from c.args.to c.len-border.result begins kept new c.requires.range (omega arith))

pub returns : goal.returns
returns g c =
    IfOk-weaker c.spliced_whole.result _ _
    (λ new is. is ∙ ap (λ xs. splice xs c.args.from c.args.to c.args.items.now)
    (c.in_ok-list-2.ensures ∙ joined_at_end c.args.front.now c.items.result.now c.len-border.result c.len-border.ensures ∙ ap (λ xs. c.args.front.now ++ xs) c.items.ensures))
    c.spliced_whole.ensures
