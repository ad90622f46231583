use Rattle.camp_share.proofs.Words.{◌++◌, sym, ap, ◌∙◌, arith, append-nil}
use Rattle.std.specs.List.{splice}
use Rattle.camp_share.proofs.PartLemmas.{both_ok, joined_at_end}
use Rattle.camp_share.proofs.pieces.spliced_whole.Goals as goal

pub returns-then-items-le-FEW : goal.returns-then-items-le-FEW
returns-then-items-le-FEW g c =
    let items = c.args.items.now in
    both_ok c.both.result c.of.result c.spliced-last.result _ _ _ c.both.ensures.first c.both.ensures.second c.of.ensures c.spliced-last.ensures
    (λ front last kept new. ap (λ xs. xs ++ last) kept
    ∙ ap (λ xs. c.args.list ++ xs) (new ∙ ap (λ xs. splice xs 0 0 items) c.empty.ensures ∙ append-nil items)
    ∙ sym (joined_at_end c.args.list items c.args.from (omega arith))
    ∙ ap (λ n. splice c.args.list c.args.from n items) {x = c.args.from} {y = c.args.to} (omega (arith, c.requires.range, c.requires.within)))
