use Rattle.camp_notation.proofs.Common.{◌≡◌, ◌∷◌, [], ap, ◌++◌, ◌∙◌, string_bytes, lit<, arith, entries, len-entries, row, file_notation}
use Rattle.camp_notation.proofs.RowLemmas.{one_more, no_item, all_items}
use Rattle.camp_notation.proofs.trees.tree_text.Goals as goal

pub unreachable-requires : goal.unreachable-requires
unreachable-requires c =
    no_item (entries c.args.tree.now) c.loop-at.at (omega (arith, c.len-at-end.ensures.exact, c.loop-at-test.true, len-entries c.args.tree.now)) c.in_default.ensures.exact

pub loop-at-preserved : goal.loop-at-preserved
loop-at-preserved c =
    one_more file_notation (entries c.args.tree.now) c.loop-at.at _ (string_bytes c.push.new.self) (string_bytes c.loop-at.text) (string_bytes c.append_separator.new.text) (string_bytes c.append_file.new.text)
    c.loop-at.invariant c.in-Some.ensures.exact c.in_ok-append_separator.ensures c.in_ok-append_file.ensures

pub returns : goal.returns
returns c =
    let all = all_items file_notation (entries c.args.tree.now) c.loop-at.at (string_bytes c.push.new.self) (string_bytes c.loop-at.text) (omega (arith, c.len-at-end.ensures.exact, c.loop-at-test.false, len-entries c.args.tree.now)) c.loop-at.invariant in
    let begun : string_bytes c.push.new.self ≡ string_bytes c.new-text.result ++ 123 ∷ [] = c.in_ok-push.ensures.bytes ∙ ap (λ t. string_bytes c.new-text.result ++ t) (c.in_ok-push.ensures.ascii (lit< tt)) in
    let ended : string_bytes c.push-2.new.self ≡ string_bytes c.loop-at.text ++ 125 ∷ [] = c.in_ok-push-2.ensures.bytes ∙ ap (λ t. string_bytes c.loop-at.text ++ t) (c.in_ok-push-2.ensures.ascii (lit< tt)) in
    record { exact = ended ∙ ap (λ t. t ++ 125 ∷ []) (all ∙ ap (λ t. t ++ row file_notation (entries c.args.tree.now)) (begun ∙ ap (λ t. t ++ 123 ∷ []) c.new-text.ensures.bytes)) }
