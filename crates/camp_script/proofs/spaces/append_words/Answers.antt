use Rattle.camp_script.proofs.Common.{◌∷◌, ◌++◌, ap, ◌∙◌, arith, take_all, flat_map}
use Rattle.camp_script.proofs.HistoryLemmas.{spaced-map}
use Rattle.camp_script.proofs.spaces.append_words.Goals as goal

pub returns : goal.returns
returns c =
    c.loop-word.invariant ∙ ap (λ ws. c.args.text.now.items ++ flat_map (λ word. 32 ∷ word.now) ws) (take_all c.loop-word.word-index c.args.words.now (omega arith))
    ∙ ap (λ t. c.args.text.now.items ++ t) (spaced-map c.args.words.now)
