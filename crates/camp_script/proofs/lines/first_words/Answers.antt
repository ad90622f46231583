use Rattle.camp_script.proofs.Common.{sym, ◌∙◌, map, length-map, eqb-true}
use Rattle.camp_script.proofs.FirstWords.{front_of_six}
use Rattle.camp_script.proofs.lines.first_words.Goals as goal

pub returns-then-is_full : goal.returns-then-is_full
returns-then-is_full c = record {
  exact =
      let six = eqb-true _ _ (sym c.is_full.ensures.value ∙ c.if-is_full.true) in
      front_of_six (map (λ word. word.now) c.loop-word.first.items) _ _ (length-map c.loop-word.first.items _ ∙ six) c.loop-word.invariant.0;
}
