use Rattle.camp_talk.proofs.Words.{List, ℕ, map, sym, ap, ◌∙◌, lines_without_end, first_of, without_end}
use Rattle.camp_talk.proofs.parsing.first_line.Goals as goal

pub returns-in-Some : goal.returns-in-Some
returns-in-Some c = record {
  value = c.without_end.ensures.exact
      ∙ ap (λ (lines : List (List ℕ)). first_of (map without_end lines)) (sym c.in-Some.ensures.steps ∙ c.lines_with_terminator.ensures.value)
      ∙ ap first_of (lines_without_end c.args.bytes.now);
}

pub returns-in-None : goal.returns-in-None
returns-in-None c = record {
  value = ap (λ (lines : List (List ℕ)). first_of (map without_end lines)) (sym c.in-None.ensures.steps.0 ∙ c.lines_with_terminator.ensures.value)
      ∙ ap first_of (lines_without_end c.args.bytes.now);
}
