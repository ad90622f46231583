use Rattle.std.proofs.lemmas.Cmp.{nat_list_eq_equiv}
use Rattle.camp_questions.proofs.Words.{◌&&◌, ◌∙◌, ap, list_any}
use Rattle.camp_questions.proofs.graph_texts.is_among.Goals as goal

pub returns : goal.returns
returns c =
    c.contains.ensures.value ∙ ap (λ f. list_any f c.args.pairs.now) (λ i other. nat_list_eq_equiv.symm other.0 c.args.pair.now.0 i && nat_list_eq_equiv.symm other.1 c.args.pair.now.1 i)
