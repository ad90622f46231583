use Rattle.camp_questions.proofs.Words.{◌∙◌}
use Rattle.camp_questions.proofs.OpenChanges.{found_among}
use Rattle.camp_questions.proofs.open_changes.is_among.Goals as goal

pub returns : goal.returns
returns c = λ up. c.is_ok.ensures.value ∙ found_among c.args.pairs.now c.args.pair.now up c.binary_search.result c.binary_search.ensures.bound c.binary_search.ensures.position
