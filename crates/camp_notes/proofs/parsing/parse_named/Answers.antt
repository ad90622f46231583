use Rattle.camp_notes.proofs.ParseLemmas.{unlined}
use Rattle.camp_notes.proofs.parsing.parse_named.Goals as goal

pub returns-in-None : goal.returns-in-None
returns-in-None c = λ bytes begins. unlined bytes c.args.name c.args.lines.now c.in-None.ensures.cases begins
