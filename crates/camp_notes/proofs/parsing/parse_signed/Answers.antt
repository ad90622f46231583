use Rattle.camp_notes.proofs.ParseLemmas.{lines_fail}
use Rattle.camp_notes.proofs.parsing.parse_signed.Goals as goal

pub returns-in-Err : goal.returns-in-Err
returns-in-Err c = λ bytes begins. lines_fail c.in-Err.kind bytes c.args.name c.args.rest.now (rw c.in-Err.is at c.in_ok-text.ensures.exact) begins
