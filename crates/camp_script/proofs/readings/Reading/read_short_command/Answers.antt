use Rattle.camp_script.proofs.Common.{◌≡◌, true, false, codes, rules, bytes_eq}
use Rattle.camp_script.proofs.readings.Reading.read_short_command.Goals as goal

pub returns-then-eq-2 : goal.returns-then-eq-2
returns-then-eq-2 c =
    let other : bytes_eq c.args.word.now (codes "branch") ≡ false = search rules in
    let is : bytes_eq c.args.word.now (codes "record") ≡ true = search rules in
    rw (other, is) c.read_record.ensures

pub returns : goal.returns
returns c =
    let other : bytes_eq c.args.word.now (codes "branch") ≡ false = search rules in
    let neither : bytes_eq c.args.word.now (codes "record") ≡ false = search rules in
    let none : bytes_eq c.args.word.now (codes "client") ≡ false = search rules in
    rw (other, neither, none) c.read_question.ensures
