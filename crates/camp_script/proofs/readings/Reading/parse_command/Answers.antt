use Rattle.camp_script.proofs.Common.{◌≡◌, true, false, ap, map, ◌∙◌, codes, rules, bytes_eq}
use Rattle.camp_script.proofs.FirstWords.{six_are_enough}
use Rattle.camp_script.proofs.readings.Reading.parse_command.Goals as goal

pub returns-then-eq : goal.returns-then-eq
returns-then-eq c =
    let is : bytes_eq c.args.word.now (codes "pull") ≡ true = search rules in
    rw is c.read_pull.ensures

pub returns-then-eq-2 : goal.returns-then-eq-2
returns-then-eq-2 c =
    let other : bytes_eq c.args.word.now (codes "pull") ≡ false = search rules in
    let is : bytes_eq c.args.word.now (codes "obliterate") ≡ true = search rules in
    rw (other, is) c.read_obliterate.ensures

pub returns : goal.returns
returns c =
    let first = ap (map (λ word. word.now)) c.as_slice-3.ensures.value ∙ c.first_words-words.ensures.exact in
    let other : bytes_eq c.args.word.now (codes "pull") ≡ false = search rules in
    let neither : bytes_eq c.args.word.now (codes "obliterate") ≡ false = search rules in
    rw (other, neither) (rw (first, six_are_enough) at c.read_short_command.ensures)
