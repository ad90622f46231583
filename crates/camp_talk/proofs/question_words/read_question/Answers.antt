use Rattle.camp_talk.proofs.Words.{◌≡◌, false, ap, map, ◌∙◌, codes, rules, bytes_eq}
use Rattle.camp_talk.proofs.QuestionWords.{short}
use Rattle.camp_talk.proofs.question_words.read_question.Goals as goal

pub returns : goal.returns
returns c =
    let first = ap (map (λ word. word.now)) c.as_slice.ensures.value ∙ c.first_words-words.ensures.exact in
    let other : bytes_eq c.args.word.now (codes "needs") ≡ false = search rules in
    let neither : bytes_eq c.args.word.now (codes "held") ≡ false = search rules in
    let nor : bytes_eq c.args.word.now (codes "along") ≡ false = search rules in
    let never : bytes_eq c.args.word.now (codes "graph") ≡ false = search rules in
    short c.args.word.now _ _ _ first other neither nor never c.short_question.ensures
