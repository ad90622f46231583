use Rattle.std.proofs.Common.{◌∙◌, ap, map, take}
use Rattle.camp_kept.specs.Titles.{limits_among}
use Rattle.camp_kept.proofs.TitleLemmas.{numbers_of}
use Rattle.camp_kept.proofs.titles.numbers_in.Goals as goal

pub returns : goal.returns
returns c limits range is =
    c.numbers_among.ensures
    ∙ ap limits_among (ap (map (λ word. word.now)) c.as_slice.ensures.value ∙ c.first_words-words.ensures.exact ∙ ap (take 6) c.new.ensures.exact)
    ∙ numbers_of limits range c.args.text.now is
