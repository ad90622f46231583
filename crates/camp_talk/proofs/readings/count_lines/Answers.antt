use Rattle.std.proofs.lemmas.Iterator.Consumers.{YieldsList-from_first, count_from_yields_List}
use Rattle.camp_talk.proofs.Words.{ap, length, length-map, map, refl, sym, without_end, ◌∙◌, lines_without_end}
use Rattle.camp_talk.proofs.readings.count_lines.Goals as goal

pub returns : goal.returns
returns c =
    let lines = c.lines_with_terminator.result in
    count_from_yields_List _ _ c.count.ensures.ran (YieldsList-from_first (λ line. line.now) (λ rest. rest) lines refl)
    ∙ sym (length-map lines without_end)
    ∙ ap length (ap (map without_end) c.lines_with_terminator.ensures.value ∙ lines_without_end c.args.bytes.now)
