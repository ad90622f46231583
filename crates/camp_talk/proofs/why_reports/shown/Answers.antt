use Rattle.camp_talk.proofs.Words.{ap, take, ◌∙◌}
use Rattle.std.proofs.lemmas.List.{take_min}
use Rattle.camp_talk.proofs.why_reports.shown.Goals as goal

pub returns : goal.returns
returns c = ap (λ n. take n c.args.line.now) c.min.ensures ∙ take_min 200 c.args.line.now
