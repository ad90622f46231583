use Rattle.camp_questions.proofs.Words.{◌∙◌, ap, bytes_eq, known_in}
use Rattle.camp_questions.proofs.LineNames.{hunk_stands}
use Rattle.camp_questions.proofs.walks.Annotation.after_change.Goals as goal

pub after_hunk-requires : goal.after_hunk-requires
after_hunk-requires c =
    hunk_stands c.args.path.now c.args.p.now.prim c.in-Hunk.hunk (known_in c.args.self.now) c.eq.result c.in-Hunk.is c.requires (c.eq.ensures ∙ ap (λ q. bytes_eq q c.args.path.now) c.path.ensures.value) c.if-eq.true
