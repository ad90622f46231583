use Rattle.camp_questions.proofs.Words.{arith, known_in}
use Rattle.camp_questions.proofs.LineNames.{applies_next, one_further}
use Rattle.camp_questions.proofs.walks.Annotation.after_effect.Goals as goal

pub after_change-requires : goal.after_change-requires
after_change-requires c =
    applies_next c.args.path.now c.args.name.now (known_in c.args.self.now) c.args.effect.now c.loop-p.p-index c.p-item.result c.p-item.result (known_in c.loop-p.self) (omega arith) c.p-item.is c.loop-p.invariant

pub loop-p-preserved : goal.loop-p-preserved
loop-p-preserved c =
    one_further c.args.path.now c.args.name.now (known_in c.args.self.now) c.args.effect.now c.loop-p.p-index c.p-item.result c.p-item.result (known_in c.loop-p.self) (known_in c.after_change.new.self) (omega arith) c.p-item.is c.loop-p.invariant c.in_ok-after_change.ensures
