use Rattle.camp_questions.proofs.Words.{◌∙◌, sym}
use Rattle.camp_questions.proofs.LineNames.{found_under, kept_then}
use Rattle.camp_questions.proofs.walks.store_names.Goals as goal

pub returns-clause-before : goal.returns-clause-before
returns-clause-before c =
    c.in_ok-before.ensures.old ∙ sym (found_under c.args.taken.now c.args.key)

pub returns-clause-after : goal.returns-clause-after
returns-clause-after c =
    kept_then c.args.taken.now c.insert.new.self c.args.key c.args.names c.in_ok-before.ensures.updates.0
