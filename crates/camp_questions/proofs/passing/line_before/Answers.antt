use Rattle.camp_questions.proofs.Words.{sym, ◌∙◌, subst, true≢false, IfSome_then, InRange}
use Rattle.camp_questions.proofs.PassedChanges.{passes_elsewhere, passes_hunk}
use Rattle.camp_questions.proofs.passing.line_before.Goals as goal

pub returns-then-not-is_in_file-clause-passes : goal.returns-then-not-is_in_file-clause-passes
returns-then-not-is_in_file-clause-passes c =
    passes_elsewhere c.args.change.now c.args.patch.now c.args.hunk.now c.args.line (c.is_other.ensures c.if-not-is_other.false) (λ e. true≢false (sym (c.is_in_file.ensures.is.1 e) ∙ c.if-not-is_in_file.true)) c.is_in_file.ensures.range c.requires

pub returns-in-Hunk-clause-passes : goal.returns-in-Hunk-clause-passes
returns-in-Hunk-clause-passes c =
    let own = subst InRange c.in-Hunk.is c.is_in_file.ensures.range in
    IfSome_then c.line_past.result c.line_past.ensures (λ next passes. passes_hunk c.args.change.now c.args.patch.now c.in-Hunk.other c.args.hunk.now c.args.line next (c.is_other.ensures c.if-not-is_other.false) c.in-Hunk.is own c.requires passes)
