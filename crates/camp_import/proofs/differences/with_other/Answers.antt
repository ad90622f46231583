use Rattle.std.proofs.Common.{true≢false, sym, ◌∙◌}
use Rattle.camp_import.proofs.DifferenceLemmas.{other_added, other_kept}
use Rattle.camp_import.proofs.differences.with_other.Goals as goal

pub returns-then-has_same_file : goal.returns-then-has_same_file
returns-then-has_same_file c =
    other_kept c.args.file.now.0 c.args.file.now.1 c.args.other.now c.args.paths (c.has_same_file.ensures.0 c.if-has_same_file.true)

pub returns : goal.returns
returns c =
    other_added _ c.args.file.now.0 c.args.file.now.1 c.args.other.now c.args.paths _ (λ same. true≢false (sym (c.has_same_file.ensures.1 same) ∙ c.if-has_same_file.false)) c.in_ok-path.ensures c.in_ok-more.ensures.exact
