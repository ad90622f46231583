use Rattle.camp_git.proofs.Words.{◌≡◌, ◌++◌}
use Rattle.camp_git.specs.Exports.{content_of}
use Rattle.camp_git.proofs.texts.append_content.Given as goal

abbrev pub invariant-loop-line : goal.invariant-loop-line
invariant-loop-line l = l.content.items ++ content_of l.line-iterator ≡ content_of l.lines
