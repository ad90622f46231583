use Rattle.camp_questions.proofs.Words.{◌≡◌, map, take, range_of, Version}
use Rattle.camp_questions.proofs.mark_hunks.ranges_of.Given as goal

abbrev pub invariant-loop-version : goal.invariant-loop-version
invariant-loop-version l =
    l.ranges.items ≡ map (λ (version : Version). range_of l.lines.items version.lines) (take l.version-index l.versions)
