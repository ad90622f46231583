use Rattle.camp_questions.proofs.Words.{◌≡◌, ◌<◌, ◌≤◌, ◌+◌, ◌-◌, arith, length, greatest_reach}
use Rattle.camp_questions.proofs.PassedChanges.{above_passes}
use Rattle.camp_questions.proofs.passing.line_above.Goals as goal

pub returns : goal.returns
returns c =
    let other = c.args.other.now in
    let hunk = c.args.hunk.now in
    let line = c.args.line in
    let gap = other.line - line - length hunk.old in
    let stands : other.line ≡ line + length hunk.old + gap = omega (arith, c.requires.above) in
    let between : 0 < gap = omega (arith, c.requires.above) in
    let within : line + length hunk.new + gap + length other.old + length other.new ≤ greatest_reach = grind arith in
    above_passes other hunk line gap c.requires.path c.line.ensures.in_range c.requires.range stands between within
