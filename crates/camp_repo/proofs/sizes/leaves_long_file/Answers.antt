use Rattle.camp_repo.proofs.SizeSteps.{short_or_gone}
use Rattle.camp_repo.proofs.sizes.leaves_long_file.Goals as goal

pub returns-in_default : goal.returns-in_default
returns-in_default c = let led = c.requires.led in short_or_gone c.args.change.now led.0 c.args.tree.now c.in_default.not-Hunk led.1
