use Rattle.camp_history.proofs.heads.Head.longest_at_positions.Given as goal

abbrev pub decreases-loop-number : goal.decreases-loop-number
decreases-loop-number g l = l.number
