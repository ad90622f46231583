use Rattle.std.proofs.Common.{◌+◌, ◌-◌}
use Rattle.camp_import.proofs.edits.+append_pieces.Given as goal

abbrev pub decreases-append_pieces : goal.decreases-append_pieces
decreases-append_pieces l = l.hunk.old_end - l.hunk.old_start + (l.hunk.new_end - l.hunk.new_start)
