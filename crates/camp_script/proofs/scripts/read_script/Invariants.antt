use Rattle.camp_script.proofs.Common.{◌≡◌, ◌+◌, ◌≤◌, length, map, lines_of, without_end, read_from, script_of}
use Rattle.camp_script.proofs.Wanting.{IsBegun}
use Rattle.camp_script.proofs.scripts.read_script.Given as goal

abbrev pub invariant-loop-line : goal.invariant-loop-line
invariant-loop-line l =
    (read_from (l.number + 1) l.reading (map without_end l.line-iterator) ≡ script_of l.fn.bytes) × (l.number + length l.line-iterator ≤ length l.fn.bytes)
    × IsBegun l.number l.reading (map without_end l.line-iterator) (lines_of l.fn.bytes)
