use Rattle.camp_questions.proofs.Words.{◌≡◌, ◌++◌, filter, flat_map, map, take, member_name, members_of, pair_of}
use Rattle.camp_questions.proofs.OpenPairs.{opens}
use Rattle.camp_questions.proofs.open_conflicts.collect_members.Given as goal

abbrev pub invariant-loop-index : goal.invariant-loop-index
invariant-loop-index l =
    l.pairs.items ≡ l.fn.pairs.items ++ flat_map (pair_of l.name) (map member_name (filter (opens l.seen) (take l.index (members_of l.set))))
