use Rattle.camp_questions.proofs.Words.{take, List, Catch, reverse, IsInverted}
use Rattle.camp_questions.specs.Inside.PartsOfOne.{AreMarkedAmong}
use Rattle.camp_questions.proofs.related.needed_among.Given as goal

abbrev pub invariant-loop-name : goal.invariant-loop-name
invariant-loop-name l =
    (branch : List Catch) → IsInverted branch (reverse l.back) → AreMarkedAmong branch l.names (take l.name-index l.names) l.all.items
