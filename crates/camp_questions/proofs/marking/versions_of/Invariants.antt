use Rattle.camp_questions.proofs.Words.{take, AreVersions}
use Rattle.camp_questions.proofs.marking.versions_of.Given as goal

abbrev pub invariant-loop-name : goal.invariant-loop-name
invariant-loop-name l = AreVersions l.seen l.tree l.path l.lines (take l.name-index l.names) l.versions.items
