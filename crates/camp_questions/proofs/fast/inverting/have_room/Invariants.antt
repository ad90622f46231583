use Rattle.camp_questions.proofs.Words.{◌≡◌, map, take, Plain}
use Rattle.camp_questions.proofs.fast.inverting.have_room.Given as goal

abbrev pub invariant-loop-catch : goal.invariant-loop-catch
invariant-loop-catch l = take l.catch-index l.list ≡ map Plain l.forth
