use Rattle.camp_questions.proofs.Words.{◌≡◌, drop, file_from}
use Rattle.camp_questions.proofs.PlaceSteps.{behind_places}
use Rattle.camp_questions.proofs.mark_hunks.file_with.Given as goal

abbrev pub invariant-loop-place : goal.invariant-loop-place
invariant-loop-place l =
    behind_places l.places.items (file_from l.lines l.versions l.at (drop l.place-index l.found)) ≡ file_from l.lines l.versions 0 l.found
