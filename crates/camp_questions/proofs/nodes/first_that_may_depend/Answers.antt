use Rattle.camp_questions.proofs.Words.{inr}
use Rattle.camp_questions.proofs.nodes.first_that_may_depend.Goals as goal

pub returns-then-in_place : goal.returns-then-in_place
returns-then-in_place c = inr (c.if-in_place.true, c.requires)
