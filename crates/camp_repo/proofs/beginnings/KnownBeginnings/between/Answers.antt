use Rattle.camp_repo.proofs.Words.{◌∙◌, sym, subst, agree_none}
use Rattle.camp_repo.proofs.BeginningSteps.{RestHold, known_agrees, rest_more}
use Rattle.camp_repo.proofs.beginnings.KnownBeginnings.between.Goals as goal

pub loop-beginning-init : goal.loop-beginning-init
loop-beginning-init c =
    let from = c.into_iter-beginning-iterator.ensures.into_iter_gives ∙ c.iter-beginning-items.ensures.rest ∙ c.self.view_is in
    subst (RestHold c.args.self.now) (sym from) (λ branches w. w)

pub loop-beginning-preserved : goal.loop-beginning-preserved
loop-beginning-preserved c =
    rest_more c.args.self.now c.loop-beginning.beginning-iterator c.next.new.self c.in-Some.beginning.now c.loop-beginning.invariant c.in-Some.ensures.steps

pub returns-then-is_of : goal.returns-then-is_of
returns-then-is_of c =
    let same = c.is_of.ensures.0 c.if-is_of.true in
    known_agrees c.args.self.now c.loop-beginning.beginning-iterator c.next.new.self c.in-Some.beginning.now c.args.from c.args.to c.loop-beginning.invariant c.in-Some.ensures.steps same.0 same.1

pub returns : goal.returns
returns c branches w theirs ours there here = agree_none theirs ours
