use Rattle.camp_questions.proofs.Words.{◌∙◌, ap, subst, effect_of, name_of, known_in}
use Rattle.camp_questions.proofs.LineNames.{IsAlong, ends_along, follows_next, one_along, starts_along}
use Rattle.camp_questions.proofs.walks.names_of_lines.Goals as goal

pub after_effect-requires : goal.after_effect-requires
after_effect-requires c =
    let along = subst (λ rest. IsAlong c.args.path.now c.args.catches.now rest (known_in c.loop-catch.walk)) c.in-Some.ensures.steps c.loop-catch.invariant in
    follows_next c.args.path.now c.args.catches.now c.in-Some.catch.now c.next.new.self c.effect.result.now (known_in c.loop-catch.walk) (c.effect.ensures.exact ∙ ap effect_of c.deref-in-loop-catch.ensures) along

pub loop-catch-preserved : goal.loop-catch-preserved
loop-catch-preserved c =
    let along = subst (λ rest. IsAlong c.args.path.now c.args.catches.now rest (known_in c.loop-catch.walk)) c.in-Some.ensures.steps c.loop-catch.invariant in
    one_along c.args.path.now c.name.result.now c.args.catches.now c.in-Some.catch.now c.next.new.self c.effect.result.now (known_in c.loop-catch.walk) (known_in c.after_effect.new.self) (c.name.ensures.exact ∙ ap name_of c.deref.ensures) (c.effect.ensures.exact ∙ ap effect_of c.deref-in-loop-catch.ensures) along c.in_ok-after_effect.ensures

pub loop-catch-init : goal.loop-catch-init
loop-catch-init c =
    starts_along c.args.path.now c.args.catches.now c.into_iter-catch-iterator.result (known_in c.new-walk.result) c.requires.0 c.requires.1 (c.into_iter-catch-iterator.ensures.into_iter_gives ∙ c.iter-catch-items.ensures.rest) c.new-walk.ensures

pub returns : goal.returns
returns c =
    ends_along c.args.path.now c.args.catches.now c.loop-catch.catch-iterator (known_in c.loop-catch.walk) c.in-None.ensures.steps.0 c.loop-catch.invariant
