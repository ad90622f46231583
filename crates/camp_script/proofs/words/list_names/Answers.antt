use Rattle.camp_script.proofs.Common.{◌≡◌, ◌∙◌, ◌∷◌, ◌++◌, [], ℕ, List, Ok, ap, subst, sym, rules}
use Rattle.camp_script.proofs.NameLemmas.{NamesFrom, nothing_named, one_named, fault_named, all_named}
use Rattle.camp_script.proofs.words.list_names.Goals as goal

pub loop-word-init : goal.loop-word-init
loop-word-init c = ([], subst (NamesFrom c.args.number c.args.words []) (sym c.into_iter-word-iterator.ensures.into_iter_gives) (nothing_named c.args.number c.args.words), λ _. c.new-names.ensures.items)

pub loop-word-preserved-then-has_memory : goal.loop-word-preserved-then-has_memory
loop-word-preserved-then-has_memory c =
    let (done, so, has) = c.loop-word.invariant in
    let is : c.loop-word.names.items ≡ done = has c.if-has_memory.true in (
      done ++ c.in_ok-name.name ∷ [],
      one_named c.args.number c.args.words done c.loop-word.word-iterator c.next.new.self c.in-Some.word.now c.in_ok-name.name so c.in-Some.ensures.steps c.in_ok-name.ensures.given,
      λ pushed.
          let grown : c.push.new.self.items ≡ c.loop-word.names.items ++ c.in_ok-name.name ∷ [] = search (rules, pushed) in
          grown ∙ ap (λ (names : List (List ℕ)). names ++ c.in_ok-name.name ∷ []) is,
    )

pub loop-word-preserved : goal.loop-word-preserved
loop-word-preserved c =
    let (done, so, has) = c.loop-word.invariant in (
      done ++ c.in_ok-name.name ∷ [],
      one_named c.args.number c.args.words done c.loop-word.word-iterator c.next.new.self c.in-Some.word.now c.in_ok-name.name so c.in-Some.ensures.steps c.in_ok-name.ensures.given,
      λ has_memory. absurd (search (rules, has_memory)),
    )
