use Rattle.camp_script.proofs.Common.{◌≡◌, ◌<◌, false, ℕ, ◌==◌, sym, ◌∙◌, arith, eqb-true, nat_tests}
use Rattle.bstr.proofs.lemmas.MatchListLemmas.{goes-ref}
use Rattle.camp_script.proofs.WordLemmas.{IsCut, IsCut-at, first_word, no_word}
use Rattle.camp_script.proofs.lines.WordsIterator.next.Goals as goal
use Rattle.camp_script.proofs.lines.WordsIterator.next.Goals.{After-split_at}

is_cut : (c : After-split_at) → IsCut c.self.inside.rest.now c.split_at.result.0.now c.split_at.result.1.now
is_cut c = IsCut-at _ _ _ c.blanks_len.result c.word_len.result c.blanks_len.ensures.place c.word_len.ensures.place c.split_at.ensures.front c.split_at.ensures.back

some-of : (n : ℕ) → (n == 0) ≡ false → 0 < n
some-of n other = grind (arith, nat_tests)

pub returns-then-is_empty-clause-steps : goal.returns-then-is_empty-clause-steps
returns-then-is_empty-clause-steps c =
    let cut = is_cut (goal.at.returns-then-is_empty-clause-steps c).After-split_at in
    let none = no_word _ _ _ cut (eqb-true _ _ (sym c.is_empty.ensures ∙ c.if-is_empty.true)) in
    (sym c.self.view_is ∙ none.0, none.1)

pub returns-clause-steps : goal.returns-clause-steps
returns-clause-steps c =
    let cut = is_cut (goal.at.returns-clause-steps c).After-split_at in
    sym c.self.view_is ∙ first_word _ _ _ cut (some-of _ (sym c.is_empty.ensures ∙ c.if-is_empty.false))

pub returns-clause-goes : goal.returns-clause-goes
returns-clause-goes c =
    let cut = is_cut (goal.at.returns-clause-goes c).After-split_at in
    goes-ref _ (λ _. tt) _ _ _ (sym c.self.view_is ∙ first_word _ _ _ cut (some-of _ (sym c.is_empty.ensures ∙ c.if-is_empty.false)))
