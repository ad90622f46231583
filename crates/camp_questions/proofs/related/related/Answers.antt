use Rattle.camp_questions.proofs.Words.{◌≡◌, ℕ, List, ◌++◌, ◌∙◌, ap, filter, subst, HeldBy, Needs, is_among, names_in, names_of}
use Rattle.camp_questions.proofs.related.related.Goals as goal

pub returns : goal.returns
returns c =
    let branch = c.args.branch.now in
    let needed : List (List ℕ) = c.in_ok-needed.needed in
    let held : List (List ℕ) = c.in_ok-held.held in
    let all = c.deref.ensures.value ∙ c.in_ok-extend_from_slice.ensures.items ∙ (λ i. (c.in_ok-all.ensures.items ∙ c.as_slice.ensures.exact) i ++ c.as_slice-2.ensures.exact i) in
    let alike : (n : List ℕ) → is_among (names_in c.in_ok-set.set) n ≡ is_among (needed ++ held) n = λ n. c.in_ok-set.ensures.exact n ∙ ap (λ l. is_among l n) all in
    record {
      needed = needed;
      held = held;
      needs = subst (λ l. Needs branch l needed) c.from_ref.ensures.value c.in_ok-needed.ensures;
      holds = subst (λ l. HeldBy branch l held) c.from_ref-2.ensures.value c.in_ok-held.ensures;
      are = c.in_ok-related.ensures ∙ (λ i. filter (λ n. alike n i) (names_of branch));
    }
