-- The missing names are those that a pull without names brings.
use Rattle.camp_questions.proofs.Words.{◌≡◌, ℕ, Bool, true, not, cond, ◌||◌, List, [], ◌∷◌, ◌++◌, filter, Option, None, Some, Ok, bytes_eq, refl, sym, ap, ◌∙◌, same_Some, Catch, has_patch, is_among, names_of, Next, Has, Contents, is_empty, step, accepted_calls, IsMissing, missing_in, MissingIsPulled, name_itself, or_true, passes_is_kept, pull_nothing, none_lacked, Result, Err, IfOk, IsReported, Unanswered, ReportsAnswer}
use Rattle.camp_call.specs.declared.calls.Call.TheVariants as call
use Rattle.camp_repo.specs.Lawful.{IsLawfulState}
use Rattle.camp_questions.proofs.Growths.{names_differ}

module _ (p q : List ℕ → Bool) where
  -- tests that agree on the elements of a list keep the same ones
  alike_there : (names : List (List ℕ)) → ((name : List ℕ) → is_among names name ≡ true → p name ≡ q name) → filter p names ≡ filter q names
  alike_there [] same = refl
  alike_there (n ∷ names) same =
      let here = same n (ap (λ b. b || is_among names n) (name_itself n)) in
      let rest = alike_there names (λ name there. same name (or_true (bytes_eq name n) (is_among names name) there)) in
      λ i. cond (here i) (n ∷ rest i) (rest i)

-- the names that pass a test are those of the list that pass it
among_passed : (p : List ℕ → Bool) (names : List (List ℕ)) → filter (is_among (filter p names)) names ≡ filter p names
among_passed p names = alike_there (is_among (filter p names)) p names (λ name there. passes_is_kept p names name there)

pub same_catches : {o : Option (List Catch)} {catches other : List Catch} → o ≡ Some catches → o ≡ Some other → catches ≡ other
same_catches e f = same_Some _ _ (sym e ∙ f)

comes : (state next : Contents) (from to : List ℕ) (theirs ours new : List Catch) → IsLawfulState state → Has state from theirs → Has state to ours → step state (call.Pull from to None) ≡ Next next → Has next to new → names_of new ≡ names_of ours ++ missing_in ours theirs
comes state next from to theirs ours new lawful from_has to_has e becomes =
    let pulls = accepted_calls state (call.Pull from to None) next lawful e in
    let the_theirs : pulls.theirs ≡ theirs = same_catches pulls.from_has from_has in
    let the_ours : pulls.ours ≡ ours = same_catches pulls.to_has to_has in
    let the_new : new ≡ pulls.ours ++ pulls.taken = same_catches becomes pulls.becomes in
    ap names_of the_new ∙ pulls.named ∙ ap (λ names. names_of pulls.ours ++ names) (among_passed (λ name. not (has_patch pulls.ours name)) (names_of pulls.theirs)) ∙ (λ i. names_of (the_ours i) ++ missing_in (the_ours i) (the_theirs i))

-- both branches exist, and the names are those that one of them lacks
pub missing_told : {E : Type 0} (state : Contents) (from to : List ℕ) {theirs ours : List Catch} (made : Result (List (List ℕ)) E) (result : Result (List (List ℕ)) Unanswered) → Has state from theirs → Has state to ours → IsReported made result → IfOk made (λ names. names ≡ missing_in ours theirs) → ReportsAnswer (IsMissing state from to) result
missing_told state from to (Ok names) result from_has to_has is w = rw is (rw from_has (rw to_has (ap Ok w)))
missing_told state from to {theirs} {ours} (Err error) result from_has to_has is w =
    rw is (missing_in ours theirs, rw from_has (rw to_has refl))

pub missing_is_pulled : MissingIsPulled
missing_is_pulled = record {
  comes = comes;
  nothing = λ state from to theirs ours from_has to_has other none.
      sym (pull_nothing state from to None theirs ours from_has to_has (names_differ from to other) (none_lacked theirs) (ap is_empty none));
}
