-- Lemmas on histories: their parts, and the calls of a seat in them.
use Rattle.camp_clients.proofs.Words.{◌≡◌, ℕ, ◌==◌, true, List, [], ◌∷◌, ◌++◌, Some, IsSome, refl, sym, ◌∙◌, ap, subst, inl, inr, append-nil, append_cancel_left, eqb_tells, IsBeginning, IsLegal, IsAccepted, own, Sequential, own-append, run-append}

pub same_seat : (seat : ℕ) → (seat == seat) ≡ true
same_seat seat = elim (eqb_tells seat seat) [ inl same ↦ same.0 | inr other ↦ absurd (other.1 refl) ]

-- if a seat has as many calls in the whole as in a prefix, the rest has none of it
pub own_rest : {Call : Type 0} (seat : ℕ) (f h : List (ℕ × Call)) (prefix : IsBeginning f h) → own seat h ≡ own seat f → own seat prefix.rest ≡ []
own_rest seat f h prefix same =
    append_cancel_left (own seat f) (own seat prefix.rest) [] (sym (own-append seat f prefix.rest) ∙ ap (own seat) prefix.makes ∙ same ∙ sym (append-nil (own seat f)))

-- the last call of a legal history was accepted before it
pub last_accepted : {State Call Reply : Type 0} (object : Sequential State Call Reply) (h : List (ℕ × Call)) (entry : ℕ × Call)
    → IsLegal object (h ++ entry ∷ []) → IsAccepted object h entry.1
last_accepted object h entry legal = subst IsSome (run-append object (Some object.initial) h (entry ∷ [])) legal

pub append_nil_right : {X : Type 0} (xs ys : List X) → xs ++ ys ≡ [] → ys ≡ []
append_nil_right [] ys e = e
append_nil_right (x ∷ xs) ys e = absurd (cc e)
