-- Pairs of relations of which exactly one has a result, and only one: success, or what blocks it.
use Rattle.camp_catch.proofs.Words.{ap, inl, inr, refl, subst, sym, ◌∙◌, ◌≡◌, ◌⊎◌, Decided}
use Rattle.camp_catch.proofs.Determined.{Determined}

pub record Settled {A B : Type 0} (Done : A → Type 0) (Sticks : B → Type 0) : Type 0 where
  pub one : (x y : A) → Done x → Done y → x ≡ y
  pub one_stick : (x y : B) → Sticks x → Sticks y → x ≡ y
  pub apart : (x : A) (y : B) → Done x → ¬ (Sticks y)
  pub either : ((x : A) × Done x) ⊎ ((y : B) × Sticks y)

-- success with exactly this value
pub at_once : {A B : Type 0} (x : A) → Settled (λ y. y ≡ x) (λ (y : B). ⊥)
at_once x = record { one = λ y z v w. v ∙ sym w; one_stick = λ y z v w. absurd v; apart = λ y z v w. w; either = inl (x, refl) }

-- the same with two values
pub both_at_once : {A B C : Type 0} (x : A) (y : B) → Settled (λ (p : A × B). (p.0 ≡ x) × (p.1 ≡ y)) (λ (z : C). ⊥)
both_at_once x y = record { one = λ p q v w. λ t. ((v.0 ∙ sym w.0) t, (v.1 ∙ sym w.1) t); one_stick = λ y z v w. absurd v; apart = λ y z v w. w; either = inl ((x, y), (refl, refl)) }

-- if there is no success, something blocks it
pub settles : {A B : Type 0} {Gives : A → Type 0} → Determined Gives → (on : B) → Settled Gives (λ y. ((x : A) → ¬ (Gives x)) × (y ≡ on))
settles d on = record { one = d.one; one_stick = λ y z v w. v.1 ∙ sym w.1; apart = λ x y v w. w.0 x v; either = elim d.decided [ inl w ↦ inl w | inr never ↦ inr (on, ((λ x w. never (x, w)), refl)) ] }

-- one step after another
pub next : {A B C : Type 0} {Done : A → Type 0} {Sticks : B → Type 0} {Next : A → C → Type 0} {NextSticks : A → B → Type 0} → Settled Done Sticks → ((x : A) → Done x → Settled (Next x) (NextSticks x)) → Settled (λ (p : A × C). Done p.0 × Next p.0 p.1) (λ y. Sticks y ⊎ ((x : A) × Done x × NextSticks x y))
next {A} {B} {C} {Done} {Sticks} {Next} {NextSticks} first then = record {
  one = λ p q v w.
      let e = first.one p.0 q.0 v.0 w.0 in
      let f = (then q.0 w.0).one p.1 q.1 (subst (λ x. Next x p.1) e v.1) w.1 in
      λ t. (e t, f t);
  one_stick = λ y z v w. elim v [
    | inl a ↦ elim w [ inl b ↦ first.one_stick y z a b | inr b ↦ absurd (first.apart b.0 y b.1 a) ]
    | inr a ↦ elim w [
      | inl b ↦ absurd (first.apart a.0 z a.1 b)
      | inr b ↦ (then b.0 b.1).one_stick y z (subst (λ x. NextSticks x y) (first.one a.0 b.0 a.1 b.1) a.2) b.2
    ]
  ];
  apart = λ p y v w. elim w [
    | inl a ↦ first.apart p.0 y v.0 a
    | inr a ↦ (then a.0 a.1).apart p.1 y (subst (λ x. Next x p.1) (first.one p.0 a.0 v.0 a.1) v.1) a.2
  ];
  either = elim first.either [
    | inl x ↦ elim (then x.0 x.1).either [ inl y ↦ inl ((x.0, y.0), (x.1, y.1)) | inr y ↦ inr (y.0, inr (x.0, x.1, y.1)) ]
    | inr y ↦ inr (y.0, inl y.1)
  ];
}

-- the same result in other words: `done` is made of the old catches, and the blocked catch is the same
pub settled_as : {A B C : Type 0} {Done : A → Type 0} {Sticks StillSticks : B → Type 0} {Made : C → Type 0} → Settled Done Sticks → (f : A → C) → ((x : A) → Done x → Made (f x)) → ((y : C) → Made y → (x : A) × Done x × (y ≡ f x)) → ((y : B) → Sticks y → StillSticks y) → ((y : B) → StillSticks y → Sticks y) → Settled Made StillSticks
settled_as d f to from there back = record {
  one = λ y z v w.
      let a = from y v in
      let b = from z w in
      a.2 ∙ ap f (d.one a.0 b.0 a.1 b.1) ∙ sym b.2;
  one_stick = λ y z v w. d.one_stick y z (back y v) (back z w);
  apart = λ y z v w. let a = from y v in d.apart a.0 z a.1 (back z w);
  either = elim d.either [ inl w ↦ inl (f w.0, to w.0 w.1) | inr w ↦ inr (w.0, there w.0 w.1) ];
}

-- the same with a value beside what blocks it
pub beside : {A B C : Type 0} {Done : A → Type 0} {Sticks : B → Type 0} (on : C) → Settled Done Sticks → Settled Done (λ (s : C × B). Sticks s.1 × (s.0 ≡ on))
beside on d = record {
  one = d.one;
  one_stick = λ y z v w.
      let e = v.1 ∙ sym w.1 in
      let f = d.one_stick y.1 z.1 v.0 w.0 in
      λ t. (e t, f t);
  apart = λ x y v w. d.apart x y.1 v w.0;
  either = elim d.either [ inl w ↦ inl w | inr w ↦ inr ((on, w.0), (w.1, refl)) ];
}

-- one case if a fact holds, another if it does not
pub by_cases : {A B Fact : Type 0} {Done Other : A → Type 0} {Sticks OtherSticks : B → Type 0} → Decided Fact → Settled Done Sticks → Settled Other OtherSticks → Settled (λ x. (Fact × Done x) ⊎ ((¬ Fact) × Other x)) (λ y. (Fact × Sticks y) ⊎ ((¬ Fact) × OtherSticks y))
by_cases (inl fact) one other =
    settled_as one (λ x. x) (λ x w. inl (fact, w)) (λ y v. elim v [ inl a ↦ (y, a.1, refl) | inr a ↦ absurd (a.0 fact) ]) (λ y w. inl (fact, w)) (λ y v. elim v [ inl a ↦ a.1 | inr a ↦ absurd (a.0 fact) ])
by_cases (inr never) one other =
    settled_as other (λ x. x) (λ x w. inr (never, w)) (λ y v. elim v [ inl a ↦ absurd (never a.0) | inr a ↦ (y, a.1, refl) ]) (λ y w. inr (never, w)) (λ y v. elim v [ inl a ↦ absurd (never a.0) | inr a ↦ a.1 ])
