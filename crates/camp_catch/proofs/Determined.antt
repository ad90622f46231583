-- Relations that have at most one result, and for which it is decidable whether they have one.
use Rattle.camp_catch.proofs.Words.{None, Option, Some, ap, inl, inr, refl, subst, sym, ◌∙◌, ◌≡◌, ◌⊎◌, same_Some, Decided, decided_by, GivesOnePair}

-- a relation has at most one result, and it is decidable whether it has one
pub record Determined {X : Type 0} (Gives : X → Type 0) : Type 0 where
  pub one : (x y : X) → Gives x → Gives y → x ≡ y
  pub decided : Decided ((x : X) × Gives x)

-- a fact followed by a relation
pub where_holds : {Fact X : Type 0} {Gives : X → Type 0} → Decided Fact → (Fact → Determined Gives) → Determined (λ x. Fact × Gives x)
where_holds (inl fact) next = record { one = λ x y v w. (next fact).one x y v.1 w.1; decided = decided_by (λ w. (w.0, (fact, w.1))) (λ w. (w.0, w.1.1)) (next fact).decided }
where_holds (inr never) next = record { one = λ x y v w. absurd (never v.0); decided = inr (λ w. never w.1.0) }

-- a relation followed by another one
pub chain : {X Y : Type 0} {First : X → Type 0} {Next : X → Y → Type 0} → Determined First → ((x : X) → First x → Determined (Next x)) → Determined (λ (p : X × Y). First p.0 × Next p.0 p.1)
chain {X} {Y} {First} {Next} first next = record {
  one = λ p q v w.
      let e = first.one p.0 q.0 v.0 w.0 in
      let f = (next q.0 w.0).one p.1 q.1 (subst (λ x. Next x p.1) e v.1) w.1 in
      λ t. (e t, f t);
  decided = elim first.decided [
    | inl x ↦ decided_by (λ y. ((x.0, y.0), (x.1, y.1))) (λ p. (p.0.1, subst (λ u. Next u p.0.1) (first.one p.0.0 x.0 p.1.0 x.1) p.1.1)) (next x.0 x.1).decided
    | inr never ↦ inr (λ p. never (p.0.0, p.1.0))
  ];
}

-- a relation whose results are images of those of another
pub made_of : {X Y : Type 0} {Gives : X → Type 0} {Case : Y → Type 0} → Determined Gives → (f : X → Y) → ((x : X) → Gives x → Case (f x)) → ((y : Y) → Case y → (x : X) × Gives x × (y ≡ f x)) → Determined Case
made_of d f to from = record {
  one = λ y z v w.
      let a = from y v in
      let b = from z w in
      a.2 ∙ ap f (d.one a.0 b.0 a.1 b.1) ∙ sym b.2;
  decided = decided_by (λ x. (f x.0, to x.0 x.1)) (λ y. let x = from y.0 y.1 in (x.0, x.1)) d.decided;
}

-- the results of either of two relations
pub either : {X : Type 0} {One Other : X → Type 0} → ((x y : X) → One x → ¬ (Other y)) → Determined One → Determined Other → Determined (λ x. One x ⊎ Other x)
either apart one other = record {
  one = λ x y v w. elim v [
    | inl a ↦ elim w [ inl b ↦ one.one x y a b | inr b ↦ absurd (apart x y a b) ]
    | inr a ↦ elim w [ inl b ↦ absurd (apart y x b a) | inr b ↦ other.one x y a b ]
  ];
  decided = elim one.decided [
    | inl w ↦ inl (w.0, inl w.1)
    | inr never ↦ decided_by (λ w. (w.0, inr w.1)) (λ w. elim w.1 [ inl v ↦ absurd (never (w.0, v)) | inr v ↦ (w.0, v) ]) other.decided
  ];
}

-- a relation between two results, as a relation on pairs
pub pairs : {X Y : Type 0} {Gives : X → Y → Type 0} → ((x z : X) (y w : Y) → Gives x y → Gives z w → (x ≡ z) × (y ≡ w)) → Decided ((x : X) × (y : Y) × Gives x y) → Determined (λ (p : X × Y). Gives p.0 p.1)
pairs one decided = record { one = λ p q v w. let e = one p.0 q.0 p.1 q.1 v w in λ t. (e.0 t, e.1 t); decided = decided_by (λ w. ((w.0, w.1), w.2)) (λ w. (w.0.0, w.0.1, w.1)) decided }

-- and conversely
pub one_pair : {X Y : Type 0} (Gives : X → Y → Type 0) → ((p q : X × Y) → Gives p.0 p.1 → Gives q.0 q.1 → p ≡ q) → GivesOnePair Gives
one_pair {X} {Y} Gives one x z y w v u =
    let same = one (x, y) (z, w) v u in
    (ap (λ (p : X × Y). p.0) same, ap (λ (p : X × Y). p.1) same)

-- a relation that always has a result
pub always : {X : Type 0} {Gives : X → Type 0} → ((x y : X) → Gives x → Gives y → x ≡ y) → (x : X) × Gives x → Determined Gives
always one w = record { one = one; decided = inl w }

-- the relation with exactly this result
pub just : {X : Type 0} (x : X) → Determined (λ y. y ≡ x)
just x = always (λ y z v w. v ∙ sym w) (x, refl)

-- a pair of independent results
pub both : {X Y : Type 0} {First : X → Type 0} {Second : Y → Type 0} → Determined First → Determined Second → Determined (λ (p : X × Y). First p.0 × Second p.1)
both first second = chain first (λ x w. second)

pub none_or_not : {X : Type 0} (found : Option X) → Decided (found ≡ None)
none_or_not None = inl refl
none_or_not (Some x) = inr (λ e. cc)

pub not_or_not : {Fact : Type 0} → Decided Fact → Decided (¬ Fact)
not_or_not (inl fact) = inr (λ never. never fact)
not_or_not (inr never) = inl never

some_or_not : {X : Type 0} (found : Option X) → Decided ((x : X) × (found ≡ Some x))
some_or_not None = inr (λ e. let is = e.1 in cc)
some_or_not (Some x) = inl (x, refl)

-- the result of a search
pub found : {X : Type 0} (o : Option X) → Determined (λ x. o ≡ Some x)
found o = record { one = λ x y v w. same_Some x y (sym v ∙ w); decided = some_or_not o }

-- if the first step has no result, the whole has none
pub leads_nowhere : {X Y : Type 0} {First : X → Type 0} (Next : X → Y → Type 0) → Determined First → (x : X) → First x → ((y : Y) → ¬ (Next x y)) → (z : X) → First z → (y : Y) → ¬ (Next z y)
leads_nowhere Next d x first never z other y next = never y (subst (λ u. Next u y) (d.one z x other first) next)
