-- Labels and keys are totally ordered, and only equal ones tie.
use Rattle.camp_prim.proofs.Words.{◌≡◌, ◌≢◌, ◌⊎◌, Bool, true, false, IsTrue, refl, sym, ◌∙◌, subst, inl, inr, Ordering, bool_cmp, ordering_then, ordering_reverse, is_lt, Less, Equal, Greater, IsTotalOrder, nat_cmp_total, bool_cmp_total, tied_itself, IsAntisymmetric, slice_cmp-IsAntisymmetric, nat_cmp-IsAntisymmetric, nat_list_cmp_total, on_total, then_total, key_cmp, label_cmp}
use Rattle.camp_prim.specs.declared.labels.Key.{Key}
use Rattle.camp_prim.specs.declared.labels.Label.{Label}

pub key_total : IsTotalOrder key_cmp
key_total = then_total (on_total (λ (k : Key). k.name) nat_list_cmp_total) (on_total (λ (k : Key). k.place) nat_cmp_total)

pub label_total : IsTotalOrder label_cmp
label_total = then_total (on_total (λ (l : Label). l.name) nat_list_cmp_total) (then_total (on_total (λ (l : Label). l.place) nat_cmp_total) (on_total (λ (l : Label). l.inverse) bool_cmp_total))

both_tie : (r s : Ordering) → ordering_then r s ≡ Equal → (r ≡ Equal) × (s ≡ Equal)
both_tie Less s e = cc
both_tie Equal s e = (refl, e)
both_tie Greater s e = cc

same_sign : (a b : Bool) → bool_cmp a b ≡ Equal → a ≡ b
same_sign false false e = refl
same_sign false true e = cc
same_sign true false e = cc
same_sign true true e = refl

pub key_ties : IsAntisymmetric key_cmp
key_ties a b e =
    let both = both_tie _ _ e in
    let name : a.name ≡ b.name = slice_cmp-IsAntisymmetric nat_cmp-IsAntisymmetric a.name b.name both.0 in
    let place : a.place ≡ b.place = nat_cmp-IsAntisymmetric a.place b.place both.1 in
    λ i. record { name = name i; place = place i }

pub label_ties : IsAntisymmetric label_cmp
label_ties a b e =
    let names = both_tie _ _ e in
    let places = both_tie _ _ names.1 in
    let name : a.name ≡ b.name = slice_cmp-IsAntisymmetric nat_cmp-IsAntisymmetric a.name b.name names.0 in
    let place : a.place ≡ b.place = nat_cmp-IsAntisymmetric a.place b.place places.0 in
    let sign : a.inverse ≡ b.inverse = same_sign a.inverse b.inverse places.1 in
    λ i. record { name = name i; place = place i; inverse = sign i }

neither_less : (r : Ordering) → r ≢ Less → ordering_reverse r ≢ Less → r ≡ Equal
neither_less Less v w = absurd (v refl)
neither_less Equal v w = refl
neither_less Greater v w = absurd (w refl)

-- two labels are equal if neither is less
pub same_label : (a b : Label) → label_cmp a b ≢ Less → label_cmp b a ≢ Less → a ≡ b
same_label a b v w = label_ties a b (neither_less (label_cmp a b) v (λ e. w (label_total.antisymm b a ∙ e)))

reversed : (r : Ordering) → r ≢ Less → r ≢ Equal → ordering_reverse r ≡ Less
reversed Less v w = absurd (v refl)
reversed Equal v w = absurd (w refl)
reversed Greater v w = refl

-- of two different labels one is less
pub less_unless : (a b : Label) → label_cmp a b ≢ Less → a ≢ b → label_cmp b a ≡ Less
less_unless a b v n = label_total.antisymm b a ∙ reversed (label_cmp a b) v (λ e. n (label_ties a b e))

-- no label is less than itself
pub not_below : (a b : Label) → a ≡ b → label_cmp a b ≢ Less
not_below a b e less =
    let tie : label_cmp b b ≡ Equal = tied_itself label_total b in
    let own : label_cmp b b ≡ Less = subst (λ x. label_cmp x b ≡ Less) e less in
    cc

-- of two labels the greater is not less
pub not_above : (a b : Label) → label_cmp a b ≡ Less → label_cmp b a ≢ Less
not_above a b less more = not_below a a refl (label_total.trans a b a less more)

is_less_or_not : (r : Ordering) → (r ≡ Less) ⊎ (r ≢ Less)
is_less_or_not Less = inl refl
is_less_or_not Equal = inr (λ e. cc)
is_less_or_not Greater = inr (λ e. cc)

pub less_or_not : (a b : Label) → (label_cmp a b ≡ Less) ⊎ (label_cmp a b ≢ Less)
less_or_not a b = is_less_or_not (label_cmp a b)

-- a is not less than b, and b not less than c
pub not_below_both : (a b c : Label) → label_cmp a b ≢ Less → label_cmp b c ≢ Less → label_cmp a c ≢ Less
not_below_both a b c first second less = elim (less_or_not c b) [
  | inl back ↦ first (label_total.trans a c b less back)
  | inr never ↦ first (subst (λ x. label_cmp a x ≡ Less) (sym (same_label b c second never)) less)
]

pub less_from_lt : (r : Ordering) → IsTrue (is_lt r) → r ≡ Less
less_from_lt Less e = refl
less_from_lt Equal e = cc
less_from_lt Greater e = cc

pub not_less_where : (r : Ordering) → is_lt r ≡ false → r ≢ Less
not_less_where Less e less = absurd (cc)
not_less_where Equal e less = absurd (cc)
not_less_where Greater e less = absurd (cc)
