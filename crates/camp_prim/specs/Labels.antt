-- Labels: the name of a patch, a position in it, and a sign.
use Rattle.std.specs.Prelude.{◌≡◌, ℕ, Bool, not, List, refl}
use Rattle.std.specs.declared.cmp.Ordering.{Ordering}
use Rattle.std.specs.Ordering.{nat_cmp, bool_cmp, ordering_then}
use Rattle.std.specs.Cmp.Lexicographic.{slice_cmp}
use Rattle.std.specs.Coded.{Coded, code_by, coded×, coded_list, coded_ℕ, coded_bool}
use Rattle.camp_prim.specs.declared.labels.Key.{Key}
use Rattle.camp_prim.specs.declared.labels.Label.{Label}
use Rattle.camp_prim.specs.declared.named.Named.{Named}

-- the label of a primitive
abbrev pub label_of : Named → Label
label_of p = record { name = p.name; place = p.place; inverse = p.inverse }

-- the absolute label: name and position
abbrev pub key_of : Label → Key
key_of l = record { name = l.name; place = l.place }

-- the label with the other sign
abbrev pub opposite : Label → Label
opposite l = record { name = l.name; place = l.place; inverse = not l.inverse }

-- the order of keys: by the bytes of the name, then by position
abbrev pub key_cmp : Key → Key → Ordering
key_cmp a b = ordering_then (slice_cmp nat_cmp a.name b.name) (nat_cmp a.place b.place)

-- the order of labels: by the bytes of the name, then by position, then the positive before the negative
abbrev pub label_cmp : Label → Label → Ordering
label_cmp a b =
    ordering_then (slice_cmp nat_cmp a.name b.name)
    (ordering_then (nat_cmp a.place b.place) (bool_cmp a.inverse b.inverse))

-- two primitives have the same absolute label
abbrev pub SameKey : Named → Named → Type 0
SameKey p q = key_of (label_of p) ≡ key_of (label_of q)

-- keys as plain data, for maps over them
abbrev pub coded_key : Coded Key
coded_key =
    code_by (List ℕ × ℕ) (coded× (coded_list coded_ℕ) coded_ℕ)
    (λ k. (k.name, k.place))
    (λ p. record { name = p.0; place = p.1 })
    (λ _. refl)

-- labels as plain data, for maps over them
abbrev pub coded_label : Coded Label
coded_label =
    code_by (List ℕ × (ℕ × Bool)) (coded× (coded_list coded_ℕ) (coded× coded_ℕ coded_bool))
    (λ l. (l.name, (l.place, l.inverse)))
    (λ p. record { name = p.0; place = p.1.0; inverse = p.1.1 })
    (λ _. refl)
