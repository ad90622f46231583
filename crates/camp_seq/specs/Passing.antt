-- Primitives that commute past lists of primitives.
use Rattle.std.specs.Prelude.{◌≡◌, ◌≢◌, List, [], ◌∷◌, ◌⊎◌, Contains}
use Rattle.camp_prim.specs.Commuting.{Commute}
use Rattle.camp_prim.specs.Labels.{label_of}
use Rattle.camp_prim.specs.declared.labels.Label.{Label}
use Rattle.camp_prim.specs.declared.named.Named.{Named}

-- p s ~ s' p': p is commuted past every element of s
abbrev pub Passes : Named → List Named → List Named → Named → Type 0
Passes p [] s' p' = (s' ≡ []) × (p' ≡ p)
Passes p (q ∷ s) s' p' =
    (q' : Named) × (passing : Named) × (t : List Named) × Commute p q q' passing × Passes passing s t p' × (s' ≡ q' ∷ t)

-- p s q ~ s' q' p', in place: p is commuted past every element of s and then past q
abbrev pub PassesWithLast : Named × List Named × Named → Named × List Named × Named → Type 0
PassesWithLast old new = (passing : Named) × Passes old.0 old.1 new.1 passing × Commute passing old.2 new.2 new.0

-- r s ~ s' r': each element of r, from its last to its first, is commuted past all of s
abbrev pub PassesAll : List Named → List Named → List Named → List Named → Type 0
PassesAll [] s s' r' = (s' ≡ s) × (r' ≡ [])
PassesAll (p ∷ r) s s' r' =
    (t : List Named) × (p' : Named) × (q : List Named) × PassesAll r s t q × Passes p t s' p' × (r' ≡ p' ∷ q)

-- s ~ y t: the first element with this label is commuted to the front and becomes y
abbrev pub Fronts : Label → List Named → Named → List Named → Type 0
Fronts label [] y t = ⊥
Fronts label (p ∷ s) y t =
    ((label_of p ≡ label) × (y ≡ p) × (t ≡ s))
    ⊎ ((label_of p ≢ label) × ((found : Named) × (p' : Named) × (u : List Named)
    × Fronts label s found u × Commute p found y p' × (t ≡ p' ∷ u)))

-- s ~ f t: f has the elements with these labels, commuted to the front, and t the others; both keep their order
abbrev pub Parts : List Label → List Named → List Named → List Named → Type 0
Parts labels [] f t = (f ≡ []) × (t ≡ [])
Parts labels (p ∷ s) f t =
    (Contains labels (label_of p) × ((g : List Named) × Parts labels s g t × (f ≡ p ∷ g)))
    ⊎ (¬ (Contains labels (label_of p)) × ((g : List Named) × (u : List Named) × (p' : Named)
    × Parts labels s g u × Passes p g f p' × (t ≡ p' ∷ u)))
