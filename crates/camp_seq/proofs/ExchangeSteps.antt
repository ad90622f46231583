-- CommutesOnce is kept when elements are added around a list or removed again.
use Rattle.camp_seq.proofs.Words.{List, [], ◌∷◌, ◌++◌, refl, sym, ap, ◌∙◌, append_assoc, Commute, CommuteAnywhere, Named, own_inverse, CommutesOnce, ◌~◌, same, exchanged, backwards, through, ◌↔◌, ◌≡◌}

-- two neighbours with elements before and after them
exchanged_at : {Turns : Named → Named → Named → Named → Type 0} (before : List Named) (p q q' p' : Named) (after s t : List Named) → s ≡ before ++ p ∷ q ∷ after → Turns p q q' p' → t ≡ before ++ q' ∷ p' ∷ after → CommutesOnce Turns s t
exchanged_at before p q q' p' after s t was w becomes =
    record { before = before; p = p; q = q; q' = q'; p' = p'; after = after; was = was; turns = w; becomes = becomes }

-- the first two elements
pub at_front : {Turns : Named → Named → Named → Named → Type 0} (p q q' p' : Named) (s : List Named) → Turns p q q' p' → CommutesOnce Turns (p ∷ q ∷ s) (q' ∷ p' ∷ s)
at_front p q q' p' s w = exchanged_at [] p q q' p' s (p ∷ q ∷ s) (q' ∷ p' ∷ s) refl w refl

pub exchanges_behind : {Turns : Named → Named → Named → Named → Type 0} (u s t : List Named) → CommutesOnce Turns s t → CommutesOnce Turns (u ++ s) (u ++ t)
exchanges_behind u s t e =
    exchanged_at (u ++ e.before) e.p e.q e.q' e.p' e.after (u ++ s) (u ++ t) (ap (λ x. u ++ x) e.was ∙ sym (append_assoc u e.before (e.p ∷ e.q ∷ e.after))) e.turns (ap (λ x. u ++ x) e.becomes ∙ sym (append_assoc u e.before (e.q' ∷ e.p' ∷ e.after)))

pub exchanges_before : {Turns : Named → Named → Named → Named → Type 0} (s t u : List Named) → CommutesOnce Turns s t → CommutesOnce Turns (s ++ u) (t ++ u)
exchanges_before s t u e =
    exchanged_at e.before e.p e.q e.q' e.p' (e.after ++ u) (s ++ u) (t ++ u) (ap (λ x. x ++ u) e.was ∙ append_assoc e.before (e.p ∷ e.q ∷ e.after) u) e.turns (ap (λ x. x ++ u) e.becomes ∙ append_assoc e.before (e.q' ∷ e.p' ∷ e.after) u)

pub exchanges_back : (s t : List Named) → CommutesOnce Commute s t → CommutesOnce Commute t s
exchanges_back s t e =
    exchanged_at e.before e.q' e.p' e.p e.q e.after t s e.becomes (own_inverse e.p e.q e.q' e.p' e.turns) e.was

pub exchanged_anywhere : (s t : List Named) → CommutesOnce Commute s t → CommutesOnce CommuteAnywhere s t
exchanged_anywhere s t e = exchanged_at e.before e.p e.q e.q' e.p' e.after s t e.was e.turns.anywhere e.becomes

-- a fact that is kept by one exchange holds of all equivalent lists or of none
pub shared : (Fact : List Named → Type 0) → ((s t : List Named) → CommutesOnce Commute s t → Fact s → Fact t) → (s t : List Named) → s ~ t → Fact s ↔ Fact t
shared Fact kept s t same = (λ f. f, λ f. f)
shared Fact kept s t (exchanged e) = (kept s t e, kept t s (exchanges_back s t e))
shared Fact kept s t (backwards e) = let both = shared Fact kept t s e in (both.1, both.0)
shared Fact kept s t (through {t = v} e f) =
    let first = shared Fact kept s v e in
    let second = shared Fact kept v t f in
    (λ x. second.0 (first.0 x), λ x. first.1 (second.1 x))
