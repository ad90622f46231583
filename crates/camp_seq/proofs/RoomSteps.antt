-- Lists equivalent to a list with headroom have headroom.
use Rattle.camp_seq.proofs.Words.{List, [], ◌∷◌, ◌++◌, subst, All, All-tail, All-take, length, refl, take_at, InRange, Commute, Named, CommutesOnce, ◌~◌, Reaches, here, further, HasRoom}
pub use Rattle.camp_seq.proofs.ExchangeSteps.{at_front, exchanged_anywhere, exchanges_back, exchanges_before, exchanges_behind, shared}

pub reaches_through : (s t u : List Named) → Reaches s t → Reaches t u → Reaches s u
reaches_through s t u here r = r
reaches_through s t u (further {t = v} e w) r = further e (reaches_through v t u w r)

pub reaches_behind : (x : Named) (s t : List Named) → Reaches s t → Reaches (x ∷ s) (x ∷ t)
reaches_behind x s t here = here
reaches_behind x s t (further {t = v} e w) = further (exchanges_behind (x ∷ []) s v e) (reaches_behind x v t w)

pub reaches_before : (s t u : List Named) → Reaches s t → Reaches (s ++ u) (t ++ u)
reaches_before s t u here = here
reaches_before s t u (further {t = v} e w) = further (exchanges_before s v u e) (reaches_before v t u w)

pub room_behind : (x : Named) (s : List Named) → HasRoom (x ∷ s) → HasRoom s
room_behind x s room t r = All-tail (λ p. InRange p.prim) x t (room (x ∷ t) (reaches_behind x s t r))

-- a prefix of a list with headroom has headroom
pub room_before : (s u : List Named) → HasRoom (s ++ u) → HasRoom s
room_before s u room t r =
    subst (All (λ p. InRange p.prim)) (take_at t u (length t) refl) (All-take (λ p. InRange p.prim) (length t) (t ++ u) (room (t ++ u) (reaches_before s t u r)))

pub room_exchanged : (s t : List Named) → CommutesOnce Commute s t → HasRoom s → HasRoom t
room_exchanged s t e room u w = room u (further (exchanged_anywhere s t e) w)

-- if r commutes past q and then p, what p and q become has headroom
pub room_past : (p q r r1 q1 y p1 : Named) (s : List Named) → Commute q r r1 q1 → Commute p r1 y p1 → HasRoom (p ∷ q ∷ r ∷ s) → HasRoom (p1 ∷ q1 ∷ s)
room_past p q r r1 q1 y p1 s v w room =
    let first : HasRoom (p ∷ r1 ∷ q1 ∷ s) = room_exchanged _ _ (exchanges_behind (p ∷ []) (q ∷ r ∷ s) (r1 ∷ q1 ∷ s) (at_front q r r1 q1 s v)) room in
    room_behind y (p1 ∷ q1 ∷ s) (room_exchanged _ _ (at_front p r1 y p1 (q1 ∷ s) w) first)

-- equivalent lists have headroom together
pub room_of_equivalent : (s t : List Named) → s ~ t → HasRoom s → HasRoom t
room_of_equivalent s t e = (shared HasRoom room_exchanged s t e).0

-- a fact that one exchange keeps in lists with headroom holds of all equivalent ones
pub kept_by_swaps : (Fact : List Named → Type 0) → ((s t : List Named) → HasRoom s → CommutesOnce Commute s t → Fact s → Fact t) → (s t : List Named) → s ~ t → HasRoom s → Fact s → Fact t
kept_by_swaps Fact kept s t e room fact =
    ((shared (λ x. HasRoom x × Fact x) (λ x y w both. (room_exchanged x y w both.0, kept x y both.0 w both.1)) s t e).0 (room, fact)).1
