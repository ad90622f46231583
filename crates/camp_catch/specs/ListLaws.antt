-- Arranging, aligning and merging lists of catches have at most one result, and either a result or the labels that
-- block it.
use Rattle.std.specs.Prelude.{◌≡◌, ◌↔◌, ◌⊎◌, ℕ, List, map, Contains}
use Rattle.camp_prim.specs.declared.labels.Key.{Key}
use Rattle.camp_prim.specs.declared.named.Named.{Named}
use Rattle.camp_seq.specs.Room.{HasRoom}
use Rattle.camp_catch.specs.Arranging.{CatchCommutesBeforeAll, IsBlockedByKey, DoNotCommute, Arrange, ArrangeIsBlocked, CatchMovesToFront, Align, AlignIsBlocked}
use Rattle.camp_catch.specs.Commuting.{CommuteCatch}
use Rattle.camp_catch.specs.Merging.{MergeCatch}
use Rattle.camp_catch.specs.MergingLists.{MergesWithAll, IsBlockedWithin, MergeLists, MergeIsBlocked, DoNotMerge}
use Rattle.camp_catch.specs.declared.catches.Catch.{Catch}
use Rattle.camp_catch.specs.declared.catches.Catch.TheVariants.{Plain}

-- two pairs are equal
abbrev pub AreEqual : {X Y : Type 0} → X → Y → X → Y → Type 0
AreEqual x y z w = (x ≡ z) × (y ≡ w)

-- a relation has at most one pair
abbrev pub GivesOnePair : {X Y : Type 0} → (X → Y → Type 0) → Type 0
GivesOnePair {X} {Y} Result = (x z : X) (y w : Y) → Result x y → Result z w → AreEqual x y z w

-- each relation on lists of catches has at most one result, and each relation that says where a list is blocked holds
-- of at most one pair of labels
pub record ListsAreUnique : Type 0 where
  pub comes_before : (list : List Catch) (k : Catch) → GivesOnePair (CatchCommutesBeforeAll list k)
  pub stops_at :
      (list : List Catch) (k : Catch) (on other : Key) → IsBlockedByKey list k on → IsBlockedByKey list k other → on ≡ other
  pub arranged : (names : List (List ℕ)) (list : List Catch) → GivesOnePair (Arrange names list)
  pub arrange_sticks : (names : List (List ℕ)) (list : List Catch) → GivesOnePair (ArrangeIsBlocked names list)
  pub comes_first : (key : Key) (list : List Catch) → GivesOnePair (CatchMovesToFront key list)
  pub aligned :
      (order : List Key) (list aligned other : List Catch) → Align order list aligned → Align order list other →
      aligned ≡ other
  pub align_sticks :
      (order : List Key) (list : List Catch) (stuck other : Key) → AlignIsBlocked order list stuck →
      AlignIsBlocked order list other → stuck ≡ other
  pub merged_with_all : (q : List Catch) (k : Catch) → GivesOnePair (MergesWithAll q k)
  pub sticks_within : (q : List Catch) (k : Catch) → GivesOnePair (IsBlockedWithin q k)
  pub merged : (p q : List Catch) → GivesOnePair (MergeLists p q)
  pub merge_sticks : (p q : List Catch) → GivesOnePair (MergeIsBlocked p q)

-- a relation on pairs has some result
abbrev pub HasPair : {X Y : Type 0} → (X → Y → Type 0) → Type 0
HasPair {X} {Y} Result = (x : X) × (y : Y) × Result x y

-- exactly one of two facts holds
abbrev pub OneOf : Type 0 → Type 0 → Type 0
OneOf Fact Other = (Fact ⊎ Other) × (Fact → Other → ⊥)

-- any two catches commute, or they do not
abbrev pub CommuteIsDecided : Type 0
CommuteIsDecided = (j k : Catch) → HasPair (CommuteCatch j k) ⊎ DoNotCommute j k

-- any two catches merge, or they do not
abbrev pub MergeIsDecided : Type 0
MergeIsDecided = (j k : Catch) → HasPair (MergeCatch j k) ⊎ DoNotMerge j k

-- whether two catches commute or merge is decidable
pub record CatchesAreDecided : Type 0 where
  pub commute : CommuteIsDecided
  pub merge : MergeIsDecided

-- arranging, aligning and merging a list has a result, or the list is blocked
pub record ListsSucceedOrAreBlocked : Type 0 where
  pub comes_before :
      (list : List Catch) (k : Catch) →
      OneOf (HasPair (CatchCommutesBeforeAll list k)) ((on : Key) × IsBlockedByKey list k on)
  pub arranges :
      (names : List (List ℕ)) (list : List Catch) →
      OneOf (HasPair (Arrange names list)) (HasPair (ArrangeIsBlocked names list))
  pub aligns :
      (order : List Key) (list : List Catch) →
      OneOf ((aligned : List Catch) × Align order list aligned) ((stuck : Key) × AlignIsBlocked order list stuck)
  pub merges_with_all :
      (q : List Catch) (k : Catch) →
      OneOf (HasPair (MergesWithAll q k)) (HasPair (IsBlockedWithin q k))
  pub merges :
      (p q : List Catch) → OneOf (HasPair (MergeLists p q)) (HasPair (MergeIsBlocked p q))

-- arranging by names depends only on which names are given, not on their order, nor on repetitions
pub record ArrangeByMembers : Type 0 where
  pub arranged :
      (names others : List (List ℕ)) → ((name : List ℕ) → Contains names name ↔ Contains others name) →
      (list first rest : List Catch) → Arrange names list first rest → Arrange others list first rest
  pub sticks :
      (names others : List (List ℕ)) → ((name : List ℕ) → Contains names name ↔ Contains others name) →
      (list : List Catch) (patch on : Key) → ArrangeIsBlocked names list patch on → ArrangeIsBlocked others list patch on

-- if a patch blocks the patches of some names on their way to the front of a list of plain catches with headroom, every
-- set of patches that includes these names and can be moved to the front includes that patch too
abbrev pub BlockersAreIncluded : Type 0
BlockersAreIncluded =
    (patches : List Named) (names others : List (List ℕ)) → HasRoom patches →
    ((name : List ℕ) → Contains names name → Contains others name) → (patch on : Key) →
    ArrangeIsBlocked names (map Plain patches) patch on → HasPair (Arrange others (map Plain patches)) →
    Contains others on.name

-- two sets of patches that can each be moved to the front of a list of plain catches with headroom can be moved there
-- one after the other: after the second set, what the first has besides it can be moved to the front of the rest
abbrev pub FrontsFollowFronts : Type 0
FrontsFollowFronts =
    (patches : List Named) (names others wanted : List (List ℕ)) → HasRoom patches →
    ((name : List ℕ) → Contains wanted name ↔ (Contains names name × (¬ (Contains others name)))) →
    (front behind : List Catch) → Arrange others (map Plain patches) front behind →
    HasPair (Arrange names (map Plain patches)) → HasPair (Arrange wanted behind)
