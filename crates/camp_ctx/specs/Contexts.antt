-- Contexted patches, and sets of them.
use Rattle.std.specs.Prelude.{◌≡◌, List, [], ◌∷◌, ◌++◌, Option, None, Some, if◌then◌else◌}
use Rattle.std.specs.FinMap.{FinMap, empty, get, contains_key, insert}
use Rattle.camp_base.specs.Trees.{Files}
use Rattle.camp_prim.specs.Labels.{label_of, key_of, key_cmp}
use Rattle.camp_prim.specs.declared.named.Named.{Named}
use Rattle.camp_seq.specs.Running.{AppliesAll}
use Rattle.camp_prim.specs.declared.labels.Key.{Key}

-- c:p, a patch p with a list c that leads to it from the state in which it is seen
pub record ContextedPatch : Type 0 where
  pub context : List Named
  pub patch : Named

-- :p, a patch without a context
abbrev pub bare : Named → ContextedPatch
bare p = record { context = []; patch = p }

-- c p, the context followed by the patch
abbrev pub whole : ContextedPatch → List Named
whole x = x.context ++ x.patch ∷ []

-- the absolute label of a patch
abbrev pub patch_key : Named → Key
patch_key p = key_of (label_of p)

-- the absolute label of a contexted patch is that of its patch
abbrev pub context_key : ContextedPatch → Key
context_key x = patch_key x.patch

-- the context followed by the patch applies to a tree
abbrev pub Valid : Files → ContextedPatch → Type 0
Valid tree x = (after : Files) × AppliesAll (whole x) tree after

-- a set of contexted patches: a finite map from their absolute labels
abbrev pub ContextedPatches : Type 0
ContextedPatches = FinMap key_cmp ContextedPatch

-- each member stands under its own absolute label
abbrev pub AreKeyed : ContextedPatches → Type 0
AreKeyed xs = (key : Key) (x : ContextedPatch) → get xs key ≡ Some x → key ≡ context_key x

-- {x}: the set of one member
abbrev pub only : ContextedPatch → ContextedPatches
only x = insert empty (context_key x) x

-- X and l: the set with l too, or the set itself if it has a member with the label of l
abbrev pub with_member : ContextedPatches → ContextedPatch → ContextedPatches
with_member xs l = if contains_key xs (context_key l) then xs else insert xs (context_key l) l

-- every member is valid in a tree
abbrev pub AreValid : Files → ContextedPatches → Type 0
AreValid tree xs = (key : Key) (x : ContextedPatch) → get xs key ≡ Some x → Valid tree x

-- a key in two sets: both lack it, or the first has a member under it and the second has what that member becomes
abbrev pub ChangesAt : (ContextedPatch → ContextedPatch → Type 0) → Option ContextedPatch → Option ContextedPatch → Type 0
ChangesAt Change None None = Unit {0}
ChangesAt Change None (Some y) = ⊥
ChangesAt Change (Some x) None = ⊥
ChangesAt Change (Some x) (Some y) = Change x y

-- each member of a set becomes the member of the other set with the same label
abbrev pub EachMember : (ContextedPatch → ContextedPatch → Type 0) → ContextedPatches → ContextedPatches → Type 0
EachMember Change old new = (key : Key) → ChangesAt Change (get old key) (get new key)
