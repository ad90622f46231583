-- The state of an annotation after some effects, and the effects that may come next.
use Rattle.std.specs.Prelude.{◌≡◌, ◌≤◌, ℕ, ◌+◌, ◌-◌, List, [], length, Option, None, Some}
use Rattle.std.specs.BTreeMap.{BTreeMap}
use Rattle.std.specs.FinMap.{FinMap, from_entries, get}
use Rattle.camp_base.specs.Trees.{Files, Lines}
use Rattle.camp_prim.specs.Effect.{Applies}
use Rattle.camp_prim.specs.Hunks.{Edit}
use Rattle.camp_prim.specs.Labels.{key_cmp}
use Rattle.camp_prim.specs.declared.labels.Key.{Key}
use Rattle.camp_prim.specs.declared.named.Named.{Named}
use Rattle.camp_prim.specs.declared.primitives.Primitive.{Primitive}
use Rattle.camp_seq.specs.Running.{AppliesAll}
use Rattle.camp_questions.specs.Annotations.{Known}
use Rattle.camp_questions.specs.declared.walks.Annotation.{Annotation}

-- the names stored under the absolute labels of hunks
abbrev pub kept_in : BTreeMap Key (List (List ℕ)) → FinMap key_cmp (List (List ℕ))
kept_in taken = from_entries taken.entries

-- the state of an annotation
abbrev pub known_in : Annotation → Known
known_in walk = record { names = walk.names; taken = kept_in walk.taken }

-- the old lines of a hunk lie within the lines of the file that have names
abbrev pub LiesWithin : Edit → Known → Type 0
LiesWithin hunk known = hunk.line - 1 + length hunk.old ≤ length known.names

-- the lines of a path: none if it has no file
abbrev pub lines_or_none : Option Lines → Lines
lines_or_none None = []
lines_or_none (Some lines) = lines

-- the state has a name for each line that a path has in a tree
abbrev pub AreKnownIn : List ℕ → Files → Known → Type 0
AreKnownIn path tree known = length known.names ≡ length (lines_or_none (get tree path))

-- a primitive applies to a tree in which the state has a name for each line of the file
abbrev pub AppliesWithNames : List ℕ → Primitive → Known → Type 0
AppliesWithNames path p known = (old : Files) × (new : Files) × Applies p old new × AreKnownIn path old known

-- an effect applies to a tree in which the state has a name for each line of the file
abbrev pub EffectAppliesWithNames : List ℕ → List Named → Known → Type 0
EffectAppliesWithNames path effect known =
    (old : Files) × (new : Files) × AppliesAll effect old new × AreKnownIn path old known
