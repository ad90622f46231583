-- Gathers the labels in conflict, from the last catch of a branch to the first conflictor.
use Rattle.std.specs.Prelude.{◌≡◌, ℕ, Bool, true, false, List, [], ◌∷◌, drop, Option, None, Some, bytes_eq, if◌then◌else◌}
use Rattle.std.specs.FinMap.{get}
use Rattle.std.specs.List.{prefix_len}
use Rattle.std.specs.Ordering.{eq_by_cmp}
use Rattle.camp_prim.specs.Labels.{key_cmp}
use Rattle.camp_prim.specs.declared.labels.Key.{Key}
use Rattle.camp_prim.specs.declared.named.Named.{Named}
use Rattle.camp_ctx.specs.Adding.{AddsAll}
use Rattle.camp_ctx.specs.Contexts.{ContextedPatch, ContextedPatches, context_key}
use Rattle.camp_catch.specs.declared.catches.Catch.{Catch}
use Rattle.camp_catch.specs.declared.catches.Catch.TheVariants.{Plain}
use Rattle.camp_questions.specs.Sides.{AppendsNew}

-- a catch is plain: no conflictor
abbrev pub is_plain_catch : Catch → Bool
is_plain_catch (Plain a) = true
is_plain_catch (Catch.Conflictor k) = false

-- the catches of a list from its first conflictor on
abbrev pub from_first_conflictor : List Catch → List Catch
from_first_conflictor catches = drop (prefix_len is_plain_catch catches) catches

-- the first contexted patch of a list that has this absolute label
abbrev pub first_with_key : Key → List ContextedPatch → Option ContextedPatch
first_with_key key [] = None
first_with_key key (x ∷ xs) = if eq_by_cmp key_cmp key (context_key x) then Some x else first_with_key key xs

-- the contexted patch of a label after a list was added to it
abbrev pub SeenAfter : List Named → Option ContextedPatch → Option ContextedPatch → Type 0
SeenAfter undone None seen = seen ≡ None
SeenAfter undone (Some x) seen = (y : ContextedPatch) × AddsAll undone x y × (seen ≡ Some y)

-- the contexted patch gathered for a label after one more catch was read: one that was gathered before stays
abbrev pub IsGathered : List Named → Option ContextedPatch → Option ContextedPatch → Option ContextedPatch → Type 0
IsGathered undone None told seen = SeenAfter undone told seen
IsGathered undone (Some x) told seen = seen ≡ Some x

-- the contexted patches of a list are gathered too, each under its label, unless that label has one already
abbrev pub AllGathered : List Named → List ContextedPatch → ContextedPatches → ContextedPatches → Type 0
AllGathered undone told was seen = (key : Key) → IsGathered undone (get was key) (first_with_key key told) (get seen key)

-- if the flag is true, a contexted patch is appended to changes; else the changes stay as they are
abbrev pub AppendsIf : Bool → List Named → ContextedPatch → List Named → Type 0
AppendsIf true changes x next = AppendsNew changes x next
AppendsIf false changes x next = next ≡ changes

-- a contexted patch is appended to changes if its name is this one
abbrev pub AppendsIfNamed : List Named → List ℕ → ContextedPatch → List Named → Type 0
AppendsIfNamed changes name x next = AppendsIf (bytes_eq name x.patch.name) changes x next
