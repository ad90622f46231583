-- The effect of a primitive as a function, and the law of inverses.
use Rattle.std.specs.Prelude.{◌≡◌, ◌↔◌, ℕ, ◌+◌, ◌-◌, Bool, true, false, ◌&&◌, ◌==◌, if◌then◌else◌}
use Rattle.std.specs.Prelude.{Option, None, Some, option_map, option_and_then}
use Rattle.std.specs.Prelude.{[], ◌∷◌, ◌++◌, length, take, drop, bytes_eq}
use Rattle.std.specs.Cmp.Lexicographic.{pointwise}
use Rattle.std.specs.FinMap.{get, contains_key, insert, remove}
use Rattle.camp_base.specs.Trees.{Lines, Files}
use Rattle.camp_prim.specs.Effect.{Applies, inverted}
use Rattle.camp_prim.specs.declared.primitives.Primitive.{Primitive}
use Rattle.camp_prim.specs.declared.primitives.Primitive.TheVariants.{Add, Remove, Hunk}

-- a file exists and has no lines
abbrev pub is_empty_file : Option Lines → Bool
is_empty_file None = false
is_empty_file (Some []) = true
is_empty_file (Some (line ∷ lines)) = false

-- the lines are `before`, `gone` and `after`, one after the other, and `gone` begins at `line`, counted from 1
abbrev pub is_cut : ℕ → Lines → Lines → Lines → Lines → Bool
is_cut line before gone after lines = length before + 1 == line && pointwise bytes_eq lines (before ++ gone ++ after)

-- replaces `gone`, which must begin at this line, by `come`; None unless it does
abbrev pub spliced : ℕ → Lines → Lines → Lines → Option Lines
spliced line gone come lines =
    let before = take (line - 1) lines in
    let after = drop (line - 1 + length gone) lines in
    if is_cut line before gone after lines then Some (before ++ come ++ after) else None

-- the tree that a primitive leads to, or None
abbrev pub applied : Primitive → Files → Option Files
applied (Add path) files = if contains_key files path then None else Some (insert files path [])
applied (Remove path) files = if is_empty_file (get files path) then Some (remove files path) else None
applied (Hunk hunk) files =
    option_and_then (λ lines. option_map (insert files hunk.path) (spliced hunk.line hunk.old hunk.new lines))
    (get files hunk.path)

-- a primitive leads to a tree exactly if the function gives that tree
abbrev pub AppliedIsApplies : Type 0
AppliedIsApplies = (p : Primitive) (old new : Files) → (applied p old ≡ Some new) ↔ Applies p old new

-- a primitive and its inverse undo each other
abbrev pub InverseLeadsBack : Type 0
InverseLeadsBack = (p : Primitive) (old new : Files) → Applies p old new ↔ Applies (inverted p) new old
