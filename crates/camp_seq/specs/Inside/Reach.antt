-- The result of one pass over a list that checks its headroom.
use Rattle.std.specs.Prelude.{◌≡◌, ◌≤◌, ◌+◌, max, ℕ, List}
use Rattle.std.specs.List.{All}
use Rattle.camp_base.specs.Limits.{greatest_reach}
use Rattle.camp_prim.specs.Effect.{InRange}
use Rattle.camp_prim.specs.declared.named.Named.{Named}
use Rattle.camp_seq.specs.Shapes.{all_sides, greatest_line}

-- all primitives of the list are in range; `greatest` is the greatest of `line` and their lines; `sides` is `more` plus
-- the number of all their old and new lines; neither is above 2^30
pub record ReachGrowsTo (s : List Named) (line more greatest sides : ℕ) : Type 0 where
  pub ranges : All (λ p. InRange p.prim) s
  pub top : greatest ≡ max line (greatest_line s)
  pub all : sides ≡ more + all_sides s
  pub line_small : greatest ≤ greatest_reach
  pub small : sides ≤ greatest_reach
