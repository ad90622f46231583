-- Words of a line after its first.
use Rattle.std.specs.Prelude.{ℕ, List, ◌∷◌}
use Rattle.std.specs.List.{flat_map}
use Rattle.camp_base.specs.Signs.{space}

-- words, a space before each
abbrev pub spaced : List (List ℕ) → List ℕ
spaced words = flat_map (λ word. space ∷ word) words
