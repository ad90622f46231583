-- The lines of a content, from the pieces between its LFs.
use Rattle.std.specs.Prelude.{◌≡◌, ℕ, ◌<◌, Bool, true, false, List, [], ◌∷◌, ◌++◌, length}
use Rattle.camp_base.specs.Trees.{Lines}

-- the lines are the pieces before the last one, and the last one too if it is not empty
abbrev pub AreLinesBefore : Lines → List ℕ → Lines → Bool → Type 0
AreLinesBefore before last lines true = (lines ≡ before ++ last ∷ []) × (0 < length last)
AreLinesBefore before last lines false = (lines ≡ before) × (last ≡ [])
