-- The first text of a store, which contains the limits of the repository.
use Rattle.std.specs.Prelude.{◌≡◌, ◌≢◌, ℕ, ◌==◌, ◌&&◌, Bool, if◌then◌else◌, List, [], ◌∷◌, ◌++◌, Option, None, Some, IfSome, unwrap_or, codes}
use Rattle.std.specs.Fmt.{decimal}
use Rattle.std.specs.Option.{option_and_then}
use Rattle.camp_repo.specs.Limits.{AreLimits, Bounds, default_bounds}
use Rattle.camp_script.specs.Texts.{line_text}
use Rattle.camp_script.specs.Words.{count_of}

-- limits that a repository can have
abbrev pub CanBeLimits : Bounds → Type 0
CanBeLimits limits = AreLimits limits.catches limits.branches

-- limits are the default ones
abbrev pub is_default : Bounds → Bool
is_default limits = limits.catches == default_bounds.catches && limits.branches == default_bounds.branches

-- the line with limits in a title
abbrev pub limits_line : Bounds → List ℕ
limits_line limits =
    line_text (codes "catches" ∷ decimal limits.catches ∷ codes "branches" ∷ decimal limits.branches ∷ [])

-- the title with these limits
abbrev pub title_with : Bounds → List ℕ
title_with limits = codes "camp store 1 " ++ limits_line limits

-- the first text of a store with these limits: a title with them, or one without limits for the default ones
abbrev pub title_of : Bounds → List ℕ
title_of limits = if is_default limits then codes "camp store 1\n" else title_with limits

-- the limits of a store with this first text; none if no store begins with it
abbrev pub SaysLimits : List ℕ → Option Bounds → Type 0
SaysLimits text None = (limits : Bounds) → CanBeLimits limits → title_of limits ≢ text
SaysLimits text (Some limits) = (title_of limits ≡ text) × CanBeLimits limits

-- the second and the fourth word of four, if both are numbers
abbrev pub limits_among : List (List ℕ) → Option (ℕ × ℕ)
limits_among (first ∷ catches ∷ third ∷ branches ∷ []) =
    option_and_then (λ most. option_and_then (λ others. Some (most, others)) (count_of branches)) (count_of catches)
limits_among others = None

-- the limits of a new store: the wanted ones, or the default ones if none are wanted
abbrev pub new_limits : Option Bounds → Bounds
new_limits wanted = unwrap_or wanted default_bounds

-- limits are the wanted ones, or none are wanted
abbrev pub AreAsWanted : Option Bounds → Bounds → Type 0
AreAsWanted wanted limits = IfSome wanted (λ others. limits ≡ others)
