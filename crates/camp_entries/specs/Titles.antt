-- The title of a log: its first entry, which names the limits of the repository.
use Rattle.std.specs.Prelude.{◌≡◌, ◌⊎◌, ℕ, List, [], ◌∷◌, codes, Option, None, Some}
use Rattle.std.specs.Fmt.{decimal}
use Rattle.camp_repo.specs.Limits.{AreLimits, Bounds, default_bounds}
use Rattle.camp_script.specs.Texts.{line_text}

-- the title of a log of a repository with these limits
abbrev pub log_title : Bounds → List ℕ
log_title limits =
    line_text (codes "camp" ∷ codes "log" ∷ codes "1" ∷ codes "catches" ∷ decimal limits.catches ∷ codes "branches" ∷ decimal limits.branches ∷ [])

-- the title of a log without limits, whose repository has the default ones
abbrev pub plain_log_title : List ℕ
plain_log_title = line_text (codes "camp" ∷ codes "log" ∷ codes "1" ∷ [])

-- the text is the title of a log of a repository with these limits
abbrev pub IsLogTitle : List ℕ → Bounds → Type 0
IsLogTitle text limits = AreLimits limits.catches limits.branches × ((text ≡ log_title limits) ⊎ ((text ≡ plain_log_title) × (limits ≡ default_bounds)))

-- the parsed limits are those that this title names; if there are none, the text is no title
abbrev pub AreLimitsOfLog : List ℕ → Option Bounds → Type 0
AreLimitsOfLog text None = (limits : Bounds) → ¬ (IsLogTitle text limits)
AreLimitsOfLog text (Some limits) = IsLogTitle text limits × ((other : Bounds) → IsLogTitle text other → limits ≡ other)
