-- Changes in parts, and the names of the parts.
use Rattle.std.specs.Prelude.{◌≡◌, ℕ, ◌+◌, ◌/◌, ◌%◌, ◌<◌, ◌==◌, if◌then◌else◌, List, [], ◌∷◌, ◌++◌, length, take, drop}
use Rattle.camp_base.specs.Limits.{most_changes}
use Rattle.camp_base.specs.Signs.{digit_zero, hyphen}
use Rattle.camp_prim.specs.declared.primitives.Primitive.{Primitive}

-- changes in parts: each has the next 64 changes, the last one all that are left
abbrev pub ArePartsOf : List (List Primitive) → List Primitive → Type 0
ArePartsOf [] changes = changes ≡ []
ArePartsOf (part ∷ parts) changes =
    (0 < length changes) × (part ≡ take most_changes changes) × ArePartsOf parts (drop most_changes changes)

-- a number below 10,000 as four decimal digits
abbrev pub four_digits : ℕ → List ℕ
four_digits number =
    (digit_zero + number / 1_000 % 10) ∷ (digit_zero + number / 100 % 10) ∷ (digit_zero + number / 10 % 10)
    ∷ (digit_zero + number % 10) ∷ []

-- the name of a part of a patch: the last part has the name of the patch; another one has its first 35 bytes, `-` and
-- four digits
abbrev pub part_name : List ℕ → (index count : ℕ) → List ℕ
part_name name index count =
    if index + 1 == count then name else take 35 name ++ hyphen ∷ four_digits index
