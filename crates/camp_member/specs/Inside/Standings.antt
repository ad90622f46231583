-- The three kinds of entries.
use Rattle.std.specs.Prelude.{ℕ}
use Rattle.camp_member.specs.Entries.{Tagged, Counts, IsRepeated}
use Rattle.camp_member.specs.declared.readers.Standing.{Standing}
use Rattle.camp_member.specs.declared.readers.Standing.TheVariants.{New, Repeated, Foreign}

-- the kind of an entry: it counts, it is a repetition, or neither
abbrev pub IsStanding : {Call : Type 0} → (ℕ → ℕ) → Tagged Call → Standing → Type 0
IsStanding last entry New = Counts last entry
IsStanding last entry Repeated = IsRepeated last entry
IsStanding last entry Foreign = (¬ (Counts last entry)) × (¬ (IsRepeated last entry))
