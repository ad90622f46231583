-- The two representations of the entries of a map.
use Rattle.std.specs.Prelude.{◌≤◌, List, length}
use Rattle.camp_share.specs.Inside.Parts.{longest_part}
use Rattle.camp_share.specs.declared.few_or_many.Entries.{Entries}
use Rattle.camp_share.specs.declared.few_or_many.Entries.TheVariants as form

module _ {X : Type 0} where
  -- the entries that one chunk or a chunk tree represents
  abbrev pub entries_of : Entries X → List X
  entries_of (form.OnePart part) = part
  entries_of (form.Parts list) = list

  -- a map of one chunk has at most 24 entries
  abbrev pub IsForm : Entries X → Type 0
  IsForm (form.OnePart part) = length part ≤ longest_part
  IsForm (form.Parts list) = Unit {0}
