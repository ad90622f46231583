-- The hunks of a file with marks: the ranges of lines where versions of it differ.
use Rattle.std.specs.Prelude.{ℕ, zero, ◌-◌, Bool, ◌&&◌, nat_lt, nat_le, min, max, List, [], ◌∷◌, ◌++◌, map, filter, fold, length, drop}
use Rattle.std.specs.List.{slice_range}
use Rattle.camp_base.specs.Trees.{Lines}
use Rattle.camp_questions.specs.CommonLines.{common_end, common_front}
use Rattle.camp_questions.specs.declared.marking.Version.{Version}
use Rattle.camp_questions.specs.declared.mark_hunks.Range.{Range}

-- the range of a file where another list of lines differs from it: the file's lines without those that both have in
-- common at the start and, in what remains, at the end
abbrev pub range_of : Lines → Lines → Range
range_of lines others =
    let front = common_front lines others in
    record { from = front; to = length lines - common_end (drop front lines) (drop front others) }

-- two ranges overlap or touch
abbrev pub touch : Range → Range → Bool
touch range other = nat_le range.from other.to && nat_le other.from range.to

-- the union of two ranges
abbrev pub union_of : Range → Range → Range
union_of range other = record { from = min range.from other.from; to = max range.to other.to }

-- disjoint ranges in ascending order with one more added: those before it, the union with those that it touches, and
-- those after it
abbrev pub with_range : List Range → Range → List Range
with_range places range =
    filter (λ place. nat_lt place.to range.from) places
    ++ fold union_of range (filter (touch range) places) ∷ filter (λ place. nat_lt range.to place.from) places

-- the ranges of a file where versions of it differ
abbrev pub differing_ranges : Lines → List Version → List Range
differing_ranges lines versions = fold with_range [] (map (λ (version : Version). range_of lines version.lines) versions)

-- a range is within another
abbrev pub is_within : Range → Range → Bool
is_within range place = nat_le place.from range.from && nat_le range.to place.to

-- all lines in which a version differs from a file are within a range
abbrev pub differs_within : Lines → Range → Version → Bool
differs_within lines place version = is_within (range_of lines version.lines) place

-- the lines that a version has in place of a range of the file: its lines without as many first ones as the file has
-- before the range, and as many last ones as the file has after it
abbrev pub at_range : Lines → Range → Version → Version
at_range lines place version =
    record {
      name = version.name;
      lines = slice_range version.lines place.from (length version.lines - (length lines - place.to));
    }

-- a hunk of a file: the context lines after the hunk above, its own lines, and the lines of the versions there
pub record MarkedHunk : Type 0 where
  pub before : Lines
  pub lines : Lines
  pub sides : List Version

-- a hunk whose context lines begin at this index
abbrev pub hunk_from : Lines → List Version → ℕ → Range → MarkedHunk
hunk_from lines versions at place =
    record {
      before = slice_range lines at place.from;
      lines = slice_range lines place.from place.to;
      sides = map (at_range lines place) (filter (differs_within lines place) versions);
    }

-- a file as hunks, and the lines after the last hunk
pub record File : Type 0 where
  pub places : List MarkedHunk
  pub rest : Lines

-- the hunks of a file from a line on, and the lines after the last one
abbrev pub file_from : Lines → List Version → ℕ → List Range → File
file_from lines versions at [] = record { places = []; rest = drop at lines }
file_from lines versions at (place ∷ places) =
    let behind = file_from lines versions place.to places in
    record { places = hunk_from lines versions at place ∷ behind.places; rest = behind.rest }

-- a file with the lines of its versions in the ranges where they differ
abbrev pub with_marks : Lines → List Version → File
with_marks lines versions = file_from lines versions zero (differing_ranges lines versions)
