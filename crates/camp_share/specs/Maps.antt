-- Sorted lists of entries as finite maps.
use Rattle.std.specs.Prelude.{List}
use Rattle.std.specs.declared.cmp.Ordering.{Ordering}
use Rattle.std.specs.FinMap.{FinMap, from_sorted}

-- the finite map of entries whose keys increase
abbrev pub map_of : {K X : Type 0} (order : K → K → Ordering) → List (K × X) → FinMap order X
map_of order entries = from_sorted {R = order} entries
