-- The words that most proofs about the notation use.
pub use Rattle.std.proofs.Common.{List, None, Some, [], ap, append-nil, append_assoc, arith, flat_map, length, length-take-le, lit<, slice_get, string_bytes, sym, take, take_all, ℕ, ◌++◌, ◌+◌, ◌<◌, ◌∙◌, ◌∷◌, ◌≡◌, ◌≤◌}
pub use Rattle.std.proofs.lemmas.Option.{get_or_from_slice_get, none-some, slice_get-get_or, slice_get_within}
pub use Rattle.std.specs.FinMap.{entries, len-entries, values}
pub use Rattle.camp_notation.specs.Catches.{catch_text}
pub use Rattle.camp_notation.specs.Contexts.{contexted_text}
pub use Rattle.camp_notation.specs.Patches.{named_text}
pub use Rattle.camp_notation.specs.Trees.{file_notation}
pub use Rattle.camp_notation.specs.Words.{quoted_byte, row, separator, word_text}
