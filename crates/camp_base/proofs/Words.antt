-- The words that most proofs about trees and names use.
pub use Rattle.std.proofs.Common.{Bool, Decides, Err, Greater, IsTrue, List, None, Ok, Option, Result, Some, T, [], ap, append_assoc, arith, drop, drop-drop, drop_at, eqb, false, is_some, length, length-append, length-drop, length-take-le, nat_cmp, refl, replicate, rules, subst, sym, take, take-append-drop, take_at, tests, true, ℕ, ◌&&◌, ◌++◌, ◌+◌, ◌-◌, ◌<◌, ◌==◌, ◌↔◌, ◌∙◌, ◌∷◌, ◌≡◌, ◌≤◌}
pub use Rattle.std.proofs.lemmas.Bool.Decides.{Decides-and, Decides-eqb, nat_tests}
pub use Rattle.std.proofs.lemmas.List.{drop-replicate, nil_from_length}
pub use Rattle.std.proofs.lemmas.Slice.Eq.{slice_eq-Decides}
pub use Rattle.std.specs.Cmp.Lexicographic.{pointwise, slice_cmp}
pub use Rattle.std.specs.List.{splice}
pub use Rattle.camp_base.specs.Bytes.{is_name, is_path_part}
pub use Rattle.camp_base.specs.Inside.Steps.{StandsAt, Steps}
pub use Rattle.camp_base.specs.Trees.{Adds, Files, Lines, Removes, Splices, SplicesLines}
