-- The words that most proofs about rows use.
pub use Rattle.std.proofs.Common.{All, Bool, List, MatchBool, MatchOption, Option, Some, [], ap, arith, cond, drop, false, get_or, inl, inr, length, length-append, map, refl, replicate, set, slice_get, slice_index, subst, suc, sum_by, sym, take, true, vec_len, zero, zero-add, ℕ, ◌%◌, ◌*◌, ◌++◌, ◌+◌, ◌-◌, ◌<◌, ◌==◌, ◌∙◌, ◌∷◌, ◌≡◌, ◌≢◌, ◌≤◌, ◌⊎◌}
pub use Rattle.std.proofs.lemmas.Bool.{MatchBool-at_true, cases_eq, cond-false, cond-true, eq-eqb, false≢true, ne_eqb}
pub use Rattle.std.proofs.lemmas.List.{append-nil, append_assoc, append_cancel_left, get_or-set_other, get_or-set_same, length-replicate, length-set, length_push, nil_from_length, same_from_push, set-get_or}
pub use Rattle.std.proofs.lemmas.List.Elements.{All-append, All-cons, All-drop, All-head, All-map, All-nil, All-same, All-tail, All-take, All-weaker, filter-append}
pub use Rattle.std.proofs.lemmas.List.Sums.{sum_by-append, sum_by-cons, sum_by_push}
pub use Rattle.std.proofs.lemmas.Nat.{mod-mul-add, row_fits, same_from_place}
pub use Rattle.std.proofs.lemmas.Option.{same_Some, slice_get_read}
pub use Rattle.std.specs.List.{range_with_len}
pub use lib.ListN.{get_elem?}
pub use mathlib.Core.Option.{some, some-injective, some-ne-none}
pub use prog.Atomic.{either}
pub use Rattle.atomic_table.proofs.Lists.{at_set, at_snoc, set_else}
pub use Rattle.atomic_table.specs.Seated.{TableId}
pub use Rattle.atomic_table.specs.Table.{Allows, Joins, Me, Splits, State, keeps}
pub use Rattle.atomic_table.specs.declared.shared.Seat.{Seat}
pub use Rattle.camp_row.specs.Chains.{FitsRow, IsPrefix, IsProperPrefix, cell_of, head_after, head_word, own_entries, entry_count}
pub use Rattle.camp_row.specs.Inside.Parts.{IsSoundPart, Part, all_fresh, finds, fresh, known_of, part_of, parts_of}
pub use Rattle.camp_row.specs.Inside.PassFields.{IsPass, known, part}
pub use Rattle.camp_row.specs.Inside.RowFields.{IsRow, id_of}
pub use Rattle.camp_row.specs.Inside.Rule.{HasCell, IsLinked, IsRuled, Knows, parent_word, index_word}
pub use Rattle.camp_row.specs.Inside.Steps.{Advanced, LoadedHead, LostPart, SeatFindsChain, StoredParent, StoredIndex, Tried, Walked, WonPart, drafted_part, first_apart, joined_views, spent, without_first, won_part}
pub use Rattle.camp_row.specs.PassState.{IsNextEntry, FindsChain, IsDrafted, PassState, IsTrail, OneIsPrefix, IsSound, RowId, IsOnChain, cells_back, new_pass}
pub use Rattle.camp_row.specs.declared.entries.Entry.{Entry}
pub use Rattle.camp_row.specs.declared.knowledge.Knowledge.{Knowledge}
pub use Rattle.camp_row.specs.declared.passes.Pass.TheInside.{Inside as PassInside}
pub use Rattle.camp_row.specs.declared.rows.Row.TheInside.{Inside as RowInside}
pub use Rattle.camp_row.specs.declared.trails.Next.{Next}
