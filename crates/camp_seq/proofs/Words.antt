-- The words that most proofs about lists use.
pub use Rattle.camp_seq.specs.Chains.{Chain, IsBlockedByFirst}
pub use Rattle.camp_prim.proofs.Inverses.{inverse_of-inverse_of, leads_back}
pub use Rattle.camp_base.specs.Answers.{Answers, AnswersByTrial, FindsPair}
pub use borrow.Rule.Slice.PartMut.{put_mid}
pub use Rattle.std.proofs.Common.{Bool, Contains, Err, IsTrue, List, None, Option, Some, [], ap, arith, drop, false, get_or, if◌then◌else◌, inl, inr, length, map, max, refl, reverse, set, subst, suc, sym, take, true, zero, ℕ, ◌++◌, ◌+◌, ◌-◌, ◌<◌, ◌^◌, ◌∙◌, ◌∷◌, ◌≡◌, ◌≢◌, ◌≤◌, ◌⊎◌}
pub use Rattle.std.proofs.lemmas.List.{append-nil, append_assoc, at_drop_all, drop-set, drop-set-lt, drop_all, drop_at, drop_more, get_or-take, get_or_default, length-append, length-drop, length-set, length-take-le, length_push, map-append, reverse-append, set-get_or, take-append-drop, take-set, take-take, take_all, take_at, take_more, take_more_set, take_rest}
pub use Rattle.camp_base.specs.Trees.{Files}
pub use Rattle.camp_prim.proofs.LabelOrder.{label_ties, label_total, less_from_lt, less_or_not, less_unless, not_above, not_below, not_below_both, not_less_where, same_label}
pub use Rattle.camp_seq.specs.Equivalence.{CommutesOnce, backwards, exchanged, same, through, ◌~◌}
pub use Rattle.camp_prim.proofs.CommuteDecided.{Decided, decided_by, same_or_not, swap_or_not}
pub use Rattle.std.proofs.lemmas.List.Elements.{All-cons, All-drop, All-head, All-more, All-nil, All-same, All-tail, All-take, All-weaker, Contains-append_right, Contains-get_or}
pub use Rattle.std.specs.Bool.{then_some}
pub use Rattle.camp_prim.proofs.CommuteLaws.{effect, own_inverse, square}
pub use Rattle.camp_seq.specs.Inside.InPlace.{CommutedLeftTo, FirstPasses, FirstWithLabel, IsBlockedByAll, LacksLabel, PartsFrom, CommutesBeforeAll}
pub use Rattle.camp_prim.proofs.CommuteUnique.{swap_unique}
pub use Rattle.std.specs.List.{All}
pub use Rattle.std.specs.Prelude.{◌↔◌}
pub use Rattle.camp_prim.specs.Effect.{Applies, InRange, inverse_of}
pub use Rattle.camp_seq.specs.Inside.LeastLabels.{HasLabel, LeastAbove, NoneLess, MovesLeastToFront, StartsAbove, is_above, untried}
pub use Rattle.camp_seq.specs.Laws.{AreDetermined, AreEquivalent, EquivalentRun, HasNormalOrder, InverseOfListLeadsBack, MergeCloses, MergeIsEquivalent, MergeIsPassing, MergeIsSymmetric, SplitByLabels}
pub use Rattle.camp_prim.specs.Labels.{key_of, label_cmp, label_of}
pub use Rattle.std.specs.declared.cmp.Ordering.TheVariants.{Less}
pub use Rattle.camp_prim.specs.Commuting.{PrimitivesCommute, Commute, CommuteAnywhere, path_of}
pub use Rattle.camp_seq.specs.Merging.{CleanMerge, Merges, MergesOne}
pub use Rattle.camp_seq.specs.NormalOrder.{IsLeast, Norm, Splits}
pub use Rattle.camp_prim.specs.declared.labels.Label.{Label}
pub use Rattle.camp_prim.specs.declared.named.Named.{Named}
pub use Rattle.camp_seq.specs.Passing.{Fronts, Parts, Passes, PassesAll}
pub use Rattle.camp_seq.specs.Room.{HasRoom, LawOfThree, NormalForm, Reaches, further, here}
pub use Rattle.camp_prim.specs.declared.primitives.Primitive.{Primitive}
pub use Rattle.camp_seq.specs.Running.{AppliesAll, inverse_all}
pub use Rattle.camp_seq.specs.Shapes.{all_sides, greatest_line, line_of, reach_of, sides_of}
