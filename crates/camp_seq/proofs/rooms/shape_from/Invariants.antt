use Rattle.camp_seq.proofs.Words.{◌≡◌, ◌+◌, ◌≤◌, ◌^◌, max, drop, All, InRange, greatest_line, all_sides}
use Rattle.camp_seq.proofs.rooms.shape_from.Given as goal

abbrev pub invariant-loop-p : goal.invariant-loop-p
invariant-loop-p l = record {
  line : max l.greatest (greatest_line (drop l.p-index l.items)) ≡ max l.line (greatest_line l.items);
  sides : l.sides + all_sides (drop l.p-index l.items) ≡ l.more + all_sides l.items;
  ranges : All (λ p. InRange p.prim) (drop l.p-index l.items) → All (λ p. InRange p.prim) l.items;
  line_small : l.greatest ≤ 2 ^ 30;
  small : l.sides ≤ 2 ^ 30;
}
