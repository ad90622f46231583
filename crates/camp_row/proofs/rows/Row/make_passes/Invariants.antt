use Rattle.camp_row.proofs.Words.{◌≡◌, ◌-◌, map, range_with_len, new_pass, fresh}
use Rattle.camp_row.proofs.rows.Row.make_passes.Given as goal

abbrev pub invariant-loop-number : goal.invariant-loop-number
invariant-loop-number l = record {
  table : l.all.table_id ≡ l.self.table;
  parts : l.all.me.0.parts ≡ map (fresh l.self.seats l.self.per_seat) (range_with_len l.number (l.self.seats - l.number));
  made_so_far : l.passes.items ≡ map (new_pass l.self) (range_with_len 0 l.number);
}
