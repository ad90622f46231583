use Rattle.camp_row.proofs.Words.{◌≡◌, ◌+◌, length, take, IsTrail}
use Rattle.camp_row.proofs.rows.Row.advance_by.Given as goal

abbrev pub invariant-loop : goal.invariant-loop
invariant-loop l = record {
  seen : l.pass ≡ record l.fn.pass { seen = take (length l.fn.pass.seen + l.counter) l.fn.pass.ahead };
  leads : IsTrail l.pass l.pass.seen l.trail;
  left : length l.trail + l.counter ≡ length l.fn.trail;
}
