use Rattle.std.proofs.Common.{sym, ◌∙◌}
use Rattle.camp_entries.proofs.SeatLemmas.{seat_is_utf8, seat_parses}
use Rattle.camp_entries.proofs.seats.parse_seat.Goals as goal

pub returns-in_default : goal.returns-in_default
returns-in_default c = λ seat small is. absurd (c.in_default.ensures.cases.0 (seat_is_utf8 seat c.args.digits.now is))

pub returns-in-Ok-from_str_radix : goal.returns-in-Ok-from_str_radix
returns-in-Ok-from_str_radix c = λ seat small is.
    let same = seat_parses seat c.in-Ok.text.now c.from_str_radix.result small (is ∙ sym c.in-Ok.ensures.cases.0) c.from_str_radix.ensures.value in
    let found = c.in-Ok-from_str_radix.is in
    cc

pub returns-in-Err : goal.returns-in-Err
returns-in-Err c = λ seat small is.
    let same = seat_parses seat c.in-Ok.text.now c.from_str_radix.result small (is ∙ sym c.in-Ok.ensures.cases.0) c.from_str_radix.ensures.value in
    let found = c.in-Err.is in
    cc
