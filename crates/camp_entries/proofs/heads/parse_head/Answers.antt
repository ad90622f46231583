use Rattle.std.proofs.Common.{◌≡◌, ◌+◌, ℕ, length, sym, ap, ◌∙◌, Some, arith}
use Rattle.camp_entries.specs.Texts.{text_of_head}
use Rattle.camp_entries.specs.declared.heads.Head.{Head}
use Rattle.camp_entries.proofs.HeadLemmas.{head_long, line, long, number_part, on_line, one_line, seat_part}
use Rattle.camp_entries.proofs.heads.parse_head.Goals as goal

pub returns-in_default-clause-head : goal.returns-in_default-clause-head
returns-in_default-clause-head c = λ seat number body small few is.
    let bytes = c.args.text.now in
    absurd (c.in_default.ensures (line seat number body bytes few is) body (one_line seat number body bytes few is) (on_line seat number body bytes few is))

pub returns-then-len-lt40-clause-head : goal.returns-then-len-lt40-clause-head
returns-then-len-lt40-clause-head c = λ seat number body small few is.
    let bytes = c.args.text.now in
    let at = c.in-Some.ensures.2 (line seat number body bytes few is) body (one_line seat number body bytes few is) (on_line seat number body bytes few is) in
    let size = long seat number body bytes few is in
    let short = c.if-len-lt40.true in
    absurd (omega (arith, at, size, short))

pub returns-in_default-parse_seat-clause-head : goal.returns-in_default-parse_seat-clause-head
returns-in_default-parse_seat-clause-head c = λ seat number body small few is.
    let found = c.parse_seat.ensures seat small (sym (seat_part seat number body c.args.text.now few is)) in
    let none = c.in_default-parse_seat.is in
    cc

pub returns-in_default-parse_number-clause-head : goal.returns-in_default-parse_number-clause-head
returns-in_default-parse_number-clause-head c = λ seat number body small few is.
    let bytes = c.args.text.now in
    let at = c.in-Some.ensures.2 (line seat number body bytes few is) body (one_line seat number body bytes few is) (on_line seat number body bytes few is) in
    let found = c.parse_number.ensures number few (sym (number_part seat number body bytes few is c.in-Some.len at)) in
    let none = c.in_default-parse_number.is in
    cc

pub returns-clause-head : goal.returns-clause-head
returns-clause-head c = λ seat number body small few is.
    let bytes = c.args.text.now in
    let at = c.in-Some.ensures.2 (line seat number body bytes few is) body (one_line seat number body bytes few is) (on_line seat number body bytes few is) in
    let found_number = c.parse_number.ensures number few (sym (number_part seat number body bytes few is c.in-Some.len at)) in
    let is_number = c.in-Some-parse_number.is in
    let same_number : c.in-Some-parse_number.number ≡ number = cc in
    let found_seat = c.parse_seat.ensures seat small (sym (seat_part seat number body bytes few is)) in
    let is_seat = c.in-Some-parse_seat.is in
    let same_seat : c.in-Some-parse_seat.seat ≡ seat = cc in
    let same_len : c.in-Some.len ≡ length (text_of_head seat number) = at ∙ sym (head_long seat number body bytes few is) in
    let head : ℕ → ℕ → ℕ → Head = λ s n l. record { seat = s; number = n; len = l } in
    ap (λ (s : ℕ). Some (head s c.in-Some-parse_number.number c.in-Some.len)) same_seat
    ∙ ap (λ (n : ℕ). Some (head seat n c.in-Some.len)) same_number
    ∙ ap (λ (l : ℕ). Some (head seat number l)) same_len
