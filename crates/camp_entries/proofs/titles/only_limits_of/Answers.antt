use Rattle.std.proofs.Common.{◌≡◌, ℕ, ◌+◌, ◌-◌, length, take, drop, sym, ap, Some, arith}
use Rattle.camp_repo.specs.Limits.{Bounds}
use Rattle.camp_entries.proofs.TitleLemmas.{bounds_made, branches_part, catches_part, few_branches, few_catches, long_rest, space_at}
use Rattle.camp_entries.proofs.titles.only_limits_of.Goals as goal

pub returns-then-rest-len-le-BETWEEN_LIMITS : goal.returns-then-rest-len-le-BETWEEN_LIMITS
returns-then-rest-len-le-BETWEEN_LIMITS c = λ limits are is.
    let text = c.args.text.now in
    let at = space_at limits text are is c.space_in-len.result c.space_in-len.ensures.place in
    let long = long_rest limits text are is in
    let short = c.if-rest-len-le-BETWEEN_LIMITS.true in
    absurd (omega (arith, at, long, short))

pub returns-in_default : goal.returns-in_default
returns-in_default c = λ limits are is.
    let text = c.args.text.now in
    let at = space_at limits text are is c.space_in-len.result c.space_in-len.ensures.place in
    let found = c.parse_number.ensures limits.catches (few_catches limits text are is) (sym (catches_part limits text are is c.space_in-len.result at)) in
    let none = c.in_default.is in
    cc

pub returns-in_default-parse_number : goal.returns-in_default-parse_number
returns-in_default-parse_number c = λ limits are is.
    let text = c.args.text.now in
    let len = c.space_in-len.result in
    let at = space_at limits text are is len c.space_in-len.ensures.place in
    let long = long_rest limits text are is in
    let count : ℕ = length (take (length text - 19) (drop 19 text)) - 1 - (len + 10) in
    let found = c.parse_number-2.ensures limits.branches (few_branches limits text are is) (sym (branches_part limits text are is len count at (omega (arith, at, long)))) in
    let none = c.in_default-parse_number.is in
    cc

pub returns-in-Ok : goal.returns-in-Ok
returns-in-Ok c = λ limits are is.
    let text = c.args.text.now in
    let len = c.space_in-len.result in
    let at = space_at limits text are is len c.space_in-len.ensures.place in
    let long = long_rest limits text are is in
    let count : ℕ = length (take (length text - 19) (drop 19 text)) - 1 - (len + 10) in
    let found = c.parse_number.ensures limits.catches (few_catches limits text are is) (sym (catches_part limits text are is len at)) in
    let found_is = c.in-Some.is in
    let catches : c.in-Some.catches ≡ limits.catches = cc in
    let other = c.parse_number-2.ensures limits.branches (few_branches limits text are is) (sym (branches_part limits text are is len count at (omega (arith, at, long)))) in
    let other_is = c.in-Some-parse_number.is in
    let branches : c.in-Some-parse_number.branches ≡ limits.branches = cc in
    let made = bounds_made limits are c.in-Some.catches c.in-Some-parse_number.branches catches branches in
    let exact = c.new.ensures.exact in
    let ok = c.in-Ok.is in
    let same : c.in-Ok.limits ≡ limits = cc in
    ap (λ (l : Bounds). Some l) same

pub returns-in-Err : goal.returns-in-Err
returns-in-Err c = λ limits are is.
    let text = c.args.text.now in
    let len = c.space_in-len.result in
    let at = space_at limits text are is len c.space_in-len.ensures.place in
    let long = long_rest limits text are is in
    let count : ℕ = length (take (length text - 19) (drop 19 text)) - 1 - (len + 10) in
    let found = c.parse_number.ensures limits.catches (few_catches limits text are is) (sym (catches_part limits text are is len at)) in
    let found_is = c.in-Some.is in
    let catches : c.in-Some.catches ≡ limits.catches = cc in
    let other = c.parse_number-2.ensures limits.branches (few_branches limits text are is) (sym (branches_part limits text are is len count at (omega (arith, at, long)))) in
    let other_is = c.in-Some-parse_number.is in
    let branches : c.in-Some-parse_number.branches ≡ limits.branches = cc in
    let made = bounds_made limits are c.in-Some.catches c.in-Some-parse_number.branches catches branches in
    let exact = c.new.ensures.exact in
    let err = c.in-Err.is in
    cc
