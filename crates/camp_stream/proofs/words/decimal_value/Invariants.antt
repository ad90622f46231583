use Rattle.std.proofs.Common.{◌≡◌, ◌+◌, ◌*◌, ◌^◌, ◌≤◌, take}
use Rattle.camp_stream.specs.StreamItems.{decimal_value}
use Rattle.camp_stream.proofs.words.decimal_value.Given as goal

abbrev pub invariant-loop-digit : goal.invariant-loop-digit
invariant-loop-digit l =
    (l.value ≡ decimal_value (take l.digit-index l.digits)) × (l.value + 23 ≤ 23 * 10 ^ l.digit-index)
