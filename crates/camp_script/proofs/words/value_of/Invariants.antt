use Rattle.camp_script.proofs.Common.{◌≡◌, ◌+◌, ◌*◌, ◌^◌, ◌≤◌, take, value_of}
use Rattle.camp_script.proofs.words.value_of.Given as goal

abbrev pub invariant-loop-digit : goal.invariant-loop-digit
invariant-loop-digit l = (l.value ≡ value_of (take l.digit-index l.digits)) × (l.value + 23 ≤ 23 * 10 ^ l.digit-index)
