use Rattle.camp_base.proofs.Words.{◌≡◌, drop, nat_cmp, slice_cmp}
use Rattle.camp_base.proofs.bytes.order.Given as goal

abbrev pub invariant-loop-byte : goal.invariant-loop-byte
invariant-loop-byte l = slice_cmp nat_cmp (drop l.byte-index l.bytes) l.rest.rest.now ≡ slice_cmp nat_cmp l.bytes l.others
