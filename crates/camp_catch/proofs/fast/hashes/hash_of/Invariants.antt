use Rattle.std.proofs.Common.{◌≡◌, take}
use Rattle.std.specs.List.{fold}
use Rattle.camp_catch.specs.Inside.Hashes.{hash_step}
use Rattle.camp_catch.proofs.fast.hashes.hash_of.Given as goal

abbrev pub invariant-loop-byte : goal.invariant-loop-byte
invariant-loop-byte l = l.sum ≡ fold hash_step 0 (take l.byte-index l.bytes)
