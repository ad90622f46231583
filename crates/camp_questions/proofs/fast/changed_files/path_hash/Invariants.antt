use Rattle.camp_questions.proofs.Words.{◌≡◌, ◌<◌, drop, path_hash, hash_count, hash_after}
use Rattle.camp_questions.proofs.fast.changed_files.path_hash.Given as goal

abbrev pub invariant-loop-byte : goal.invariant-loop-byte
invariant-loop-byte l = record {
  less : l.number < hash_count;
  behind : hash_after l.number (drop l.byte-index l.bytes) ≡ path_hash l.path;
}
