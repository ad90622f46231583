use Rattle.std.proofs.Common.{drop, length, map}
use Rattle.camp_importer.proofs.PartLemmas.{IsRecordedSoFar}
use Rattle.camp_importer.proofs.part_records.record_parts.Given as goal

abbrev pub invariant-parts : goal.invariant-parts
invariant-parts l =
    IsRecordedSoFar l.name l.branch l.index (length (map (λ part. part.items) l.parts)) (map (λ part. part.items) l.parts)
    (drop l.index (map (λ part. part.items) l.parts)) l.initial.book l.book
