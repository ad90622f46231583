-- The words that most proofs about logs use.
pub use Rattle.std.proofs.Common.{Bool, Err, IfErr, List, Ok, Option, Result, Some, Vec, [], ap, append_assoc, arith, drop, false, inl, inr, length, length-append, length-drop, not, refl, rules, subst, suc, sym, take, take-append-drop, true, zero, ℕ, ◌*◌, ◌++◌, ◌+◌, ◌-◌, ◌<◌, ◌∙◌, ◌∷◌, ◌≡◌, ◌≢◌, ◌≤◌, ◌⊎◌}
pub use Rattle.camp_store.specs.Blocks.{AllFit, AreBlocks, DecodesTo, FitsInBlock, IsBlock, IsEnd, blocks, body, chain, closed_mark, digest_after, first_digest, head, is_closed, open_mark}
pub use Rattle.camp_store.specs.Logs.{IsBatch, IsBeforeOrAfter, Persists, texts_of}
pub use Rattle.camp_store.specs.Moments.{BatchesAreAtomic, WriteBegun, WrittenAndSynced}
pub use Rattle.camp_store.specs.Readings.{DamagedFilesDoNotDecode, IsDamaged, IsDecodedFrom, ReportsDamage}
pub use Rattle.camp_store.specs.declared.readings.Reading.{Reading}
pub use Rattle.sqlite_disk.specs.Disk.{Holds, Only, Torn}
pub use Rattle.std.proofs.lemmas.Bool.{cases_eq, false≢true, true≢false}
pub use Rattle.std.proofs.lemmas.List.{append-nil, drop-drop, drop_at, ext_get_or, get_or-drop, get_or-take, length-map, length-take-le, map-append, take_all, take_at, take_more}
