-- The contents of a durable repository are those of its book and its notes.
use Rattle.std.proofs.Common.{◌≡◌, List, sym, ◌∙◌, ap}
use Rattle.camp_kept.specs.Accepting.{History, accepted_of}
use Rattle.camp_kept.specs.Persisting.{accepted_by}
use Rattle.camp_kept.specs.declared.repositories.DurableRepository.{DurableRepository}
use Rattle.camp_notes.specs.declared.logs.PlacedNote.{PlacedNote}

pub same_contents : {D : Type 0} (old new : DurableRepository D) → new.book ≡ old.book → new.notes ≡ old.notes → accepted_by old ≡ accepted_by new
same_contents old new book notes =
    ap (λ (history : History). accepted_of history old.notes) (sym book) ∙ ap (λ (placed : List PlacedNote). accepted_of new.book placed) (sym notes)
