-- What is durable in a repository stays so, when requests are executed and at a commit.
use Rattle.std.proofs.Common.{ℕ, Bool, List, Ok, sym, ap, subst}
use Rattle.camp_kept.proofs.Prefixes.{prefix_grows, prefix_self, prefix_through}
use Rattle.camp_kept.specs.Accepting.{StoreContents}
use Rattle.camp_kept.specs.Persisting.{PersistsCalls, accepted_by}
use Rattle.camp_kept.specs.declared.repositories.DurableRepository.{DurableRepository}
use Rattle.camp_kept_talk.specs.Conversations.{CommitsStore, PersistsFirst, SharesStore}
use Rattle.camp_notes.specs.declared.logs.PlacedNote.{PlacedNote}
use Rattle.camp_object.proofs.Beginnings.{begins_self}
use Rattle.camp_object.specs.Histories.{IsBeginning}

module _ {D : Type 0} (seen : D → List ℕ) (may_leave : D → List ℕ → Type 0) where
  shared : (stored : StoreContents) (before after : DurableRepository D) → SharesStore before after → PersistsCalls seen may_leave stored before
      → PersistsCalls seen may_leave stored (record before { book = after.book })
  shared stored before after shares durable = record { accepted = durable.accepted; texts = durable.texts; count_is = durable.count_is; notes_is = durable.notes_is }

  same_notes : (before after : DurableRepository D) → SharesStore before after → IsBeginning before.notes after.notes
  same_notes before after shares =
      subst (λ (l : List PlacedNote). IsBeginning before.notes l) (sym (ap (λ (kept : DurableRepository D). kept.notes) shares.same)) (begins_self before.notes)

  -- when requests are executed
  pub share_persists : (before after : DurableRepository D) → SharesStore before after → (stored : StoreContents)
      → PersistsFirst seen may_leave stored before → PersistsFirst seen may_leave stored after
  share_persists before after shares stored durable = (
    prefix_through durable.0 (prefix_grows before.book after.book before.notes after.notes shares.grows (same_notes before after shares)),
    subst (λ (kept : DurableRepository D). PersistsCalls seen may_leave stored kept) (sym shares.same) (shared stored before after shares durable.1),
  )

  -- at a commit
  pub commit_persists : (faults : D → ℕ) (is_clean : D → Bool) (before after : DurableRepository D)
      → CommitsStore seen may_leave faults is_clean before (Ok tt) after → (stored : StoreContents)
      → PersistsFirst seen may_leave stored before → PersistsFirst seen may_leave (accepted_by after) after
  commit_persists faults is_clean before after commits stored durable = (prefix_self (accepted_by after), commits.acknowledged stored durable)
