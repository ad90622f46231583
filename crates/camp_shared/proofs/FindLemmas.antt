-- What a member of a log of texts finds.
use Rattle.std.proofs.Common.{◌≡◌, ℕ, ◌+◌, ◌-◌, List, refl, arith, inl, inr, Result, Ok, Err, Option}
use Rattle.camp_call.specs.declared.calls.Call.{Call}
use Rattle.camp_entries.specs.Texts.{IsEntryOf}
use Rattle.camp_member.specs.Entries.{Tagged}
use Rattle.camp_member.specs.Notes.{WithNote}
use Rattle.camp_member.specs.Wanting.{FindsAt}
use Rattle.camp_member.specs.declared.faults.ReadFault.{ReadFault}
use Rattle.camp_member.specs.declared.faults.ReadFault.TheVariants.{Foreign, Memory, OutOfOrder}
use Rattle.camp_shared.specs.Asking.{FindsText, ReadsNextEntry}
use Rattle.camp_shared.specs.Sharing.{Sharing, shared_from}

module _ (old new : Sharing) (index : ℕ) (found : Option (Tagged (WithNote Call))) (at : index ≡ old.reading.index + 1) where
  pub next_ok : FindsAt (shared_from old.reading.first) old (index - 1) found (Ok tt) new → ReadsNextEntry old index found (Ok tt) new
  next_ok (inl before) = let below = before.0 in absurd (omega (arith, at, below))
  next_ok (inr finds) = (finds.1, finds.2, finds.3)

  pub next_foreign : (place : ℕ) → FindsAt (shared_from old.reading.first) old (index - 1) found (Err (Foreign place)) new → ReadsNextEntry old index found (Err (Foreign index)) new
  next_foreign place is = (refl, is.2, is.3)

  pub in_order : (next : ℕ) → FindsAt (shared_from old.reading.first) old (index - 1) found (Err (OutOfOrder next)) new → ⊥
  in_order next is = let next_is = is.0 in let below = is.1 in omega (arith, at, next_is, below)

  pub finds_text : (text : List ℕ) → IsEntryOf text found → (result : Result (Unit {0}) ReadFault) → ReadsNextEntry old index found result new → FindsText old index text result new
  finds_text text parsed (Ok done) is = inr (at, (found, parsed, is))
  finds_text text parsed (Err Memory) is = is
  finds_text text parsed (Err (OutOfOrder next)) is = absurd is
  finds_text text parsed (Err (Foreign place)) is = (at, (found, parsed, is))
