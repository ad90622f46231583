use Rattle.camp_kept.proofs.EntryLemmas.{called}
use Rattle.camp_kept.proofs.entries.entry_of.Goals as goal

pub returns-in-Some : goal.returns-in-Some
returns-in-Some c = record {
  exact = λ text found.
      let is = rw c.in-Some.is at c.in_ok-call.ensures.exact in
      called text c.args.notes.items c.args.rest.now c.in-Some.call found is.0 is.1;
}
