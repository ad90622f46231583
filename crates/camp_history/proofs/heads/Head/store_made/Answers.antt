use Rattle.camp_history.proofs.Words.{◌≡◌, sym, subst, IsMarkPrefix, ◌∙◌, begins_self, map, entry_and_call}
use Rattle.camp_history.proofs.heads.Head.store_made.Goals as goal

pub note-requires-clause-begins : goal.note-requires-clause-begins
note-requires-clause-begins g c =
    let made : c.in-Some.snapshot ≡ c.args.seat.now.marks = rw c.in-Some.is at c.requires.made in
    let same : c.in-Some-store_at.base.snapshot.value ≡ c.args.seat.now.marks = c.in-Some-store_at.ensures.is ∙ made in
    subst (λ list. IsMarkPrefix list c.args.seat.now.marks) (sym same) (begins_self (map entry_and_call c.args.seat.now.marks))
