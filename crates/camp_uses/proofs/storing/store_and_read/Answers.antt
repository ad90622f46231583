use Rattle.camp_uses.proofs.Words.{◌≡◌, ap, subst, ◌∙◌, AllByRecursion, lists_of, repository, CanBeInScript, calls_of, kept_text}
use Rattle.camp_object.specs.Books.{replay_book}
use Rattle.camp_uses.proofs.StoredBooks.{book_preserved}
use Rattle.camp_uses.specs.StoredBooks.{book_at_seat_0}
use Rattle.camp_uses.proofs.storing.store_and_read.Goals as goal

again : (c : goal.After-drop-text-2) → (c.in_ok-run.run'.book ≡ book_at_seat_0 c.args.book.now) × (replay_book repository c.in_ok-run.run'.book ≡ replay_book repository c.args.book.now)
again c =
    let stand = subst (λ history. AllByRecursion CanBeInScript (calls_of history)) c.history.ensures.value c.in_ok-text.ensures.stand in
    let written = c.deref.ensures.value ∙ c.in_ok-text.ensures.text ∙ ap kept_text c.history.ensures.value in
    book_preserved c.kept_text_leads_back.ensures.law c.one_by_one_is_serial.ensures.law c.args.book.now c.in_ok-run.run'.book c.in_ok-first.first c.deref.result.now _ (lists_of c.sections.result.now) (lists_of c.in_ok-run.run'.answers.items)
    c.history.ensures.first (c.in_ok-first.ensures.exact ∙ c.state.ensures.began) c.in_ok-run.ensures.begins
    c.history.ensures.legal stand c.requires written c.in-Ok.ensures.given c.sections.ensures.value c.history-kept.ensures.legal c.in_ok-run.ensures.serial

pub returns-clause-history : goal.returns-clause-history
returns-clause-history c = (again c).0

pub returns-clause-state : goal.returns-clause-state
returns-clause-state c = (again c).1
