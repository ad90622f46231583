use Rattle.camp_repo.proofs.Words.{rules, ◌≡◌, ◌∙◌, ap, arith, length, names_in, sym, catches_named}
use Rattle.camp_repo.proofs.NameSteps.{named_behind}
use Rattle.camp_repo.proofs.SizeSteps.{has_room}
use Rattle.camp_repo.proofs.name_lists.is_full_with.Goals as goal

pub returns-then-saturating_add-most : goal.returns-then-saturating_add-most
returns-then-saturating_add-most c =
    let mine = c.len-len.ensures.exact ∙ ap length c.catches.ensures.value in
    let others = c.len.ensures.exact ∙ ap length c.catches-2.ensures.value in
    has_room c.args.limits.catches c.args.ours.now c.args.theirs.now c.args.long (names_in c.args.names.now) c.requires.agree c.requires.lacked (omega arith)

pub returns : goal.returns
returns c =
    let more : c.count_behind-more.result ≡ length (catches_named (names_in c.args.names.now) c.args.theirs.now)
    = c.count_behind-more.ensures ∙ ap length (sym (named_behind c.args.theirs.now c.args.ours.now c.args.long (names_in c.args.names.now) c.requires.agree c.requires.lacked)) in
    search (rules, more)
