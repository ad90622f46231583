use Rattle.camp_repo.proofs.Words.{◌∙◌, ap, length, agree_none, listed, names_in, wanted}
use Rattle.camp_repo.proofs.ByMembers.{named_alike}
use Rattle.camp_repo.proofs.name_lists.count_brought.Goals as goal

pub wanted-requires : goal.wanted-requires
wanted-requires c = agree_none c.args.theirs.now c.args.ours.now

pub returns : goal.returns
returns c =
    let ours = c.args.ours.now in
    let theirs = c.args.theirs.now in
    c.count_behind.ensures ∙ ap length (named_alike (names_in c.in_ok-wanted.wanted) (wanted ours (listed theirs c.args.names.now)) c.in_ok-wanted.ensures theirs)
