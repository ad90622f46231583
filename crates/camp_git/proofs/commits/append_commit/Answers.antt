use Rattle.std.proofs.lemmas.Result.{on_ok_weaker}
use Rattle.camp_git.proofs.Growing.{written}
use Rattle.camp_git.proofs.commits.append_commit.Goals as goal

pub returns : goal.returns
returns c =
    on_ok_weaker c.append_changes.result (written c.args.text.now.items c.append_head.new.text.items c.append_changes.new.text.items c.args.place.now _ c.in_ok-append_head.ensures.text c.requires c.in_ok-append_head.ensures.named) c.append_changes.ensures
