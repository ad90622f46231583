use Rattle.std.proofs.lemmas.Result.{on_ok_weaker}
use Rattle.camp_git.proofs.Growing.{grows_more}
use Rattle.camp_git.proofs.changes.append_changes.Goals as goal

pub returns : goal.returns
returns c =
    on_ok_weaker c.append_modifications.result (grows_more c.args.text.now.items c.append_deletions.new.text.items c.append_modifications.new.text.items _ _ c.in_ok-append_deletions.ensures) c.append_modifications.ensures
