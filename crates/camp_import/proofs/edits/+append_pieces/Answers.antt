use Rattle.std.proofs.lemmas.Result.{on_ok_weaker}
use Rattle.camp_import.proofs.FileLemmas.{grows_by_one, grows_by_pieces}
use Rattle.camp_import.proofs.edits.+append_pieces.Goals as goal

pub returns-in_default : goal.returns-in_default
returns-in_default t c =
    on_ok_weaker c.append_hunk.result
    (grows_by_one c.args.path.now c.args.old.now c.args.new.now c.args.hunk c.args.changes.now.items c.append_hunk.new.changes.items c.in_default.ensures)
    c.append_hunk.ensures

pub returns : goal.returns
returns t c =
    on_ok_weaker c.append_pieces.result
    (grows_by_pieces c.args.path.now c.args.old.now c.args.new.now c.args.hunk c.in-Some.piece c.args.changes.now.items c.append_hunk-2.new.changes.items c.append_pieces.new.changes.items
    c.requires.within c.in-Some.ensures c.in_ok-append_hunk.ensures)
    c.append_pieces.ensures
