use Rattle.std.proofs.lemmas.Result.{on_ok_weaker}
use Rattle.camp_git.proofs.Growing.{grows_by_file}
use Rattle.camp_git.specs.Exports.{content_of}
use Rattle.camp_git.proofs.changes.append_file.Goals as goal

pub returns : goal.returns
returns c =
    on_ok_weaker c.append_content.result (grows_by_file c.args.text.now.items c.extend_from_slice.new.self.items c.append_path.new.text.items c.push.new.self.items c.append_content.new.text.items c.args.path.now (content_of c.args.lines.now) c.in_ok-extend_from_slice.ensures.items c.in_ok-append_path.ensures.text c.in_ok-push.ensures.items c.in_ok-append_path.ensures.named) c.append_content.ensures
