use Rattle.camp_git.proofs.OneLine.{path_in_line}
use Rattle.camp_git.proofs.texts.append_path.Goals as goal

pub returns-then-bytes-ne34-clause-named : goal.returns-then-bytes-ne34-clause-named
returns-then-bytes-ne34-clause-named c = path_in_line c.args.path.now c.bytes-bytes.ensures.form

pub returns-clause-named : goal.returns-clause-named
returns-clause-named c = path_in_line c.args.path.now c.bytes-bytes.ensures.form
