use Rattle.camp_script.proofs.WrittenLemmas.{record_done}
use Rattle.camp_script.proofs.writing.append_record.Goals as goal

pub returns-clause-text : goal.returns-clause-text
returns-clause-text c =
    record_done c.args.text.now.items c.args.branch c.args.name c.args.changes.now c.extend_from_slice.new.self.items c.append_named.new.text.items c.push.new.self.items c.append_patch.new.text.items c.append_patch.result
    c.in_ok-extend_from_slice.ensures.items c.in_ok-append_named.ensures.text c.in_ok-push.ensures.items c.append_patch.ensures.text
