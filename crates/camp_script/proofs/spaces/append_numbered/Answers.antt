use Rattle.camp_script.proofs.Common.{decimal}
use Rattle.camp_script.proofs.HistoryLemmas.{entry_done}
use Rattle.camp_script.proofs.spaces.append_numbered.Goals as goal

pub returns : goal.returns
returns c =
    entry_done c.args.text.now.items c.args.word.now (decimal c.args.number) c.args.names.now c.extend_from_slice.new.self.items c.append_number.new.text.items c.append_named.new.text.items c.push.new.self.items
    c.in_ok-extend_from_slice.ensures.items c.in_ok-append_number.ensures c.in_ok-append_named.ensures.text c.in_ok-push.ensures.items
