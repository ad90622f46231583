use Rattle.camp_script.proofs.Common.{map}
use Rattle.camp_script.proofs.HistoryLemmas.{line_done}
use Rattle.camp_script.proofs.spaces.append_line.Goals as goal

pub returns : goal.returns
returns c =
    line_done c.args.text.now.items c.args.first.now (map (λ word. word.now) c.args.rest.now) c.extend_from_slice.new.self.items c.append_words.new.text.items c.push.new.self.items
    c.in_ok-extend_from_slice.ensures.items c.in_ok-append_words.ensures c.in_ok-push.ensures.items
