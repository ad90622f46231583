use Rattle.std.proofs.Common.{◌∙◌, ◌++◌, take, drop, sym, ap, arith, take-append-drop, length-drop}
use Rattle.camp_talk.proofs.LineReads.{as_read_short, cut_is}
use Rattle.camp_talk.proofs.lines.cut_line.Goals as goal

pub returns-then-len-start-le-LONGEST_READ : goal.returns-then-len-start-le-LONGEST_READ
returns-then-len-start-le-LONGEST_READ c =
    let text = c.args.text.now.items in
    let start = c.args.start in
    let short = as_read_short (drop start text) (omega (arith, length-drop start text, c.len.ensures, c.if-len-start-le-LONGEST_READ.true)) in
    sym (ap (λ bytes. take start text ++ bytes) short ∙ take-append-drop start text)

pub returns : goal.returns
returns c =
    c.truncate.ensures.items
    ∙ cut_is c.args.text.now.items c.args.start (omega (arith, c.len.ensures, c.if-len-start-le-LONGEST_READ.false))
