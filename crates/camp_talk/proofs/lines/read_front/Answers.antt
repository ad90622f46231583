use Rattle.camp_talk.proofs.Words.{StopsInLine, Consumes-nil, ◌≡◌, ◌++◌, [], length, take, ap, arith, rules, length-append, length-take}
use Rattle.camp_talk.proofs.LineReads.{none_taken, part_of_line, stops_here, taken_on}
use Rattle.camp_talk.proofs.lines.read_front.Goals as goal

pub loop-init : goal.loop-init
loop-init g c = none_taken _ _ 1_048_577 c.args.text.now.items (Consumes-nil (g.R.Read.remaining c.args.reader.now))

pub overflow_sub-capacity-in-loop : goal.overflow_sub-capacity-in-loop
overflow_sub-capacity-in-loop g c =
    let old = c.args.text.now.items in
    let line = c.loop.invariant.line in
    let start : c.len-start.result ≡ length old = search rules in
    let len : c.len.result ≡ length c.loop.text.items = search rules in
    omega (arith, start, len, ap length c.loop.invariant.grows, length-append old (take 1_048_577 line), length-take 1_048_577 line)

pub returns-in_err-read_some-clause-stops : goal.returns-in_err-read_some-clause-stops
returns-in_err-read_some-clause-stops g c =
    let a = g.R.Read.remaining c.args.reader.now in
    let b = g.R.Read.remaining c.loop.reader in
    let d = g.R.Read.remaining c.read_some.new.reader in
    let stops : StopsInLine a d = part_of_line a d c.loop.invariant.line c.loop.invariant.is_line
    (stops_here a b d (c.loop.invariant.line ++ []) c.loop.invariant.consumes c.in_err-read_some.ensures.none) in
    search (rules, stops)

pub returns-clause-stops : goal.returns-clause-stops
returns-clause-stops g c = part_of_line _ _ c.loop.invariant.line c.loop.invariant.is_line c.loop.invariant.consumes

pub returns-in-Line-clause-front : goal.returns-in-Line-clause-front
returns-in-Line-clause-front g c =
    taken_on _ (g.R.Read.remaining c.loop.reader) _ 1_048_577 c.args.text.now.items c.loop.text.items _ c.len-start.result c.len.result (search rules) (search rules)
    c.loop.invariant c.in-Line.is c.in_ok-read_some.ensures.some

pub returns-in-End-clause-front : goal.returns-in-End-clause-front
returns-in-End-clause-front g c =
    taken_on _ (g.R.Read.remaining c.loop.reader) _ 1_048_577 c.args.text.now.items c.loop.text.items _ c.len-start.result c.len.result (search rules) (search rules)
    c.loop.invariant c.in-End.is c.in_ok-read_some.ensures.some

pub loop-preserved : goal.loop-preserved
loop-preserved g c =
    taken_on _ (g.R.Read.remaining c.loop.reader) _ 1_048_577 c.args.text.now.items c.loop.text.items _ c.len-start.result c.len.result (search rules) (search rules)
    c.loop.invariant c.in-Part.is c.in_ok-read_some.ensures.some
