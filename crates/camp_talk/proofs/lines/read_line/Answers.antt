use Rattle.camp_talk.proofs.Words.{◌≡◌, ◌++◌, Bool, length, take, drop, subst, rules, as_read, Takes, last_seen}
use Rattle.camp_talk.proofs.LineReads.{last_line, stops_behind_line, stops_in_line, whole_line}
use Rattle.camp_talk.proofs.lines.read_line.Goals as goal

pub returns-then-not-is_whole-clause-line : goal.returns-then-not-is_whole-clause-line
returns-then-not-is_whole-clause-line g c =
    let a = g.R.Read.remaining c.args.reader.now in
    let b = g.R.Read.remaining c.read_front.new.reader in
    let old = c.args.text.now.items in
    let mid = c.read_front.new.text.items in
    let new = c.cut_line.new.text.items in
    let start : c.len-start.result ≡ length old = search rules in
    last_line a b old mid new
    (subst (λ (whole : Bool). Takes a b 1_048_577 (last_seen whole) old mid) c.if-not-is_whole.true c.in_ok-is_whole.ensures.front)
    (subst (λ n. new ≡ take n mid ++ as_read (drop n mid)) start c.cut_line.ensures)

pub returns-in-Ok-clause-line : goal.returns-in-Ok-clause-line
returns-in-Ok-clause-line g c =
    let a = g.R.Read.remaining c.args.reader.now in
    let b = g.R.Read.remaining c.read_front.new.reader in
    let old = c.args.text.now.items in
    let mid = c.read_front.new.text.items in
    let new = c.cut_line.new.text.items in
    let start : c.len-start.result ≡ length old = search rules in
    whole_line a b old mid new c.push.new.self.items
    (subst (λ (whole : Bool). Takes a b 1_048_577 (last_seen whole) old mid) c.if-not-is_whole.false c.in_ok-is_whole.ensures.front)
    (subst (λ n. new ≡ take n mid ++ as_read (drop n mid)) start c.cut_line.ensures) c.in-Ok.ensures.items

pub returns-in-Err-clause-stops : goal.returns-in-Err-clause-stops
returns-in-Err-clause-stops g c =
    let a = g.R.Read.remaining c.args.reader.now in
    let b = g.R.Read.remaining c.read_front.new.reader in
    let takes = subst (λ (whole : Bool). Takes a b 1_048_577 (last_seen whole) c.args.text.now.items c.read_front.new.text.items)
    c.if-not-is_whole.false c.in_ok-is_whole.ensures.front in
    stops_behind_line a b takes.line takes.is_line takes.consumes

pub returns-in_err-is_whole-clause-stops : goal.returns-in_err-is_whole-clause-stops
returns-in_err-is_whole-clause-stops g c = search (rules, stops_in_line _ _ c.in_err-is_whole.ensures.stops)
