use Rattle.camp_talk.proofs.Words.{◌≡◌, true, Bool, subst, arith, rules, ReadsCommand}
use Rattle.camp_talk.proofs.Firsts.{command_long}
use Rattle.camp_talk.proofs.Loading.{one_done, one_fails}
use Rattle.camp_talk.proofs.loads.load_one.Goals as goal

pub returns-in-Failed-clause-loads : goal.returns-in-Failed-clause-loads
returns-in-Failed-clause-loads g c = one_fails c.in-Ok.ensures.executes_next c.in-Failed.is c.in-Ok.ensures.line

pub returns-in-Done-clause-loads : goal.returns-in-Done-clause-loads
returns-in-Done-clause-loads g c = one_done c.in-Ok.ensures.executes_next c.in-Done.is

pub returns-in-Done-clause-counts : goal.returns-in-Done-clause-counts
returns-in-Done-clause-counts g c =
    let executes_next = c.in-Ok.ensures.executes_next in
    λ (more : c.in-Ok.executed.is_whole ≡ true).
    let reads = subst (λ (w : Bool). ReadsCommand (g.R.Read.remaining c.args.reader.now) (g.R.Read.remaining c.execute_next.new.reader) w executes_next.command) more executes_next.reads in
    record { rises = omega (arith, executes_next.counts, command_long executes_next.command reads.1); counted = search rules }
