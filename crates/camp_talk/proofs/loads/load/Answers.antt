use Rattle.camp_talk.specs.Diagnostics.{Diagnostic, no_diagnostic}
use Rattle.camp_talk.proofs.Words.{◌≡◌, Bool, true, Ok, rules, subst, sym, Done, SessionState, LoadsOne}
use Rattle.camp_talk.proofs.Loading.{none_done, one_more_done}
use Rattle.camp_talk.proofs.loads.load.Goals as goal

pub loop-diagnostic-init : goal.loop-diagnostic-init
loop-diagnostic-init g c =
    let a = g.R.Read.remaining c.args.reader.now in
    let first : SessionState = record { history = c.args.book.now; lines = 0; diagnostic = no_diagnostic } in
    let none : c.new-diagnostic.result ≡ no_diagnostic = search rules in
    subst (λ (diagnostic : Diagnostic). Done a a first (record { history = c.args.book.now; lines = 0; diagnostic = diagnostic })) (sym none) (none_done a first)

pub loop-diagnostic-preserved : goal.loop-diagnostic-preserved
loop-diagnostic-preserved g c =
    let b = g.R.Read.remaining c.loop-diagnostic.reader in
    let d = g.R.Read.remaining c.load_one.new.reader in
    let middle : SessionState = record { history = c.loop-diagnostic.book; lines = c.loop-diagnostic.lines; diagnostic = c.loop-diagnostic.diagnostic } in
    let last : SessionState = record { history = c.load_one.new.book; lines = c.load_one.new.lines; diagnostic = c.load_one.new.diagnostic } in
    let more : c.in_ok-load_one.field-0 ≡ true = search rules in
    one_more_done _ b d _ middle last c.loop-diagnostic.invariant
    (subst (λ (more : Bool). LoadsOne b d middle (Ok more) last) more c.in_ok-load_one.ensures.loads)
