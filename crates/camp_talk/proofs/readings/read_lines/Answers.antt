use Rattle.camp_talk.proofs.Words.{rules, ◌≡◌, ◌∙◌, Bool, true, false, true≢false, refl, sym, subst, Gives, ReadsWithin, wants}
use Rattle.camp_talk.proofs.Firsts.{HandsOn, IsHanded, all_on, call_read, first_on, first_within, line_read, next_on, stops_on, stops_within}
use Rattle.camp_talk.proofs.readings.read_lines.Given.{Over}
use Rattle.camp_talk.proofs.readings.read_lines.Goals.{After-finish, then-loop-is_whole-test+else-wants_more, else-loop-is_whole-test}
use Rattle.camp_talk.proofs.readings.read_lines.Goals as goal

pub returns-in_err-is_whole-clause-within : goal.returns-in_err-is_whole-clause-within
returns-in_err-is_whole-clause-within g c =
    let within : ReadsWithin (g.R.Read.remaining c.args.reader.now) (g.R.Read.remaining c.read_line.new.reader) =
    stops_within _ _ c.in_err-is_whole.ensures.stops in
    search (rules, within)

pub returns-in_default-clause-within : goal.returns-in_default-clause-within
returns-in_default-clause-within g c =
    let a = g.R.Read.remaining c.args.reader.now in
    let b = g.R.Read.remaining c.read_line.new.reader in
    let bytes = c.read_line.new.text.items in
    first_within a b bytes c.in_ok-is_whole.is_whole (line_read a b bytes c.in_ok-is_whole.ensures.line c.new-bytes.ensures.items refl)

pub loop-is_whole-init : goal.loop-is_whole-init
loop-is_whole-init g c =
    let a = g.R.Read.remaining c.args.reader.now in
    let b = g.R.Read.remaining c.read_line.new.reader in
    let bytes = c.read_line.new.text.items in
    let has = call_read c.in-Ok.command bytes c.in-Ok.ensures.first c.call_part.ensures.exact c.first_line.ensures.value c.deref.ensures.value in
    first_on a b bytes c.in-Ok.command has c.in_ok-is_whole.is_whole (line_read a b bytes c.in_ok-is_whole.ensures.line c.new-bytes.ensures.items refl)

pub returns-in_err-is_whole-2-clause-within : goal.returns-in_err-is_whole-2-clause-within
returns-in_err-is_whole-2-clause-within g c =
    let a = g.R.Read.remaining c.args.reader.now in
    let b = g.R.Read.remaining c.loop-is_whole.reader in
    let d = g.R.Read.remaining c.read_next.new.reader in
    let on = subst (λ (w : Bool). HandsOn a b w c.loop-is_whole.bytes.items c.loop-is_whole.command) c.loop-is_whole-test.true c.loop-is_whole.invariant in
    let within : ReadsWithin a d = stops_on a b d c.loop-is_whole.bytes.items c.read_next.new.bytes.items c.loop-is_whole.command c.read_next.new.command on
    (sym c.wants_more.ensures.exact ∙ c.if-wants_more.true) c.in_err-is_whole-2.ensures.stops in
    search (rules, within)

pub loop-is_whole-preserved : goal.loop-is_whole-preserved
loop-is_whole-preserved g c =
    let a = g.R.Read.remaining c.args.reader.now in
    let b = g.R.Read.remaining c.loop-is_whole.reader in
    let on = subst (λ (w : Bool). HandsOn a b w c.loop-is_whole.bytes.items c.loop-is_whole.command) c.loop-is_whole-test.true c.loop-is_whole.invariant in
    next_on a b (g.R.Read.remaining c.read_next.new.reader) c.loop-is_whole.bytes.items c.read_next.new.bytes.items c.loop-is_whole.command c.read_next.new.command on
    c.in_ok-is_whole-2.is_whole c.in_ok-is_whole-2.ensures.next

-- all lines are processed
all : (g : Over) (c : After-finish g) → IsHanded (g.R.Read.remaining c.args.reader.now) (g.R.Read.remaining c.loop-is_whole.reader) c.loop-is_whole.is_whole c.loop-is_whole.bytes.items c.loop-is_whole.command
all g c =
    all_on _ _ c.loop-is_whole.bytes.items c.loop-is_whole.command c.loop-is_whole.is_whole c.loop-is_whole.invariant (λ whole. enough whole)
  where
    enough : c.loop-is_whole.is_whole ≡ true → wants c.loop-is_whole.command.wanted ≡ false
    enough whole = elim c.loop-is_whole-test.branch [
      | then-loop-is_whole-test+else-wants_more w ↦ sym w.wants_more.ensures.exact ∙ w.if-wants_more.false
      | else-loop-is_whole-test w ↦ absurd (true≢false (sym whole ∙ w.loop-is_whole-test.false))
    ]

pub returns-clause-command : goal.returns-clause-command
returns-clause-command g c = (all g (goal.at.returns-clause-command g c).After-finish).held

pub returns-clause-script : goal.returns-clause-script
returns-clause-script g c =
    let all = all g (goal.at.returns-clause-script g c).After-finish in
    subst (Gives c.finish.result) all.same (c.finish.ensures.given all.first all.rest all.has)
