use Rattle.camp_talk.proofs.Words.{◌≡◌, ◌∙◌, sym, Bool, true, false, List, ℕ, ap, length, rules, subst, Takes, last_seen}
use Rattle.camp_talk.proofs.FrameLemmas.{some_are, reads_cut_line, reads_cut_request, reads_frame, reads_nothing, reads_other, stops_in_front, stops_in_request}
use Rattle.camp_talk.specs.Frames.{ReadsNoFrame}
use Rattle.camp_talk.specs.Inside.Framing.{IsCounted, IsNotCounted, ReadsBytes}
use Rattle.camp_talk.specs.declared.lines.Seen.TheVariants as seen
use Rattle.camp_talk.proofs.serving.read_request.Given.{Over}
use Rattle.camp_talk.proofs.serving.read_request.Goals.{After-is_empty, After-request_len}
use Rattle.camp_talk.proofs.serving.read_request.Goals as goal

-- the input ended in the line or after it
cut : (g : Over) (c : After-is_empty g)
    → Takes (g.R.Read.remaining c.args.reader.now) (g.R.Read.remaining c.read_front.new.reader) 1_048_577 seen.End c.new-line.result.items
    c.read_front.new.text.items
cut g c =
    let last : c.in_ok-read_front.field-0 ≡ false = search rules in
    subst (λ (whole : Bool). Takes (g.R.Read.remaining c.args.reader.now) (g.R.Read.remaining c.read_front.new.reader) 1_048_577 (last_seen whole) c.new-line.result.items
    c.read_front.new.text.items) last c.in_ok-read_front.ensures.front

-- the line was read with its line feed
line : (g : Over) (c : After-request_len g)
    → Takes (g.R.Read.remaining c.args.reader.now) (g.R.Read.remaining c.read_front.new.reader) 1_048_577 seen.Line c.new-line.result.items
    c.read_front.new.text.items
line g c =
    let whole : c.in_ok-read_front.field-0 ≡ true = search rules in
    subst (λ (whole : Bool). Takes (g.R.Read.remaining c.args.reader.now) (g.R.Read.remaining c.read_front.new.reader) 1_048_577 (last_seen whole) c.new-line.result.items
    c.read_front.new.text.items) whole c.in_ok-read_front.ensures.front

pub returns-then-is_empty-clause-reads : goal.returns-then-is_empty-clause-reads
returns-then-is_empty-clause-reads g c =
    let then = (goal.at.returns-then-is_empty-clause-reads g c).After-is_empty in
    let none : length c.read_front.new.text.items ≡ 0 = search rules in
    reads_nothing _ _ c.new-line.result.items c.read_front.new.text.items (cut g then) none

pub returns-then-not-branch-clause-fault : goal.returns-then-not-branch-clause-fault
returns-then-not-branch-clause-fault g c =
    let then = (goal.at.returns-then-not-branch-clause-fault g c).After-is_empty in
    let counted : c.read_front.new.text.len ≡ length c.read_front.new.text.items = search rules in
    let some = some_are _ _ counted (sym c.is_empty.ensures ∙ c.if-is_empty.false) in
    reads_cut_line _ _ c.new-line.result.items c.read_front.new.text.items (cut g then) (ap (λ (bytes : List ℕ). length bytes) c.new-line.ensures.items) some

pub returns-in_err-count-clause-fault : goal.returns-in_err-count-clause-fault
returns-in_err-count-clause-fault g c =
    let then = (goal.at.returns-in_err-count-clause-fault g c).After-request_len in
    let a = g.R.Read.remaining c.args.reader.now in
    let b = g.R.Read.remaining c.read_front.new.reader in
    let why = c.in_err-count.field-0.0 in
    let stops : ReadsNoFrame a b why =
    reads_other a b c.new-line.result.items c.read_front.new.text.items (line g then) c.new-line.ensures.items why
    (subst (λ (bytes : List ℕ). IsNotCounted bytes why) c.deref.ensures.value c.in_err-count.ensures) in
    search (rules, stops)

pub returns-then-not-branch-2-clause-fault : goal.returns-then-not-branch-2-clause-fault
returns-then-not-branch-2-clause-fault g c =
    let then = (goal.at.returns-then-not-branch-2-clause-fault g c).After-request_len in
    let last : c.in_ok-read_bytes.field-0 ≡ false = search rules in
    reads_cut_request _ _ c.new-line.result.items c.read_front.new.text.items (line g then) c.new-line.ensures.items _ c.in_ok-count.count c.read_bytes.new.bytes.items
    (subst (λ bytes. IsCounted bytes c.in_ok-count.count) c.deref.ensures.value c.in_ok-count.ensures)
    (subst (λ (all : Bool). ReadsBytes (g.R.Read.remaining c.read_front.new.reader) (g.R.Read.remaining c.read_bytes.new.reader) c.in_ok-count.count all c.read_bytes.new.bytes.items)
    last c.in_ok-read_bytes.ensures.reads)

pub returns-clause-reads : goal.returns-clause-reads
returns-clause-reads g c =
    let then = (goal.at.returns-clause-reads g c).After-request_len in
    let all : c.in_ok-read_bytes.field-0 ≡ true = search rules in
    reads_frame _ _ c.new-line.result.items c.read_front.new.text.items (line g then) c.new-line.ensures.items _ c.in_ok-count.count c.read_bytes.new.bytes.items
    (subst (λ bytes. IsCounted bytes c.in_ok-count.count) c.deref.ensures.value c.in_ok-count.ensures)
    (subst (λ (all : Bool). ReadsBytes (g.R.Read.remaining c.read_front.new.reader) (g.R.Read.remaining c.read_bytes.new.reader) c.in_ok-count.count all c.read_bytes.new.bytes.items)
    all c.in_ok-read_bytes.ensures.reads)

pub returns-in_err-read_front-clause-fault : goal.returns-in_err-read_front-clause-fault
returns-in_err-read_front-clause-fault g c =
    let a = g.R.Read.remaining c.args.reader.now in
    let b = g.R.Read.remaining c.read_front.new.reader in
    let why = c.in_err-read_front.field-0.0 in
    let stops = stops_in_front a b why c.in_err-read_front.ensures.fault c.in_err-read_front.ensures.stops in
    search (rules, stops)

pub returns-in_err-read_bytes-clause-fault : goal.returns-in_err-read_bytes-clause-fault
returns-in_err-read_bytes-clause-fault g c =
    let then = (goal.at.returns-in_err-read_bytes-clause-fault g c).After-request_len in
    let stops = stops_in_request _ _ (g.R.Read.remaining c.read_bytes.new.reader) c.new-line.result.items c.read_front.new.text.items (line g then) c.new-line.ensures.items c.in_ok-count.count
    (subst (λ bytes. IsCounted bytes c.in_ok-count.count) c.deref.ensures.value c.in_ok-count.ensures)
    c.in_err-read_bytes.ensures.stops _ c.in_err-read_bytes.ensures.fault in
    search (rules, stops)
