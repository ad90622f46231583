use Rattle.std.proofs.Common.{◌≡◌, ◌≤◌, ◌∙◌, List, ℕ, IsTrue, length, ap, subst, sym, arith}
use Rattle.camp_kept.specs.Accepting.{StoreContents, accepted_of}
use Rattle.camp_kept.specs.Openings.{PersistsTitled}
use Rattle.camp_kept.specs.Persisting.{AreTexts, DecodesToCalls, max_untitled_len}
use Rattle.camp_kept.specs.Titles.{new_limits}
use Rattle.camp_kept.proofs.Committing.{counted, store_decodes}
use Rattle.camp_kept.proofs.Listing.{legal_alone}
use Rattle.camp_kept.proofs.Opening.{as_read, decoded_short, decodes_too, no_bytes}
use Rattle.camp_kept.proofs.Preserving.{recovered_unrefused}
use Rattle.camp_kept.proofs.Refusing.{unclosed_unopened, untitled_unopened}
use Rattle.camp_repo.specs.Limits.{Bounds}
use Rattle.camp_store.specs.Logs.{PersistsTexts, disk_of, texts_of}
use Rattle.camp_store.specs.Readings.{IsDecodedFrom}
use Rattle.camp_store.proofs.BlockLemmas.{log_decodes, reading_decodes}
use Rattle.camp_kept.proofs.repositories.DurableRepository.open.Given.{Over}
use Rattle.camp_kept.proofs.repositories.DurableRepository.open.Goals.{After-ensure_title, In-Ok-ensure_title}
use Rattle.camp_kept.proofs.repositories.DurableRepository.open.Goals as goal

-- the texts that were read, as they are handed on
handed : (g : Over) (c : After-ensure_title g) → texts_of c.in-Ok.found.0.texts.items ≡ texts_of c.deref.result.now
handed g c = ap texts_of (sym c.deref.ensures.value)

-- the log persists them
persists : (g : Over) (c : After-ensure_title g) → IsDecodedFrom (g.D.Disk.seen c.args.disk) c.in-Ok.found.0 → PersistsTexts g.D.Disk.seen g.D.Disk.may_leave (texts_of c.deref.result.now) c.in-Ok-open.log
persists g c is =
    subst (λ ts. PersistsTexts g.D.Disk.seen g.D.Disk.may_leave ts c.in-Ok-open.log) (handed g c)
    (c.in-Ok-open.ensures.persists (subst (λ f. IsDecodedFrom f c.in-Ok.found.0) (sym c.in-Ok.ensures.seen) is) c.in-Ok.ensures.synced)

-- a store that is created has the limits of a new one
anew : (g : Over) (c : After-ensure_title g) (texts : List (List ℕ)) (stored : StoreContents) → AreTexts (new_limits c.args.wanted) texts stored → AreTexts c.new_limits.result texts stored
anew g c texts stored are = subst (λ (limits : Bounds). AreTexts limits texts stored) (sym c.new_limits.ensures.exact) are

-- after the title it has those of a store
all : (g : Over) (c : In-Ok-ensure_title g) → PersistsTexts g.D.Disk.seen g.D.Disk.may_leave (texts_of c.deref.result.now) c.in-Ok-open.log
    → PersistsTitled g.D.Disk.seen g.D.Disk.may_leave (new_limits c.args.wanted) (texts_of c.in-Ok.found.0.texts.items) c.in-Ok-ensure_title.log
all g c persists =
    subst (λ ts. PersistsTitled g.D.Disk.seen g.D.Disk.may_leave (new_limits c.args.wanted) ts c.in-Ok-ensure_title.log) (ap texts_of c.deref.ensures.value)
    (subst (λ (limits : Bounds). PersistsTitled g.D.Disk.seen g.D.Disk.may_leave limits (texts_of c.deref.result.now) c.in-Ok-ensure_title.log) c.new_limits.ensures.exact (c.in-Ok-ensure_title.ensures.persists persists))

pub returns-in-Err-open-clause-crash_err : goal.returns-in-Err-open-clause-crash_err
returns-in-Err-open-clause-crash_err g c calls decoded clean f now =
    let reading = c.in-Ok.found.0 in
    let file = g.D.Disk.seen c.args.disk in
    let is : IsDecodedFrom file reading = c.in-Ok.ensures.reading (subst (λ b. IsTrue b) c.in-Err-open.ensures.clean_err clean) in
    let decodes = reading_decodes file reading is in
    let was = decoded file (g.met.D.Disk.seen_may_stay c.args.disk) in
    decodes_too (new_limits c.args.wanted) (texts_of reading.texts.items) calls file decodes was f
    (c.in-Err-open.ensures.crash (subst (λ f. IsDecodedFrom f reading) (sym c.in-Ok.ensures.seen) is) c.in-Ok.ensures.synced f now)
    (λ none. c.in-Err-open.ensures.long_err c.in-Ok.ensures.synced max_untitled_len
    (subst (λ (l : List ℕ). length l ≤ max_untitled_len) (sym c.in-Ok.ensures.seen) (decoded_short (new_limits c.args.wanted) (texts_of reading.texts.items) calls file decodes was none))
    (omega (arith, no_bytes file reading is none)) f now)

pub returns-in-Ok-ensure_title-clause-persists : goal.returns-in-Ok-ensure_title-clause-persists
returns-in-Ok-ensure_title-clause-persists g c clean =
    let at = goal.at.returns-in-Ok-ensure_title-clause-persists g c in
    let book = c.in-Ok.found.1 in
    let is = c.in-Ok.ensures.reading (subst (λ b. IsTrue b) (c.in-Ok-ensure_title.ensures.clean ∙ c.in-Ok-open.ensures.clean) clean) in
    let titled = all g at.In-Ok-ensure_title (persists g at.After-ensure_title is) in
    record {
      accepted = record {
        range = c.in-Ok.ensures.recovered.range;
        can = c.in-Ok.ensures.recovered.can;
        legal = legal_alone book c.history-durable_count.ensures.first c.history-durable_count.ensures.legal;
      };
      texts = record { texts = titled.all; are = titled.are (accepted_of book c.in-Ok.found.2) c.in-Ok.ensures.recovered.are; persists = titled.persists };
      count_is = ap length c.history-durable_count.ensures.value ∙ counted book.calls;
      notes_is = ap length c.placed-durable_notes.ensures.exact;
    }

pub returns-in-Ok-ensure_title-clause-crash : goal.returns-in-Ok-ensure_title-clause-crash
returns-in-Ok-ensure_title-clause-crash g c calls decoded clean f now =
    let at = goal.at.returns-in-Ok-ensure_title-clause-crash g c in
    let reading = c.in-Ok.found.0 in
    let texts = texts_of reading.texts.items in
    let file = g.D.Disk.seen c.args.disk in
    let is = c.in-Ok.ensures.reading (subst (λ b. IsTrue b) (c.in-Ok-ensure_title.ensures.clean ∙ c.in-Ok-open.ensures.clean) clean) in
    let log = c.in-Ok-ensure_title.log in
    let titled = all g at.In-Ok-ensure_title (persists g at.After-ensure_title is) in
    store_decodes (new_limits c.args.wanted) calls titled.all f
    (titled.are calls (as_read (new_limits c.args.wanted) texts calls file (reading_decodes file reading is) (decoded file (g.met.D.Disk.seen_may_stay c.args.disk))))
    (log_decodes g.D.Disk.seen g.D.Disk.may_leave titled.all (disk_of log) log.length log.digest titled.persists f now)

pub returns-clause-crash_err : goal.returns-clause-crash_err
returns-clause-crash_err g c calls decoded clean f now =
    let then = (goal.at.returns-clause-crash_err g c).After-ensure_title in
    let reading = c.in-Ok.found.0 in
    let texts = texts_of reading.texts.items in
    let file = g.D.Disk.seen c.args.disk in
    let is = c.in-Ok.ensures.reading (subst (λ b. IsTrue b) (c.in-Err-ensure_title.ensures.clean_err ∙ c.in-Ok-open.ensures.clean) clean) in
    let decodes = reading_decodes file reading is in
    let was = decoded file (g.met.D.Disk.seen_may_stay c.args.disk) in
    subst (λ (limits : Bounds). DecodesToCalls limits calls f) c.new_limits.ensures.exact
    (c.in-Err-ensure_title.ensures.crash calls (anew g then (texts_of c.deref.result.now) calls (subst (λ ts. AreTexts (new_limits c.args.wanted) ts calls) (handed g then) (as_read (new_limits c.args.wanted) texts calls file decodes was))) (persists g then is)
    (λ none. c.in-Ok-open.ensures.long c.in-Ok.ensures.synced max_untitled_len
    (subst (λ (l : List ℕ). length l ≤ max_untitled_len) (sym c.in-Ok.ensures.seen) (decoded_short (new_limits c.args.wanted) texts calls file decodes was (handed g then ∙ none)))
    (omega (arith, no_bytes file reading is (handed g then ∙ none))) (g.D.Disk.seen (disk_of c.in-Ok-open.log)) (g.met.D.Disk.seen_may_stay (disk_of c.in-Ok-open.log))) f now)

pub returns-in-Err-open-clause-refused : goal.returns-in-Err-open-clause-refused
returns-in-Err-open-clause-refused g c clean =
    unclosed_unopened (g.D.Disk.is_usable c.args.disk) (g.D.Disk.is_usable c.recover.new.disk) c.args.wanted c.in-Err-open.fault (g.D.Disk.seen c.args.disk) c.in-Ok.ensures.usable c.in-Err-open.ensures.fault

pub returns-clause-refused : goal.returns-clause-refused
returns-clause-refused g c clean =
    let then = (goal.at.returns-clause-refused g c).After-ensure_title in
    let is = c.in-Ok.ensures.reading (subst (λ b. IsTrue b) (c.in-Err-ensure_title.ensures.clean_err ∙ c.in-Ok-open.ensures.clean) clean) in
    untitled_unopened (g.D.Disk.is_usable c.args.disk) c.args.wanted c.in-Err-ensure_title.failed.0 (g.D.Disk.seen c.args.disk) (c.in-Err-ensure_title.ensures.untitled (persists g then is) (c.in-Ok-open.ensures.usable c.in-Ok.ensures.usable))

pub returns-in-Err-open-clause-preserved : goal.returns-in-Err-open-clause-preserved
returns-in-Err-open-clause-preserved g c clean refused =
    let is = c.in-Ok.ensures.reading (subst (λ b. IsTrue b) c.in-Err-open.ensures.clean_err clean) in
    absurd (recovered_unrefused c.args.wanted (g.D.Disk.seen c.args.disk) c.in-Ok.found.0 c.in-Ok.found.1 c.in-Ok.found.2 is c.in-Ok.ensures.short c.in-Ok.ensures.recovered c.history-durable_count.ensures.first c.history-durable_count.ensures.legal refused)

pub returns-clause-preserved : goal.returns-clause-preserved
returns-clause-preserved g c clean refused =
    let is = c.in-Ok.ensures.reading (subst (λ b. IsTrue b) (c.in-Err-ensure_title.ensures.clean_err ∙ c.in-Ok-open.ensures.clean) clean) in
    absurd (recovered_unrefused c.args.wanted (g.D.Disk.seen c.args.disk) c.in-Ok.found.0 c.in-Ok.found.1 c.in-Ok.found.2 is c.in-Ok.ensures.short c.in-Ok.ensures.recovered c.history-durable_count.ensures.first c.history-durable_count.ensures.legal refused)
