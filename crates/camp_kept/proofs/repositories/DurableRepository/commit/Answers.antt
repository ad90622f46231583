use Rattle.std.proofs.Common.{rules, arith, ◌≡◌, false, inl, inr, ◌∙◌, ◌++◌, length, ap, subst, sym, true≢false}
use Rattle.camp_kept.proofs.Committing.{calls_wait, commit_refused, committed, counted, crash_leaves_store, entries_wait, is_either, misplaced_wait, not_fewer, not_misplaced, stopped_log}
use Rattle.camp_kept.specs.Persisting.{AreWaitingTexts, accepted_by}
use Rattle.camp_store.specs.Logs.{may_append, texts_of}
use Rattle.camp_kept.proofs.repositories.DurableRepository.commit.Goals as goal

pub returns-clause-acknowledged : goal.returns-clause-acknowledged
returns-clause-acknowledged g c stored front persists =
    let repository = c.args.self.now in
    let new = texts_of c.deref.result.now in
    let wait =
    subst (λ ts. AreWaitingTexts repository ts) (ap texts_of (sym c.deref.ensures.value))
    (entries_wait repository c.history-history.result.now c.placed-notes.result.now c.history-history.ensures.value c.placed-notes.ensures.exact (texts_of c.in_ok-texts.texts.items) c.in_ok-texts.ensures.entries) in
    let stand = calls_wait repository c.history-history.result.now c.history-history.ensures.value c.in_ok-texts.ensures.stand in
    let made =
    committed stored repository c.history-history.ensures.first c.history-history.ensures.legal persists.count_is persists.notes_is persists.accepted front persists.texts.texts persists.texts.are new wait stand in
    record {
      accepted = made.0;
      texts = record { texts = persists.texts.texts ++ new; are = made.1; persists = c.in_ok-append.ensures.acknowledged persists.texts.texts persists.texts.persists };
      count_is = ap length c.history-history.ensures.value ∙ counted repository.book.calls;
      notes_is = ap length c.placed-notes.ensures.exact;
    }

pub returns-clause-crash : goal.returns-clause-crash
returns-clause-crash g c stored front persists f now =
    let repository = c.args.self.now in
    let new = texts_of c.deref.result.now in
    let wait =
    subst (λ ts. AreWaitingTexts repository ts) (ap texts_of (sym c.deref.ensures.value))
    (entries_wait repository c.history-history.result.now c.placed-notes.result.now c.history-history.ensures.value c.placed-notes.ensures.exact (texts_of c.in_ok-texts.texts.items) c.in_ok-texts.ensures.entries) in
    let stand = calls_wait repository c.history-history.result.now c.history-history.ensures.value c.in_ok-texts.ensures.stand in
    let made =
    committed stored repository c.history-history.ensures.first c.history-history.ensures.legal persists.count_is persists.notes_is persists.accepted front persists.texts.texts persists.texts.are new wait stand in
    is_either stored (accepted_by repository) persists.texts.texts new persists.accepted made.0 persists.texts.are made.1 f (c.append.ensures.crash persists.texts.texts persists.texts.persists f now)

pub returns-in_err-append-clause-crash : goal.returns-in_err-append-clause-crash
returns-in_err-append-clause-crash g c stored front persists f now =
    let repository = c.args.self.now in
    let new = texts_of c.deref.result.now in
    let wait =
    subst (λ ts. AreWaitingTexts repository ts) (ap texts_of (sym c.deref.ensures.value))
    (entries_wait repository c.history-history.result.now c.placed-notes.result.now c.history-history.ensures.value c.placed-notes.ensures.exact (texts_of c.in_ok-texts.texts.items) c.in_ok-texts.ensures.entries) in
    let stand = calls_wait repository c.history-history.result.now c.history-history.ensures.value c.in_ok-texts.ensures.stand in
    let made =
    committed stored repository c.history-history.ensures.first c.history-history.ensures.legal persists.count_is persists.notes_is persists.accepted front persists.texts.texts persists.texts.are new wait stand in
    is_either stored (accepted_by repository) persists.texts.texts new persists.accepted made.0 persists.texts.are made.1 f (c.append.ensures.crash persists.texts.texts persists.texts.persists f now)

pub returns-then-count-self-clause-crash : goal.returns-then-count-self-clause-crash
returns-then-count-self-clause-crash g c stored front persists f now =
    inl (crash_leaves_store g.D.Disk.seen g.D.Disk.may_leave stored c.args.self.now persists f now)

pub returns-then-given-self-clause-crash : goal.returns-then-given-self-clause-crash
returns-then-given-self-clause-crash g c stored front persists f now =
    inl (crash_leaves_store g.D.Disk.seen g.D.Disk.may_leave stored c.args.self.now persists f now)

pub returns-then-not-are_in_place-clause-crash : goal.returns-then-not-are_in_place-clause-crash
returns-then-not-are_in_place-clause-crash g c stored front persists f now =
    inl (crash_leaves_store g.D.Disk.seen g.D.Disk.may_leave stored c.args.self.now persists f now)

pub returns-in_err-texts-clause-crash : goal.returns-in_err-texts-clause-crash
returns-in_err-texts-clause-crash g c stored front persists f now =
    inl (crash_leaves_store g.D.Disk.seen g.D.Disk.may_leave stored c.args.self.now persists f now)

pub returns-in_err-append-clause-refused : goal.returns-in_err-append-clause-refused
returns-in_err-append-clause-refused g c =
    let repository = c.args.self.now in
    let wait =
    subst (λ ts. AreWaitingTexts repository ts) (ap texts_of (sym c.deref.ensures.value))
    (entries_wait repository c.history-history.result.now c.placed-notes.result.now c.history-history.ensures.value c.placed-notes.ensures.exact (texts_of c.in_ok-texts.texts.items) c.in_ok-texts.ensures.entries) in
    commit_refused g.D.Disk.is_usable repository c.from_residual-in_err-append.result c.in_err-append.field-0.0 (texts_of c.deref.result.now) c.from_residual-in_err-append.ensures.1 wait c.in_err-append.ensures.refused

pub returns-then-not-may_append-clause-refused : goal.returns-then-not-may_append-clause-refused
returns-then-not-may_append-clause-refused g c =
    let log = c.args.self.now.log in
    let stopped : may_append log ≡ false = search rules in
    inr (inr (stopped_log g.D.Disk.is_usable log stopped))

pub returns-then-not-are_in_place-clause-refused : goal.returns-then-not-are_in_place-clause-refused
returns-then-not-are_in_place-clause-refused g c =
    let no : c.are_in_place.result ≡ false = search rules in
    inr (inl (misplaced_wait c.args.self.now c.history-history.result.now c.placed-notes.result.now c.history-history.ensures.value c.placed-notes.ensures.exact
    (λ are. true≢false (sym (c.are_in_place.ensures.1 are) ∙ no))))

pub returns-in_err-append-clause-fewer : goal.returns-in_err-append-clause-fewer
returns-in_err-append-clause-fewer g c few =
    absurd (not_fewer c.args.self.now c.history-history.result.now c.placed-notes.result.now c.history-history.ensures.value c.placed-notes.ensures.exact (omega arith) (omega arith) few)

pub returns-in_err-append-clause-misplaced : goal.returns-in_err-append-clause-misplaced
returns-in_err-append-clause-misplaced g c misplaced =
    absurd (not_misplaced c.args.self.now c.history-history.result.now c.placed-notes.result.now c.history-history.ensures.value c.placed-notes.ensures.exact (c.are_in_place.ensures.0 c.if-not-are_in_place.false) misplaced)
