use Rattle.std.proofs.Common.{rules, ◌≡◌, [], length, ap, subst, sym}
use Rattle.std.proofs.lemmas.List.{nil_from_length}
use Rattle.std.proofs.lemmas.Result.{IfErr-weaker, IfOk-weaker}
use Rattle.camp_kept.specs.Openings.{PersistsTitled}
use Rattle.camp_kept.specs.Persisting.{AreTexts, DecodesToCalls}
use Rattle.camp_kept.proofs.Opening.{no_calls}
use Rattle.camp_store.specs.Logs.{PersistsTexts, texts_of}
use Rattle.camp_kept.proofs.openings.ensure_title.Goals as goal

pub returns-clause-persists : goal.returns-clause-persists
returns-clause-persists g c =
    let zero : length c.args.texts.now ≡ 0 = search rules in
    let none : texts_of c.args.texts.now ≡ [] = ap texts_of (nil_from_length c.args.texts.now zero) in
    IfOk-weaker c.append_title.result _ _
    (λ new persists before.
    subst (λ ts. PersistsTitled g.D.Disk.seen g.D.Disk.may_leave c.args.limits ts new) (sym none)
    (persists (subst (λ ts. PersistsTexts g.D.Disk.seen g.D.Disk.may_leave ts c.args.log) none before)))
    c.append_title.ensures.persists

pub returns-clause-crash : goal.returns-clause-crash
returns-clause-crash g c =
    let zero : length c.args.texts.now ≡ 0 = search rules in
    let none : texts_of c.args.texts.now ≡ [] = ap texts_of (nil_from_length c.args.texts.now zero) in
    IfErr-weaker c.append_title.result _ _
    (λ e crash calls are persists short f now.
    subst (λ l. DecodesToCalls c.args.limits l f) (sym (no_calls c.args.limits calls (subst (λ ts. AreTexts c.args.limits ts calls) none are)))
    (crash (subst (λ ts. PersistsTexts g.D.Disk.seen g.D.Disk.may_leave ts c.args.log) none persists) (short none) f now))
    c.append_title.ensures.crash

pub returns-clause-untitled : goal.returns-clause-untitled
returns-clause-untitled g c =
    let zero : length c.args.texts.now ≡ 0 = search rules in
    let none : texts_of c.args.texts.now ≡ [] = ap texts_of (nil_from_length c.args.texts.now zero) in
    IfErr-weaker c.append_title.result _ _
    (λ e untitled persists may. untitled (subst (λ ts. PersistsTexts g.D.Disk.seen g.D.Disk.may_leave ts c.args.log) none persists) may)
    c.append_title.ensures.untitled
