use Rattle.std.proofs.Common.{◌≡◌, ◌∙◌, ◌∷◌, ap, subst, sym}
use Rattle.std.proofs.lemmas.Result.{IfOk-weaker}
use Rattle.camp_kept.specs.Replaying.{AreRecovered}
use Rattle.camp_kept.specs.Titles.{title_of}
use Rattle.camp_kept.proofs.ReplayLemmas.{recovered}
use Rattle.camp_kept.proofs.Refusing.{refused_so}
use Rattle.camp_store.specs.Blocks.{DecodesTo}
use Rattle.camp_store.specs.Logs.{texts_of}
use Rattle.camp_kept.proofs.replays.replay.Goals as goal

pub returns-in_err-limits-clause-refused : goal.returns-in_err-limits-clause-refused
returns-in_err-limits-clause-refused c =
    let others = texts_of c.in-Some.others.now in
    let e : texts_of c.args.texts.now ≡ c.deref.result.now ∷ others =
    ap texts_of c.in-Some.ensures.cases.0 ∙ ap (λ t. t ∷ others) (sym c.deref.ensures.value) in
    refused_so c.args.wanted.now c.from_residual-in_err-limits.result c.in_err-limits.field-0.0 (λ file. DecodesTo (texts_of c.args.texts.now) file) c.from_residual-in_err-limits.ensures.1
    (λ file decodes. c.in_err-limits.ensures.refused others file (subst (λ ts. DecodesTo ts file) e decodes))

pub returns-clause-recovered : goal.returns-clause-recovered
returns-clause-recovered c =
    let others = texts_of c.in-Some.others.now in
    let limits = c.in_ok-limits.limits in
    let says = c.in_ok-limits.ensures.says in
    let e : texts_of c.args.texts.now ≡ title_of limits ∷ others =
    ap texts_of c.in-Some.ensures.cases.0 ∙ ap (λ t. t ∷ others) (sym c.deref.ensures.value ∙ sym says.0) in
    IfOk-weaker c.replay_all.result _ _
    (λ r asked. subst (λ ts. AreRecovered c.args.wanted.now ts r.0 r.1) (sym e) (recovered c.args.wanted.now limits others r.0 r.1 says.1 c.in_ok-limits.ensures.wanted asked))
    c.replay_all.ensures.texts
