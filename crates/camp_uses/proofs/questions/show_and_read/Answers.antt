use Rattle.camp_uses.proofs.Words.{ap, ◌∙◌, PatchContents}
use Rattle.camp_call.specs.declared.calls.Call.TheVariants as call
use Rattle.camp_uses.proofs.Questioned.{shown_is}
use Rattle.camp_uses.proofs.ReadBack.{shown_reads_back}
use Rattle.camp_uses.proofs.questions.show_and_read.Goals as goal

pub returns : goal.returns
returns c = record {
  same =
      let shown = shown_is c.args.state.now c.args.branch.now c.args.name.now c.in_ok-shown.shown c.in_ok-shown.ensures.exact in
      let recorded = c.in-Some.ensures.exact in
      let changes = c.into_changes.ensures.value ∙ ap (λ (patch : PatchContents). patch.changes) shown.2 in
      let written = c.deref.ensures.value ∙ c.in_ok-text.ensures.text in (
        shown.0,
        shown.1,
        shown_reads_back c.canonical_text_reads_back.ensures.law c.in-Some.call c.args.to.now c.args.name.now _ c.deref.result.now c.in-Ok.script (recorded.0 ∙ ap (call.Record c.args.to.now c.args.name.now) changes) c.in_ok-text.ensures.stands written c.in-Ok.ensures.given,
      );
}
