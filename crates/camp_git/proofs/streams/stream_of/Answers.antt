use Rattle.camp_git.proofs.Words.{◌∙◌, ◌<◌, ap, arith, length, subst}
use Rattle.camp_branch.specs.Branches.{name_of}
use Rattle.camp_catch.specs.Catches.{FitsAll}
use Rattle.camp_git.specs.Inside.Streams.{AddsCommit}
use Rattle.camp_git.proofs.Ends.{ends_stream, stops}
use Rattle.camp_git.proofs.Streaming.{all_told, begin_told, step_bad, step_fits, step_told}
use Rattle.camp_git.proofs.streams.stream_of.Goals as goal

pub loop-at-init : goal.loop-at-init
loop-at-init c = record {
  told = begin_told c.args.name.now c.args.branch.now c.new-text.result.items c.empty-tree.result c.catches-catches.ensures.lawful c.new-text.ensures.items c.empty-tree.ensures.exact;
  within = omega arith;
}

pub step_over-requires : goal.step_over-requires
step_over-requires c =
    let within : c.loop-at.at < length c.catches-catches.result.now = omega (arith, c.loop-at-test.true, c.len.ensures.exact) in
    record {
      fits = step_fits c.args.name.now c.args.branch.now c.catches-catches.result.now c.catches-catches.ensures.value c.loop-at.at c.patch_end-end.result c.loop-at.text.items c.loop-at.tree c.loop-at.invariant.told within c.patch_end-end.ensures.exact c.deref.result.now (c.deref.ensures.value ∙ c.in_ok-patch.ensures.exact);
    }

pub returns-in_err-append_step : goal.returns-in_err-append_step
returns-in_err-append_step c =
    let within : c.loop-at.at < length c.catches-catches.result.now = omega (arith, c.loop-at-test.true, c.len.ensures.exact) in
    stops c.args.name.now c.args.branch.now c.from_residual-in_err-append_step.result c.in_err-append_step.field-0.0 c.from_residual-in_err-append_step.ensures.1
    (ends_stream {A = Unit {0}} (λ done. AddsCommit (record { branch = c.args.name.now; name = c.name.result.now; mark = c.patch_end-end.result; from = c.loop-at.at }) c.loop-at.tree c.in_ok-step.step.tree c.loop-at.text.items c.append_step.new.text.items) c.name.result.now c.in_ok-step.step.tree c.args.name.now c.args.branch.now c.in_err-append_step.field-0.0 c.in_err-append_step.ensures
    (step_bad c.args.name.now c.args.branch.now c.catches-catches.result.now c.catches-catches.ensures.value c.loop-at.at c.patch_end-end.result c.loop-at.text.items c.loop-at.tree c.loop-at.invariant.told within c.patch_end-end.ensures.exact c.in_ok-patch.patch.items c.in_ok-patch.ensures.exact
    c.index.result.now c.index.ensures c.name.result.now (c.name.ensures.exact ∙ ap name_of c.deref-in-loop-at.ensures) c.in_ok-step.step.tree (subst (λ l. FitsAll l c.loop-at.tree c.in_ok-step.step.tree) c.deref.ensures.value c.in_ok-step.ensures.fits)))

pub loop-at-preserved : goal.loop-at-preserved
loop-at-preserved c =
    let within : c.loop-at.at < length c.catches-catches.result.now = omega (arith, c.loop-at-test.true, c.len.ensures.exact) in
    record {
      told = step_told c.args.name.now c.args.branch.now c.catches-catches.result.now c.catches-catches.ensures.value c.loop-at.at c.patch_end-end.result c.loop-at.text.items c.loop-at.tree c.loop-at.invariant.told within c.patch_end-end.ensures.exact c.in_ok-patch.patch.items c.in_ok-patch.ensures.exact
          c.index.result.now c.index.ensures c.name.result.now (c.name.ensures.exact ∙ ap name_of c.deref-in-loop-at.ensures) c.in_ok-step.step.tree (subst (λ l. FitsAll l c.loop-at.tree c.in_ok-step.step.tree) c.deref.ensures.value c.in_ok-step.ensures.fits) c.append_step.new.text.items c.in_ok-append_step.ensures;
      within = omega (arith, c.patch_end-end.ensures.within, ap length c.catches-catches.ensures.value);
    }

pub returns : goal.returns
returns c =
    all_told c.args.name.now c.args.branch.now c.loop-at.at c.loop-at.text.items c.loop-at.tree c.loop-at.invariant.told (omega (arith, c.loop-at-test.false, c.len.ensures.exact, ap length c.catches-catches.ensures.value))
