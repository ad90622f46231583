use Rattle.std.proofs.Common.{[], ℕ, List, arith}
use Rattle.std.specs.Borrow.{Bor}
use Rattle.std.proofs.lemmas.Result.{err_from_is_err_and}
use Rattle.camp_commits.specs.Resolving.{commit_named}
use Rattle.camp_commits.proofs.EachLemmas.{all_done, fails_there, one_more}
use Rattle.camp_commits.proofs.parents.further_parents.Goals as goal

-- what stands for an element past the end
abbrev none : Bor (List ℕ)
none = record { ref_ptr = (0, 0); now = [] }

pub returns-in_err-id : goal.returns-in_err-id
returns-in_err-id c =
    let p = err_from_is_err_and c.from_residual.result c.from_residual.ensures.1 in
    rw (p.1, p.2)
    (fails_there (λ (text : Bor (List ℕ)). text.now) (λ index text. commit_named c.args.objects.now text) c.args.texts.now c.loop-text.text-index c.loop-text.ids.items _ c.loop-text.invariant
    c.in_err-id.field-0.0 none (omega arith) c.in_err-id.ensures)

pub loop-text-preserved : goal.loop-text-preserved
loop-text-preserved c =
    rw c.in_ok-push.ensures.items
    (one_more (λ (text : Bor (List ℕ)). text.now) (λ index text. commit_named c.args.objects.now text) c.args.texts.now c.loop-text.text-index c.loop-text.ids.items _ c.loop-text.invariant
    none c.in_ok-id.id (omega arith) c.in_ok-id.ensures)

pub returns : goal.returns
returns c =
    all_done (λ (text : Bor (List ℕ)). text.now) (λ index text. commit_named c.args.objects.now text) c.args.texts.now c.loop-text.text-index c.loop-text.ids.items _ c.loop-text.invariant (omega arith)
