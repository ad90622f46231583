use Rattle.std.proofs.Common.{◌≡◌, ◌∙◌, ◌+◌, ◌++◌, ◌∷◌, [], ℕ, List, Ok, ap, length, map, arith, rules, subst, sym}
use Rattle.std.specs.Borrow.{Bor}
use Rattle.std.proofs.lemmas.Result.{err_from_is_err_and}
use Rattle.std.proofs.lemmas.List.{map_push}
use Rattle.camp_coding.specs.declared.modes.Mode.TheVariants.{Regular}
use Rattle.camp_stream.specs.CommandValues.{value_of_change}
use Rattle.camp_stream.specs.declared.commands.FileChange.{FileChange}
use Rattle.camp_stream.specs.declared.commands.FileChange.TheVariants as change
use Rattle.camp_commits.specs.Resolving.{FailsBy, at_index, resolved_change, value_of_entry}
use Rattle.camp_commits.proofs.EachLemmas.{all_done, element_at, fails_there, one_more}
use Rattle.camp_commits.proofs.changes.resolve_changes.Goals as goal

abbrev nothing : Bor (List ℕ)
nothing = record { ref_ptr = (0, 0); now = [] }

-- what stands for an element past the end
abbrev none : FileChange
none = change.Set Regular nothing nothing

pub returns-in_err-next : goal.returns-in_err-next
returns-in_err-next c =
    let p = err_from_is_err_and c.from_residual.result c.from_residual.ensures.1 in
    let len : c.len.result ≡ length c.loop-change.resolved.items = search rules in
    let index : c.len.result ≡ c.loop-change.change-index = len ∙ c.loop-change.invariant.0 in
    rw (p.1, p.2)
    (fails_there value_of_change (λ index change. at_index index (resolved_change c.args.objects.now.marks change)) c.args.changes.now c.loop-change.change-index (map value_of_entry c.loop-change.resolved.items) _ c.loop-change.invariant.1
    c.in_err-next.field-0.0 none (omega arith)
    (subst (λ (i : ℕ). FailsBy c.in_err-next.field-0.0 (at_index i (resolved_change c.args.objects.now.marks (value_of_change (element_at c.args.changes.now c.loop-change.change-index none))))) index c.in_err-next.ensures))

pub loop-change-preserved : goal.loop-change-preserved
loop-change-preserved c =
    let len : c.len.result ≡ length c.loop-change.resolved.items = search rules in
    let index : c.len.result ≡ c.loop-change.change-index = len ∙ c.loop-change.invariant.0 in
    let one : at_index c.loop-change.change-index (resolved_change c.args.objects.now.marks (value_of_change (element_at c.args.changes.now c.loop-change.change-index none))) ≡ Ok (value_of_entry c.in_ok-next.next) =
    ap (λ (i : ℕ). at_index i (resolved_change c.args.objects.now.marks (value_of_change (element_at c.args.changes.now c.loop-change.change-index none)))) (sym index) ∙ c.in_ok-next.ensures in
    let pushed : map value_of_entry c.push.new.self.items ≡ map value_of_entry c.loop-change.resolved.items ++ (value_of_entry c.in_ok-next.next) ∷ [] =
    rw c.in_ok-push.ensures.items (map_push _ c.loop-change.resolved.items c.in_ok-next.next) in
    let more : length c.push.new.self.items ≡ length c.loop-change.resolved.items + 1 = rw c.in_ok-push.ensures.items (search rules) in (
      more ∙ ap (λ (n : ℕ). n + 1) c.loop-change.invariant.0,
      rw pushed
          (one_more value_of_change (λ index change. at_index index (resolved_change c.args.objects.now.marks change)) c.args.changes.now c.loop-change.change-index (map value_of_entry c.loop-change.resolved.items) _ c.loop-change.invariant.1
          none (value_of_entry c.in_ok-next.next) (omega arith) one),
    )

pub returns : goal.returns
returns c =
    all_done value_of_change (λ index change. at_index index (resolved_change c.args.objects.now.marks change)) c.args.changes.now c.loop-change.change-index (map value_of_entry c.loop-change.resolved.items) _ c.loop-change.invariant.1 (omega arith)
