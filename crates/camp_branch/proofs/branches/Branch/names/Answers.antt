use Rattle.std.proofs.lemmas.Iterator.{YieldsList-from_map, items_from_collect}
use Rattle.std.proofs.lemmas.Iterator.Consumers.{YieldsList-at, YieldsList-from_filter, YieldsList-from_rest}
use Rattle.camp_branch.proofs.Words.{◌≡◌, ◌==◌, ap, ◌∙◌, subst, rules, tests, IfOk, Catch, catch_key, name_of, names_of}
use Rattle.camp_branch.proofs.BranchLabels.{starts_are_names}
use Rattle.camp_branch.proofs.branches.Branch.names.Goals as goal

pub returns : goal.returns
returns c =
    let catches = c.self.inside.catches in
    let lawful = c.self.invariant.lawful in record {
      exact = subst (λ l. IfOk c.collect.result (λ names. names.items ≡ l)) (starts_are_names catches lawful.patches lawful.has ∙ ap names_of c.self.view_is)
          (items_from_collect _ c.collect.ensures.ran
          (YieldsList-from_map {s = c.map.result} _ name_of
          (YieldsList-at c.map.ensures.source (YieldsList-from_filter {s = c.filter.result} _ (λ (k : Catch). (catch_key k).place == 1) (YieldsList-at c.filter.ensures.source (YieldsList-from_rest catches c.iter.ensures.rest)) c.filter.ensures.closure (λ x b q k. search (rules, tests))))
          c.map.ensures.closure (λ x r q k. search rules)));
    }
