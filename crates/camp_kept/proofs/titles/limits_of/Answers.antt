use Rattle.std.proofs.Common.{rules, ◌≡◌, ◌∙◌, ◌∷◌, false, subst, sym, true≢false}
use Rattle.camp_kept.specs.Faults.{HasOtherLimits}
use Rattle.camp_kept.proofs.Refusing.{another_title}
use Rattle.camp_repo.proofs.SameLimits.{same_bounds}
use Rattle.camp_repo.specs.Limits.{Bounds}
use Rattle.camp_store.specs.Blocks.{DecodesTo}
use Rattle.camp_kept.proofs.titles.limits_of.Goals as goal

pub returns-in_default-clause-refused : goal.returns-in_default-clause-refused
returns-in_default-clause-refused c texts file decodes =
    let none = rw c.in_default.is at c.in_ok-limits.ensures.exact in
    another_title c.args.wanted.now c.args.title.now texts none file decodes

pub returns-then-not-are_wanted-clause-refused : goal.returns-then-not-are_wanted-clause-refused
returns-then-not-are_wanted-clause-refused c texts file decodes =
    let says = rw c.in-Some.is at c.in_ok-limits.ensures.exact in
    let no : c.are_wanted.result ≡ false = search rules in
    let decoded : Bounds = record { catches = c.catches.result; branches = c.branches.result } in
    let same : c.in-Some.limits ≡ decoded = same_bounds c.in-Some.limits decoded (sym c.catches.ensures.value) (sym c.branches.ensures.value) in
    subst (λ (limits : Bounds). HasOtherLimits c.args.wanted.now limits file) same
    (record {
      range = says.1;
      texts = texts;
      decodes = subst (λ title. DecodesTo (title ∷ texts) file) (sym says.0) decodes;
      unwanted = λ are. true≢false (sym (c.are_wanted.ensures.1 are) ∙ no);
    })
