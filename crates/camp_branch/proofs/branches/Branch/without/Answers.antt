use Rattle.std.proofs.lemmas.Result.{err_from_is_err_and}
use Rattle.std.proofs.lemmas.List.Sums.{prefix_len-le-length}
use Rattle.camp_catch.proofs.Making.{blocks_too}
use Rattle.camp_branch.proofs.Words.{◌≡◌, ◌&&◌, ℕ, List, not, length, ap, drop, subst, ◌∙◌, arith, slice_cmp, nat_cmp, contains_key, map_of, IsLawfulBranch, names_in, front_before, has_patch, is_among, name_of}
use Rattle.camp_branch.proofs.Fronts.{StaysInFront, front_depends, front_is_before, front_lawful, front_named, front_stays}
use Rattle.camp_branch.proofs.NamesKept.{stays_by}
use Rattle.camp_branch.proofs.NewEnds.{end_arranged}
use Rattle.camp_branch.proofs.branches.Branch.without.Goals as goal
use Rattle.camp_branch.proofs.branches.Branch.without.Goals.{After-deref}

pub catches_from-requires : goal.catches_from-requires
catches_from-requires c =
    let within = prefix_len-le-length (λ k. not (is_among (names_in c.args.names.now) (name_of k))) c.self.inside.catches in
    omega (c.front_before-start.ensures, within, arith)

pub with_end-requires-clause-within : goal.with_end-requires-clause-within
with_end-requires-clause-within c =
    let within = prefix_len-le-length (λ k. not (is_among (names_in c.args.names.now) (name_of k))) c.self.inside.catches in
    let long = ap length c.self.view_is in
    omega (c.front_before-start.ensures, long, within, arith)

-- a patch stays where the branch has it and it is none of those that go
stays : (c : After-deref) (n : List ℕ) → contains_key (map_of (slice_cmp nat_cmp) c.in_ok-staying.staying) n ≡ (has_patch c.args.self.now n && not (is_among (names_in c.args.names.now) n))
stays c = stays_by (map_of (slice_cmp nat_cmp) c.self.inside.names) _ c.self.inside.catches c.args.self.now (names_in c.args.names.now) c.self.invariant.named c.self.view_is c.in_ok-staying.ensures

-- the catches after the unchanged prefix
front : (c : After-deref) → StaysInFront c.args.self.now (names_in c.args.names.now) (map_of (slice_cmp nat_cmp) c.in_ok-staying.staying) c.front_before-start.result c.deref.result.now
front c = record {
  stays = stays c;
  at = c.front_before-start.ensures ∙ ap (front_before (names_in c.args.names.now)) c.self.view_is ∙ front_is_before c.args.self.now (names_in c.args.names.now) (map_of (slice_cmp nat_cmp) c.in_ok-staying.staying) (stays c);
  is = c.deref.ensures.value ∙ c.in_ok-rest.ensures ∙ ap (drop c.front_before-start.result) c.self.view_is;
}

pub with_end-requires-clause-lawful : goal.with_end-requires-clause-lawful
with_end-requires-clause-lawful c =
    let stays = front (goal.at.with_end-requires-clause-lawful c).After-deref in
    let arranged = c.in_ok-arranged.ensures.exact in
    rw c.deref-2.ensures.value (front_lawful _ _ _ _ _ stays c.in_ok-arranged.arranged.first.items c.in_ok-arranged.arranged.rest.items arranged (subst IsLawfulBranch c.self.view_is c.self.invariant.lawful))

pub with_end-requires-clause-named : goal.with_end-requires-clause-named
with_end-requires-clause-named c name =
    let stays = front (goal.at.with_end-requires-clause-named c).After-deref in
    let arranged = c.in_ok-arranged.ensures.exact in
    rw c.deref-2.ensures.value (front_named _ _ _ _ _ stays c.in_ok-arranged.arranged.first.items c.in_ok-arranged.arranged.rest.items arranged (subst IsLawfulBranch c.self.view_is c.self.invariant.lawful) name)

pub returns : goal.returns
returns c =
    let stays = front (goal.at.returns c).After-deref in
    let arranged = c.in_ok-arranged.ensures.exact in
    record {
      exact = rw (c.in_ok-with_end.ensures, c.deref-2.ensures.value) (front_stays _ _ _ _ _ stays c.in_ok-arranged.arranged.first.items c.in_ok-arranged.arranged.rest.items arranged);
    }

pub returns-in_err-arranged : goal.returns-in_err-arranged
returns-in_err-arranged c =
    let stays = front (goal.at.returns-in_err-arranged c).After-deref in
    let p = err_from_is_err_and c.from_residual-in_err-arranged.result c.from_residual-in_err-arranged.ensures.1 in
    record { exact = rw (p.1, p.2) (blocks_too c.in_err-arranged.field-0.0 c.in_err-arranged.ensures.exact (λ blocked w. front_depends _ _ _ _ _ stays blocked w)) }

pub with_end-requires-clause-reordered : goal.with_end-requires-clause-reordered
with_end-requires-clause-reordered c tree leads =
    let stays = front (goal.at.with_end-requires-clause-reordered c).After-deref in
    let arranged = c.in_ok-arranged.ensures.exact in
    rw (c.deref-2.ensures.value, c.deref-3.ensures.value) (end_arranged (names_in c.in_ok-staying.staying) c.args.self.now c.deref.result.now c.in_ok-arranged.arranged.first.items c.in_ok-arranged.arranged.rest.items c.front_before-start.result tree stays.is arranged leads)
