use Rattle.camp_repo.proofs.Words.{◌≡◌, cond, ap, ◌∙◌, ◌++◌, [], ◌∷◌, length, list_any, bytes_eq, sym, subst, AllHold, IsLawfulState}
use Rattle.camp_repo.proofs.BeginningSteps.{all_copied}
use Rattle.camp_repo.proofs.StateSteps.{grown_as_long, grown_state}
use Rattle.camp_repo.proofs.states.State.with_copy.Goals as goal

pub invariant_of-result : goal.invariant_of-result
invariant_of-result c =
    let inserted = subst (λ s. c.in_ok-names.names.keys ≡ cond (list_any (bytes_eq c.args.name.now) s.keys) s.keys (s.keys ++ c.args.name.now ∷ [])) c.deref.ensures c.in_ok-names.ensures in
    let pushed = c.in_ok-branches.ensures in
    let own = subst (λ s. AllHold s.branches c.self.inside.known) c.self.view_is c.self.invariant.known in
    let known = all_copied c.args.self.now.branches c.args.name.now c.args.place c.len.result c.len-2.result c.args.branch.now c.requires.at c.len.ensures (c.len-2.ensures.exact ∙ ap length c.catches.ensures.value) c.self.inside.known own c.in_ok-known.known c.in_ok-known.ensures in
    let grown = grown_state c.self.inside.names.keys c.self.inside.branches c.self.inside.count c.self.inside.limits c.args.self.now c.self.view_is c.self.invariant.as_many c.args.name.now c.args.branch.now c.in_ok-names.names.keys c.in_ok-branches.branches c.requires.fresh inserted pushed in
    record {
      as_many = grown_as_long c.self.inside.names.keys c.self.inside.branches c.self.inside.count c.self.inside.limits c.args.self.now c.self.view_is c.self.invariant.as_many c.args.name.now c.args.branch.now c.in_ok-names.names.keys c.in_ok-branches.branches c.requires.fresh inserted pushed;
      lawful = subst IsLawfulState (sym grown) c.requires.lawful;
      known = subst (λ s. AllHold s.branches c.in_ok-known.known) (sym grown) known;
    }

pub returns : goal.returns
returns c =
    let inserted = subst (λ s. c.in_ok-names.names.keys ≡ cond (list_any (bytes_eq c.args.name.now) s.keys) s.keys (s.keys ++ c.args.name.now ∷ [])) c.deref.ensures c.in_ok-names.ensures in
    let pushed = c.in_ok-branches.ensures in
    grown_state c.self.inside.names.keys c.self.inside.branches c.self.inside.count c.self.inside.limits c.args.self.now c.self.view_is c.self.invariant.as_many c.args.name.now c.args.branch.now c.in_ok-names.names.keys c.in_ok-branches.branches c.requires.fresh inserted pushed
