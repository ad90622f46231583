use Rattle.camp_repo.proofs.Words.{◌≡◌, Outcome, PullGives, settled, ◌∙◌, Err, Next, Ok, ap, sym, slice_cmp, nat_cmp, map_of, names_in, listed, wanted, pulls_begin_with_own, refused, step_pull, is_full_with}
use Rattle.camp_call.specs.declared.calls.Call.TheVariants as call
use Rattle.camp_repo.proofs.ByMembers.{full_alike, none_alike, none_there}
use Rattle.camp_repo.proofs.DecideSteps.{next_lawful, pull_nothing, pull_settles, pull_too_large}
use Rattle.camp_repo.proofs.Effects.{wanted_is_lacked}
use Rattle.camp_repo.proofs.states.State.pull.Goals as goal
use Rattle.camp_repo.proofs.states.State.pull.Goals.{After-pulled_after_prefix}

pub returns-then-is_empty-clause-exact : goal.returns-then-is_empty-clause-exact
returns-then-is_empty-clause-exact c =
    let two = sym c.eq.ensures ∙ c.if-eq.false in
    let all = sym c.first_lacked.ensures ∙ c.in_default-first_lacked.is in
    let none = sym (none_alike (names_in c.in_ok-wanted.wanted) (wanted c.in-Some-find.ours.now (listed c.in-Some.theirs.now c.args.names.now)) c.in_ok-wanted.ensures) ∙ none_there (map_of (slice_cmp nat_cmp) c.in_ok-wanted.wanted) ∙ sym c.is_empty.ensures.exact ∙ c.if-is_empty.true in
    c.refused-then-is_empty.ensures ∙ pull_nothing c.args.self.now c.args.from.now c.args.to.now c.args.names.now c.in-Some.theirs.now c.in-Some-find.ours.now c.in-Some.ensures.value c.in-Some-find.ensures.value two all none

pub returns-then-is_full_with-clause-exact : goal.returns-then-is_full_with-clause-exact
returns-then-is_full_with-clause-exact c =
    let two = sym c.eq.ensures ∙ c.if-eq.false in
    let all = sym c.first_lacked.ensures ∙ c.in_default-first_lacked.is in
    let some = sym (none_alike (names_in c.in_ok-wanted.wanted) (wanted c.in-Some-find.ours.now (listed c.in-Some.theirs.now c.args.names.now)) c.in_ok-wanted.ensures) ∙ none_there (map_of (slice_cmp nat_cmp) c.in_ok-wanted.wanted) ∙ sym c.is_empty.ensures.exact ∙ c.if-is_empty.false in
    let full = sym (full_alike (names_in c.in_ok-wanted.wanted) (wanted c.in-Some-find.ours.now (listed c.in-Some.theirs.now c.args.names.now)) c.in_ok-wanted.ensures c.args.self.now.limits.catches c.in-Some-find.ours.now c.in-Some.theirs.now) ∙ sym (c.is_full_with.ensures ∙ ap (λ l. is_full_with l.catches c.in-Some-find.ours.now c.in-Some.theirs.now (names_in c.in_ok-wanted.wanted)) c.limits.ensures.exact) ∙ c.if-is_full_with.true in
    c.refused-then-is_full_with.ensures ∙ pull_too_large c.args.self.now c.args.from.now c.args.to.now c.args.names.now c.in-Some.theirs.now c.in-Some-find.ours.now c.in-Some.ensures.value c.in-Some-find.ensures.value two all some full

pub wanted-requires : goal.wanted-requires
wanted-requires c =
    c.agreed-known.ensures c.in-Some.theirs.now c.in-Some-find.ours.now c.in-Some.ensures.at c.in-Some-find.ensures.at

pub is_full_with-requires-clause-agree : goal.is_full_with-requires-clause-agree
is_full_with-requires-clause-agree c =
    c.agreed-known.ensures c.in-Some.theirs.now c.in-Some-find.ours.now c.in-Some.ensures.at c.in-Some-find.ensures.at

pub is_full_with-requires-clause-lacked : goal.is_full_with-requires-clause-lacked
is_full_with-requires-clause-lacked c name among =
    wanted_is_lacked c.in-Some-find.ours.now (listed c.in-Some.theirs.now c.args.names.now) name (sym (c.in_ok-wanted.ensures name) ∙ among)

pub agreed-requires : goal.agreed-requires
agreed-requires c = c.agreed-known.ensures c.in-Some.theirs.now c.in-Some-find.ours.now c.in-Some.ensures.at c.in-Some-find.ensures.at

pub pulled_after_prefix-requires-clause-lacked : goal.pulled_after_prefix-requires-clause-lacked
pulled_after_prefix-requires-clause-lacked c name among =
    wanted_is_lacked c.in-Some-find.ours.now (listed c.in-Some.theirs.now c.args.names.now) name (sym (c.in_ok-wanted.ensures name) ∙ among)

pub with_pulled-requires-clause-grown : goal.with_pulled-requires-clause-grown
with_pulled-requires-clause-grown c =
    let theirs = c.in-Some.theirs.now in
    let ours = c.in-Some-find.ours.now in
    let own = pulls_begin_with_own theirs ours c.in-Ok.pulled (names_in c.in_ok-wanted.wanted) c.in-Ok.ensures.exact in
    (theirs, ours, own.0, c.in-Some.ensures.at, c.in-Some-find.ensures.at, c.in_ok-agreed.ensures.agree, own.1)

-- the outcome of the pull decides the call
settles : (c : After-pulled_after_prefix) (outcome : Outcome) → PullGives c.in-Some.theirs.now c.in-Some-find.ours.now (names_in c.in_ok-wanted.wanted) outcome → settled c.args.self.now c.in-Some-find.place outcome ≡ step_pull c.args.self.now c.args.from.now c.args.to.now c.args.names.now
settles c =
    let two = sym c.eq.ensures ∙ c.if-eq.false in
    let all = sym c.first_lacked.ensures ∙ c.in_default-first_lacked.is in
    let some = sym (none_alike (names_in c.in_ok-wanted.wanted) (wanted c.in-Some-find.ours.now (listed c.in-Some.theirs.now c.args.names.now)) c.in_ok-wanted.ensures) ∙ none_there (map_of (slice_cmp nat_cmp) c.in_ok-wanted.wanted) ∙ sym c.is_empty.ensures.exact ∙ c.if-is_empty.false in
    let few = sym (full_alike (names_in c.in_ok-wanted.wanted) (wanted c.in-Some-find.ours.now (listed c.in-Some.theirs.now c.args.names.now)) c.in_ok-wanted.ensures c.args.self.now.limits.catches c.in-Some-find.ours.now c.in-Some.theirs.now) ∙ sym (c.is_full_with.ensures ∙ ap (λ l. is_full_with l.catches c.in-Some-find.ours.now c.in-Some.theirs.now (names_in c.in_ok-wanted.wanted)) c.limits.ensures.exact) ∙ c.if-is_full_with.false in
    λ outcome gives. pull_settles c.args.self.now c.args.from.now c.args.to.now c.args.names.now c.in-Some.theirs.now c.in-Some-find.ours.now c.in-Some.ensures.value c.in-Some-find.ensures.value two all some few (names_in c.in_ok-wanted.wanted) c.in_ok-wanted.ensures outcome gives c.in-Some-find.place c.in-Some-find.ensures.placed

pub with_pulled-requires-clause-lawful : goal.with_pulled-requires-clause-lawful
with_pulled-requires-clause-lawful c =
    next_lawful c.args.self.now (call.Pull c.args.from.now c.args.to.now c.args.names.now) _ c.in-Some-find.ensures.lawful (settles (goal.at.with_pulled-requires-clause-lawful c).After-pulled_after_prefix (Ok c.in-Ok.pulled) c.in-Ok.ensures.exact)

pub returns-in-Ok-clause-exact : goal.returns-in-Ok-clause-exact
returns-in-Ok-clause-exact c = ap Next c.in_ok-next-in-Ok.ensures ∙ settles (goal.at.returns-in-Ok-clause-exact c).After-pulled_after_prefix (Ok c.in-Ok.pulled) c.in-Ok.ensures.exact

pub returns-in-Err-Blocked-clause-exact : goal.returns-in-Err-Blocked-clause-exact
returns-in-Err-Blocked-clause-exact c =
    let gives = rw c.in-Err-Blocked.field-0-is at c.in-Err-Blocked.ensures.exact in
    c.refused-in-Err-Blocked.ensures ∙ ap refused c.refusal_of.ensures ∙ settles (goal.at.returns-in-Err-Blocked-clause-exact c).After-pulled_after_prefix (Err c.in-Err-Blocked.blocked) gives
