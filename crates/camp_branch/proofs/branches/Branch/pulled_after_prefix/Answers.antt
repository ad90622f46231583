use Rattle.std.proofs.lemmas.Result.{err_from_is_err_and}
use Rattle.camp_catch.proofs.Making.{blocks_too}
use Rattle.camp_branch.proofs.Words.{◌||◌, ◌&&◌, ◌++◌, Ok, ap, sym, subst, ◌∙◌, slice_cmp, nat_cmp, contains_key, map_of, IsLawfulBranch, has_patch, names_in, PullGives}
use Rattle.camp_branch.proofs.KeepLawful.{pulls_keep_lawful}
use Rattle.camp_branch.proofs.PullsBehind.{PullsWhole, pulls_whole}
use Rattle.camp_branch.proofs.branches.Branch.pulled_after_prefix.Goals as goal
use Rattle.camp_branch.proofs.branches.Branch.pulled_after_prefix.Goals.{After-deref-4}

pulls : (c : After-deref-4) → PullsWhole c.args.from.now c.args.self.now c.deref-3.result.now c.deref-4.result.now (map_of (slice_cmp nat_cmp) c.in_ok-common.common) (names_in c.args.wanted.now)
pulls c =
    let index = map_of (slice_cmp nat_cmp) c.from.inside.names in
    let other = map_of (slice_cmp nat_cmp) c.self.inside.names in
    let one = c.deref.ensures.value ∙ sym c.deref-3.ensures.value in
    let two = c.deref-2.ensures.value ∙ sym c.deref-4.ensures.value in
    pulls_whole c.args.from.now c.args.self.now c.from.inside.catches c.self.inside.catches c.deref-3.result.now c.deref-4.result.now c.args.known index other _ c.from.view_is c.self.view_is (c.deref-3.ensures.value ∙ c.in_ok-theirs.ensures) (c.deref-4.ensures.value ∙ c.in_ok-ours.ensures) c.from.invariant.named c.self.invariant.named (λ n. c.in_ok-common.ensures n ∙ (λ i. (has_patch (one i) n && contains_key other n) || (has_patch (two i) n && contains_key index n))) c.requires.agree _

pub returns-in_err-taken : goal.returns-in_err-taken
returns-in_err-taken c =
    let whole = pulls (goal.at.returns-in_err-taken c).After-deref-4 in
    let p = err_from_is_err_and c.from_residual-in_err-taken.result c.from_residual-in_err-taken.ensures.1 in
    record { exact = rw (p.1, p.2) (blocks_too c.in_err-taken.field-0.0 c.in_err-taken.ensures.exact (λ blocked w. whole.blocked blocked w)) }

pub with_taken-requires : goal.with_taken-requires
with_taken-requires c =
    let taken = c.in_ok-taken.taken.items in
    let gives = (pulls (goal.at.with_taken-requires c).After-deref-4).gives taken c.in_ok-taken.ensures.exact in
    subst (λ l. IsLawfulBranch (c.args.self.now ++ l)) (sym c.deref-5.ensures.value) (pulls_keep_lawful.lawful c.args.from.now c.args.self.now (c.args.self.now ++ taken) (names_in c.args.wanted.now) gives (subst IsLawfulBranch c.from.view_is c.from.invariant.lawful) (subst IsLawfulBranch c.self.view_is c.self.invariant.lawful) c.requires.lacked)

pub returns : goal.returns
returns c =
    let gives = (pulls (goal.at.returns c).After-deref-4).gives c.in_ok-taken.taken.items c.in_ok-taken.ensures.exact in
    record {
      exact = subst (λ l. PullGives c.args.from.now c.args.self.now (names_in c.args.wanted.now) (Ok l)) (sym (c.in_ok-with_taken.ensures ∙ ap (λ l. c.args.self.now ++ l) c.deref-5.ensures.value)) gives;
    }
