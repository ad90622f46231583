use Rattle.camp_questions.proofs.Words.{IfOk-weaker, ◌∙◌, subst, AreVersions}
use Rattle.camp_questions.proofs.SidesApply.{all_valid}
use Rattle.camp_questions.proofs.marking.versions_at.Goals as goal

pub versions_of-requires : goal.versions_of-requires
versions_of-requires c =
    all_valid c.args.branch.now c.args.tree.now c.in_ok-seen.seen c.requires c.in_ok-seen.ensures

pub returns : goal.returns
returns c =
    let seen = c.in_ok-seen.seen in
    let among = c.in_ok-names.ensures in
    let names = c.as_slice.ensures.exact ∙ among.2 in
    IfOk-weaker c.versions_of.result _ _ (λ versions are. (seen, among.0, c.in_ok-seen.ensures, among.1, subst (λ l. AreVersions seen c.args.tree.now c.args.path.now c.args.lines.now l versions.items) names are)) c.versions_of.ensures
