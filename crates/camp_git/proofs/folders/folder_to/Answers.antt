use Rattle.camp_git.proofs.Words.{◌∙◌, ap, contains_key}
use Rattle.camp_git.proofs.FilesInOrder.{inside_at, matched, no_slash, none_long}
use Rattle.camp_git.specs.FastImport.{is_inside}
use Rattle.camp_git.proofs.folders.folder_to.Goals as goal

pub returns-then-path-at-eq47 : goal.returns-then-path-at-eq47
returns-then-path-at-eq47 c =
    matched c.file_of.result (λ lacks. none_long c.args.tree.now c.args.path.now c.args.at lacks)
    (λ file is. (ap (contains_key c.args.tree.now) is.0 ∙ is.1, ap (λ f. is_inside f c.args.path.now) is.0 ∙ inside_at c.args.path.now c.args.at c.requires c.if-path-at-eq47.true))
    c.file_of.ensures

pub returns-else-path-at-eq47 : goal.returns-else-path-at-eq47
returns-else-path-at-eq47 c file long has = no_slash c.args.path.now file c.args.at long c.if-path-at-eq47.false
