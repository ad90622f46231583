use Rattle.std.proofs.Common.{List, subst, sym}
use Rattle.camp_diff.specs.declared.hunks.DiffHunk.{DiffHunk}
use Rattle.camp_import.proofs.FileLemmas.{EditsSoFar, edits_done, edits_start, next_hunk, no_hunk}
use Rattle.camp_import.proofs.edits.append_script.Goals as goal

pub loop-hunk-preserved : goal.loop-hunk-preserved
loop-hunk-preserved c =
    next_hunk c.args.path.now c.args.old.now c.args.new.now c.deref-hunk-items.result.now c.loop-hunk.hunk-index
    c.args.changes.now.items c.loop-hunk.changes.items c.append_pieces.new.changes.items _
    c.loop-hunk-test.true c.loop-hunk.invariant c.in_ok-append_pieces.ensures

pub returns : goal.returns
returns c =
    edits_done c.args.path.now c.args.old.now c.args.new.now c.args.changes.now.items c.loop-hunk.changes.items
    (no_hunk c.args.path.now c.args.old.now c.args.new.now c.deref-hunk-items.result.now c.loop-hunk.hunk-index
    c.args.changes.now.items c.loop-hunk.changes.items c.loop-hunk-test.false c.loop-hunk.invariant)

pub loop-hunk-init : goal.loop-hunk-init
loop-hunk-init c =
    subst (λ (hunks : List DiffHunk). EditsSoFar c.args.path.now c.args.old.now c.args.new.now hunks c.args.changes.now.items c.args.changes.now.items)
    (sym c.deref-hunk-items.ensures.value)
    (edits_start c.args.path.now c.args.old.now c.args.new.now c.in_ok-hunks.hunks.items c.args.changes.now.items c.in_ok-hunks.ensures.exact)
