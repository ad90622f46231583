use Rattle.camp_git.proofs.Words.{entries, nat_cmp, slice_cmp, subst, map_of}
use Rattle.std.proofs.lemmas.Option.{MatchOption-at_none}
use Rattle.camp_git.proofs.HeldTrees.{AreFree, all_held, one_free}
use Rattle.camp_git.proofs.folders.first_unheld.Goals as goal

pub loop-entry-preserved : goal.loop-entry-preserved
loop-entry-preserved c =
    one_free c.args.old.now c.args.new.now (entries (map_of (slice_cmp nat_cmp) c.args.paths.now)) c.loop-entry.entry-iterator c.next.new.self c.in-Some.entry.now c.in-Some.ensures.steps (MatchOption-at_none _ _ c.in-None-2.is c.in_ok-path.ensures) c.loop-entry.invariant

pub returns : goal.returns
returns c =
    all_held c.args.old.now c.args.new.now (map_of (slice_cmp nat_cmp) c.args.paths.now) c.requires.held c.requires.others
    (subst (AreFree c.args.old.now c.args.new.now (entries (map_of (slice_cmp nat_cmp) c.args.paths.now))) c.in-None.ensures.steps.0 c.loop-entry.invariant)
