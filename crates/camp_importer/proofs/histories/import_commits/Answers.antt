use Rattle.std.proofs.Common.{arith, length, refl, ◌≤◌}
use Rattle.camp_importer.proofs.HistoryLemmas.{imported_all, imported_on, stops_here}
use Rattle.camp_importer.proofs.histories.import_commits.Goals as goal

pub loop-commit-init : goal.loop-commit-init
loop-commit-init c = refl

pub loop-commit-preserved : goal.loop-commit-preserved
loop-commit-preserved c =
    imported_on c.args.moments.now c.args.commits.now c.loop-commit.commit-index c.commit-item.result c.in-Ok.field-0 c.args.book.now c.loop-commit.book c.import_commit.new.book (omega arith) c.commit-item.is c.loop-commit.invariant c.in-Ok.ensures.exact

pub returns-in-Err : goal.returns-in-Err
returns-in-Err c = record {
  exact = stops_here c.args.moments.now c.args.commits.now c.loop-commit.commit-index c.commit-item.result c.args.book.now c.loop-commit.book c.in-Err.fault c.import_commit.new.book (omega arith) c.commit-item.is c.loop-commit.invariant c.in-Err.ensures.exact;
}

pub returns : goal.returns
returns c =
    let past : length c.args.commits.now ≤ c.loop-commit.commit-index = omega arith in
    record { exact = imported_all c.args.moments.now c.args.commits.now c.loop-commit.commit-index c.args.book.now c.loop-commit.book past c.loop-commit.invariant }
