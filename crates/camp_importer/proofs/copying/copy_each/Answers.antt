use Rattle.std.proofs.Common.{arith, length, refl, ◌≤◌}
use Rattle.camp_importer.proofs.CopyLemmas.{copied_all, copied_on, copying_stops}
use Rattle.camp_importer.proofs.copying.copy_each.Goals as goal

pub loop-copy-init : goal.loop-copy-init
loop-copy-init c = refl

pub loop-copy-preserved : goal.loop-copy-preserved
loop-copy-preserved c =
    copied_on c.args.from.now c.args.copies.now c.loop-copy.copy-index c.copy-item.result c.args.book.now c.loop-copy.book c.start_branch.new.book (omega arith) c.copy-item.is c.loop-copy.invariant c.in-Ok.ensures

pub returns-in-Err : goal.returns-in-Err
returns-in-Err c =
    copying_stops c.args.from.now c.args.copies.now c.loop-copy.copy-index c.copy-item.result c.args.book.now c.loop-copy.book c.in-Err.why c.start_branch.new.book (omega arith) c.copy-item.is c.loop-copy.invariant c.in-Err.ensures

pub returns : goal.returns
returns c =
    let past : length c.args.copies.now ≤ c.loop-copy.copy-index = omega arith in
    copied_all c.args.from.now c.args.copies.now c.loop-copy.copy-index c.args.book.now c.loop-copy.book past c.loop-copy.invariant
