use Rattle.std.proofs.Common.{IsTrue}
use Rattle.camp_kept.proofs.Refusing.{refused_from, refused_then}
use Rattle.camp_kept.proofs.openings.recover.Goals as goal

pub returns-in_err-reading-clause-refused : goal.returns-in_err-reading-clause-refused
returns-in_err-reading-clause-refused g c =
    refused_from (IsTrue (g.D.Disk.is_clean c.read.new.disk)) (g.D.Disk.is_usable c.args.disk.now) c.args.wanted.now c.from_residual.result c.in_err-reading.field-0.0 (g.D.Disk.seen c.args.disk.now) c.from_residual.ensures.1
    c.in_err-reading.ensures.fault c.in_err-reading.ensures.damaged

pub returns-in_err-book-clause-refused : goal.returns-in_err-book-clause-refused
returns-in_err-book-clause-refused g c =
    refused_then (IsTrue (g.D.Disk.is_clean c.read.new.disk)) (g.D.Disk.is_usable c.args.disk.now) c.args.wanted.now c.from_residual-in_err-book.result c.in_err-book.field-0.0 (g.D.Disk.seen c.args.disk.now) c.from_residual-in_err-book.ensures.1
    (λ clean. c.in_err-book.ensures.refused (g.D.Disk.seen c.args.disk.now) (c.in_ok-reading.ensures.reading clean))
