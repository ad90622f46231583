use Rattle.camp_store.proofs.Endings.{closed_now, closing}
use Rattle.camp_store.proofs.logs.write_closed_mark.Goals as goal

pub returns-in_err-write_and_sync-clause-crash : goal.returns-in_err-write_and_sync-clause-crash
returns-in_err-write_and_sync-clause-crash g c is durable f now =
    closing g.D.Disk.seen g.D.Disk.may_leave c.args.disk.now c.args.reading.now is durable c.if-reading.false c.write_and_sync.new.disk c.write_and_sync.ensures.begun f now

pub returns-clause-persists : goal.returns-clause-persists
returns-clause-persists g c is durable =
    closed_now g.D.Disk.seen g.D.Disk.may_leave c.args.disk.now c.args.reading.now is durable c.if-reading.false c.write_and_sync.new.disk c.in_ok-write_and_sync.ensures.synced

pub returns-clause-crash : goal.returns-clause-crash
returns-clause-crash g c is durable f now =
    closing g.D.Disk.seen g.D.Disk.may_leave c.args.disk.now c.args.reading.now is durable c.if-reading.false c.write_and_sync.new.disk c.write_and_sync.ensures.begun f now
