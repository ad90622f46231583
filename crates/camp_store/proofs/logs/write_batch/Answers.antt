use Rattle.camp_store.proofs.Words.{inl}
use Rattle.camp_store.proofs.Batches.{acknowledged, opening, staged_is, staging}
use Rattle.camp_store.proofs.logs.write_batch.Goals as goal

pub returns-in_err-write_and_sync-clause-crash : goal.returns-in_err-write_and_sync-clause-crash
returns-in_err-write_and_sync-clause-crash g c old new digest batch persists f now =
    inl (staging g.D.Disk.seen g.D.Disk.may_leave old new digest c.args.bytes.now batch c.args.disk.now c.args.at persists _ c.write_and_sync.new.disk c.write_and_sync.ensures.begun f now)

pub returns-in_err-write_and_sync-2-clause-crash : goal.returns-in_err-write_and_sync-2-clause-crash
returns-in_err-write_and_sync-2-clause-crash g c old new digest batch persists f now =
    let staged = staged_is g.D.Disk.seen g.D.Disk.may_leave c.args.bytes.now _ c.args.disk.now c.write_and_sync.new.disk c.in_ok-write_and_sync.ensures.synced in
    opening g.D.Disk.seen g.D.Disk.may_leave old new digest c.args.bytes.now batch c.args.disk.now c.args.at persists c.write_and_sync.new.disk staged c.write_and_sync-2.new.disk c.write_and_sync-2.ensures.begun f now

pub returns-clause-crash : goal.returns-clause-crash
returns-clause-crash g c old new digest batch persists f now =
    let staged = staged_is g.D.Disk.seen g.D.Disk.may_leave c.args.bytes.now _ c.args.disk.now c.write_and_sync.new.disk c.in_ok-write_and_sync.ensures.synced in
    opening g.D.Disk.seen g.D.Disk.may_leave old new digest c.args.bytes.now batch c.args.disk.now c.args.at persists c.write_and_sync.new.disk staged c.write_and_sync-2.new.disk c.write_and_sync-2.ensures.begun f now

pub returns-clause-acknowledged : goal.returns-clause-acknowledged
returns-clause-acknowledged g c old new digest batch persists =
    let staged = staged_is g.D.Disk.seen g.D.Disk.may_leave c.args.bytes.now _ c.args.disk.now c.write_and_sync.new.disk c.in_ok-write_and_sync.ensures.synced in
    acknowledged g.D.Disk.seen g.D.Disk.may_leave old new digest c.args.bytes.now batch c.args.disk.now c.args.at persists c.write_and_sync.new.disk staged c.write_and_sync-2.new.disk c.in_ok-write_and_sync-2.ensures.synced
