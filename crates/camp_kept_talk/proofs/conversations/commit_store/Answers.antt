use Rattle.std.proofs.Common.{◌⊎◌, OnOk, subst}
use Rattle.camp_kept.specs.Accepting.{StoreContents}
use Rattle.camp_kept.specs.Persisting.{IsStoreOf, PersistsCalls}
use Rattle.camp_kept_talk.proofs.SameContents.{same_contents}
use Rattle.camp_kept_talk.proofs.conversations.commit_store.Goals as goal

pub returns : goal.returns
returns g c =
    let commit = c.commit.ensures in
    let same = same_contents c.args.kept.now c.commit.new.self commit.book commit.notes in
    record {
      book = commit.book;
      notes = commit.notes;
      acknowledged = λ stored durable. subst (λ (contents : StoreContents). OnOk c.commit.result (PersistsCalls g.D.Disk.seen g.D.Disk.may_leave contents c.commit.new.self))
          same (commit.acknowledged stored durable.0 durable.1);
      crash = λ stored durable file may. subst (λ (contents : StoreContents). IsStoreOf stored file ⊎ IsStoreOf contents file) same (commit.crash stored durable.0 durable.1 file may);
      leaves = commit.leaves;
      stopped = commit.stopped;
      counts = commit.faults;
      fault = commit.fault;
      clean = commit.clean;
    }
