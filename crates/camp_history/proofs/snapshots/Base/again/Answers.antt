use Rattle.camp_history.proofs.snapshots.Base.again.Goals as goal

pub returns : goal.returns
returns g c = λ k. record { slot = c.args.self.now.slot; snapshot = record { marker = record {}; of = c.again.ensures.0 k; value = c.again.ensures.1 k } }
