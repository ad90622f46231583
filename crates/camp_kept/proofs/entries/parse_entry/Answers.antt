use Rattle.camp_kept.proofs.entries.parse_entry.Goals as goal

pub returns-in-Ok : goal.returns-in-Ok
returns-in-Ok c = record { exact = c.entry_of.ensures.exact c.args.text.now c.in-Ok.ensures.exact }
