use Rattle.camp_notes.proofs.parsing.parse_note.Goals as goal

pub returns-in-Ok : goal.returns-in-Ok
returns-in-Ok c = c.parse_named.ensures c.args.bytes.now (rw c.in-Ok.name-1-own.given.1 at c.parse_title.ensures)
