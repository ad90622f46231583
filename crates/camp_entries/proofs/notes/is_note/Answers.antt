use Rattle.camp_entries.proofs.NoteLemmas.{is_note_exactly}
use Rattle.camp_entries.proofs.notes.is_note.Goals as goal

pub returns : goal.returns
returns c = is_note_exactly c.args.bytes.now c.note_len.result c.note_len.ensures
