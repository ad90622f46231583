use Rattle.camp_shared.proofs.ReadLemmas.{finds_texts_in_order, keeps_what_was_read, nobody_reads_on, opens_at_title}
use Rattle.camp_shared.proofs.laws.members_follow_the_texts.Goals as goal

pub returns : goal.returns
returns c = record { opens = opens_at_title; goes_on = finds_texts_in_order; keeps = keeps_what_was_read; stops = nobody_reads_on }
