use Rattle.camp_shared.proofs.ReadLemmas.{members_share_one_history, more_texts_give_more, same_texts_agree}
use Rattle.camp_shared.proofs.laws.members_share_one_history.Goals as goal

pub returns : goal.returns
returns c = record { agree = same_texts_agree; begins = more_texts_give_more; law = members_share_one_history }
