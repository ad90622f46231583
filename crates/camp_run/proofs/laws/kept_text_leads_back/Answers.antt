use Rattle.camp_run.proofs.StoredTexts.{kept_leads_back}
use Rattle.camp_run.proofs.laws.kept_text_leads_back.Goals as goal

pub returns : goal.returns
returns c = record { law = kept_leads_back }
