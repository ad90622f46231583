use Rattle.camp_member.proofs.Counting.{each_tag_once}
use Rattle.camp_member.proofs.laws.each_tag_counts_once.Goals as goal

pub returns : goal.returns
returns g c = record { law = each_tag_once }
