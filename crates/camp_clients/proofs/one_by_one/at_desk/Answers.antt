use Rattle.std.proofs.Common.{rules}
use Rattle.camp_clients.proofs.SectionSteps.{section_alone}
use Rattle.camp_clients.proofs.one_by_one.at_desk.Goals as goal

pub returns-clause-section : goal.returns-clause-section
returns-clause-section g c = search (rules, section_alone)
