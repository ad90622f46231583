use Rattle.camp_script.proofs.CommandCuts.{comes_to_fault, comes_to_script}
use Rattle.camp_script.proofs.command_lines.CommandLines.finish.Goals as goal

pub returns-in-Some : goal.returns-in-Some
returns-in-Some c = record { given = λ first rest has. comes_to_fault c.args.self first rest has c.in-Some.fault c.in-Some.is }

pub returns-in-None : goal.returns-in-None
returns-in-None c = record { given = λ first rest has. comes_to_script c.args.self first rest has c.finish.result c.in-None.is c.finish.ensures }
