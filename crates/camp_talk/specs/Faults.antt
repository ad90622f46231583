-- The exit status of a program that a fault of a conversation or a load ends.
use Rattle.std.specs.Prelude.{ℕ}
use Rattle.camp_talk.specs.declared.faults.LoadFault.{LoadFault}
use Rattle.camp_talk.specs.declared.faults.LoadFault.TheVariants as load
use Rattle.camp_talk.specs.declared.faults.TalkFault.{TalkFault}
use Rattle.camp_talk.specs.declared.faults.TalkFault.TheVariants.{Internal}

-- the exit status for the fault: 4 for an internal fault, else 3
abbrev pub fault_status : TalkFault → ℕ
fault_status Internal = 4
fault_status other = 3

-- the exit status for a fault of a load: 1 if a command was not done, 3 if memory ran out for it, else that of the
-- fault
abbrev pub load_status : LoadFault → ℕ
load_status (load.Answer line text) = 1
load_status (load.Memory line) = 3
load_status (load.Talk fault) = fault_status fault
