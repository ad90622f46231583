use Rattle.std.proofs.Common.{refl}
use Rattle.camp_stream.specs.CommandValues.{value_of_command}
use Rattle.camp_transfer.proofs.ReadingLemmas.{not_done}
use Rattle.camp_transfer.proofs.reading.apply_command.Goals as goal

pub returns-in-Ok : goal.returns-in-Ok
returns-in-Ok c reads = record {
  command = value_of_command c.args.command.now;
  reads = reads;
  whole = record {
    other = not_done c.args.command.now c.in_default.not-Done;
    followed = c.if-not-is_followed.ensures.whole refl;
  };
  step = c.in-Ok.step;
  applies = c.in-Ok.ensures.exact;
  commit = refl;
  becomes = refl;
}
