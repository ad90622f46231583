use Rattle.camp_script.proofs.Common.{refl}
use Rattle.camp_script.proofs.CommandCuts.{first_faulty, first_read}
use Rattle.camp_script.proofs.command_lines.CommandLines.new.Goals.{in-Ok, in-Err-Line}
use Rattle.camp_script.proofs.command_lines.CommandLines.new.Goals as goal

pub returns : goal.returns
returns c =
    let begun = c.new-reading.result in
    record {
      first = elim c.match-read_line.branch [
        | in-Ok w ↦ rw w.fault-is (first_read _ c.args.line.now begun c.new-reading.ensures refl refl w.in-Ok.ensures.given w.wanted.ensures)
        | in-Err-Line w ↦ rw w.fault-is (first_faulty _ c.args.line.now begun w.in-Err-Line.fault w.in-Err-Line.field-0 c.new-reading.ensures refl w.in-Err-Line.field-0-is w.in-Err-Line.ensures.given refl)
      ];
    }
