use Rattle.camp_base.specs.Bytes.{is_name}
use Rattle.camp_base.specs.declared.faults.BaseFault.TheVariants as base
use Rattle.camp_notes.proofs.TitleLemmas.{bad_title, not_named}
use Rattle.camp_notes.proofs.titles.name_of.Goals as goal

pub returns-in-Err : goal.returns-in-Err
returns-in-Err c =
    bad_title c.args.word.now c.args.rest.now c.requires
    (not_named (is_name c.args.word.now) c.args.word.now base.BadName c.in-Err.field-0 c.new.result c.new.ensures.exact c.in-Err.is)
