use Rattle.std.proofs.Common.{sym, ◌∙◌}
use Rattle.std.proofs.lemmas.Fmt.{parse-decimal}
use Rattle.camp_entries.proofs.HeadLemmas.{number_is_utf8}
use Rattle.camp_entries.proofs.heads.parse_number.Goals as goal

pub returns-in_default : goal.returns-in_default
returns-in_default c = λ number small is. absurd (c.in_default.ensures.cases.0 (number_is_utf8 number c.args.digits.now small is))

pub returns-in-Ok-parse : goal.returns-in-Ok-parse
returns-in-Ok-parse c = λ number small is.
    let same = parse-decimal 64 number c.in-Ok.text.now c.parse.result small small (c.in-Ok.ensures.cases.0 ∙ sym is) c.parse.ensures.value.0 in
    let found = c.in-Ok-parse.is in
    cc

pub returns-in-Err : goal.returns-in-Err
returns-in-Err c = λ number small is.
    let same = parse-decimal 64 number c.in-Ok.text.now c.parse.result small small (c.in-Ok.ensures.cases.0 ∙ sym is) c.parse.ensures.value.0 in
    let found = c.in-Err.is in
    cc
