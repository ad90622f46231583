-- The causes in a diagnostic.
use Rattle.camp_talk.proofs.Words.{Option, Some, ap, refl}
use Rattle.camp_talk.specs.Diagnostics.{FailedCommand}
use Rattle.camp_talk.specs.Laws.{CausesAreReported, RefusalsAreDescribed}
use Rattle.camp_talk.specs.declared.diagnostics.FailureCause.TheVariants as failure
use Rattle.camp_talk.specs.declared.questions.ParsedCommand.TheVariants as parsed
use Rattle.camp_why.proofs.Grounding.{have_grounds, refusals_explained}
use Rattle.camp_why.specs.declared.causes.Cause.{Cause}

pub causes_reported : CausesAreReported
causes_reported state line call refused lawful is range comes wants =
    let explains = refusals_explained state call refused lawful is range comes wants in
    let refused_with : Option Cause → FailedCommand = λ found. record { line = line; cause = failure.Refused refused (parsed.Call call) state found } in
    record {
      cause = explains.cause;
      of = explains.of;
      is_so = explains.is_so;
      keeps = ap (λ (found : Option Cause). Some (refused_with found)) explains.reported;
    }

pub refusals_described : RefusalsAreDescribed
refusals_described state line call refused lawful is range comes = record {
  ground = have_grounds state call refused lawful is range comes;
  keeps = refl;
}
