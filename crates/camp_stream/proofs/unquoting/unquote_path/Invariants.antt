use Rattle.std.proofs.Common.{◌≡◌, drop}
use Rattle.camp_stream.specs.QuotedPaths.{unquoted_from}
use Rattle.camp_stream.specs.Inside.Steps.{IsOctalState, behind_path}
use Rattle.camp_stream.specs.declared.unquoting.EscapeState.TheVariants.{Plain}
use Rattle.camp_stream.proofs.unquoting.unquote_path.Given as goal

abbrev pub invariant-bytes : goal.invariant-bytes
invariant-bytes l = record {
  octal : IsOctalState l.state;
  reads : unquoted_from Plain l.text ≡ behind_path l.path.items (unquoted_from l.state (drop l.index l.text));
}
