use Rattle.camp_script.proofs.Common.{refl, sym, ◌∙◌}
use Rattle.camp_script.proofs.CommandCuts.{next_faulty, next_read, no_fault, passed_over}
use Rattle.camp_script.proofs.command_lines.CommandLines.read_line.Goals as goal

pub returns-then-is_some : goal.returns-then-is_some
returns-then-is_some c = record {
  next = λ first rest has. passed_over c.args.self.now _ first c.args.line.now rest c.requires c.after-self.ensures has (sym c.is_some.ensures ∙ c.if-is_some.true) refl;
}

pub returns-in-Err : goal.returns-in-Err
returns-in-Err c = record {
  next = λ first rest has. next_faulty c.args.self.now _ first c.args.line.now rest c.requires c.after-self.ensures has c.in-Some.number
      (no_fault c.args.self.now.fault (sym c.is_some.ensures ∙ c.if-is_some.false)) c.in-Some.ensures.1 c.in-Err.fault refl c.in-Err.ensures.given;
}

pub returns-in_default-read_line : goal.returns-in_default-read_line
returns-in_default-read_line c = record {
  next = λ first rest has. next_read c.args.self.now _ first c.args.line.now rest c.requires c.after-self.ensures has c.in-Some.number
      (no_fault c.args.self.now.fault (sym c.is_some.ensures ∙ c.if-is_some.false)) c.in-Some.ensures.1 refl refl c.in_default-read_line.ensures.given;
}
