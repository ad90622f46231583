use Rattle.camp_talk.proofs.Words.{◌≡◌, List, ℕ, Ok, true, subst, rules, Gives, first_of, is_skipped, words_of, parsed_lines}
use Rattle.camp_talk.proofs.Firsts.{command_read}
use Rattle.camp_talk.specs.declared.questions.ParsedCommand.TheVariants as parsed
use Rattle.camp_talk.proofs.engine.lines.next_command.Goals as goal

pub returns-clause-reads : goal.returns-clause-reads
returns-clause-reads g c =
    let command = c.in_ok-command.command in
    let read = c.in_ok-command.ensures.command in (
      read.command,
      record {
        more = c.requires;
        reads = read.reads;
        is = record {
          lines = read.lines;
          parsed = subst (λ (ls : List (List ℕ)). Gives command.parsed (parsed_lines ls)) read.lines c.in_ok-command.ensures.parsed;
          silent = subst (λ (ls : List (List ℕ)). is_skipped (words_of (first_of ls)) ≡ true → command.parsed ≡ Ok parsed.Nothing) read.lines c.in_ok-command.ensures.silent;
        };
        last = search rules;
      },
      command_read _ _ command.is_whole read.command read.reads,
    )
