use Rattle.camp_talk.proofs.Words.{◌≡◌, ◌+◌, ℕ, Bool, List, length, true, ap, arith, rules, subst, ◌∙◌, Gives, ReadsCommand, as_read, parsed_lines, length-map, lines_in, lines_of}
use Rattle.camp_talk.proofs.Firsts.{command_long, command_read}
use Rattle.camp_talk.proofs.ViewLemmas.{unread, unshown}
use Rattle.camp_talk.proofs.views.see.Goals as goal

pub returns-in-Err-clause-unseen : goal.returns-in-Err-clause-unseen
returns-in-Err-clause-unseen g c =
    let none = unread (g.R.Read.remaining c.args.reader.now) (g.R.Read.remaining c.read_command.new.reader) c.args.lines.now c.in-Err.why
    c.in-Err.ensures.fault in
    search (rules, none)

pub returns-in-Err-shown-clause-unseen : goal.returns-in-Err-shown-clause-unseen
returns-in-Err-shown-clause-unseen g c =
    let read = c.in-Ok.ensures.command in
    let whole = c.in-Ok.command.is_whole in
    let lines : length (lines_of c.in-Ok.command.bytes.items) ≡ length (lines_of read.command) =
    ap (λ (ls : List (List ℕ)). length ls) read.lines ∙ length-map (lines_of read.command) as_read in
    unshown _ _ c.args.lines.now read.command (command_read _ _ whole read.command read.reads) _ lines _ c.in-Err-shown.ensures.unshown

pub returns-in-Ok-shown-clause-sees : goal.returns-in-Ok-shown-clause-sees
returns-in-Ok-shown-clause-sees g c =
    let command = c.in-Ok.command in
    let read = c.in-Ok.ensures.command in
    let shown = c.in-Ok-shown.ensures.shows in
    let lines : length (lines_of command.bytes.items) ≡ length (lines_of read.command) =
    ap (λ (ls : List (List ℕ)). length ls) read.lines ∙ length-map (lines_of read.command) as_read in
    let gives = subst (λ (ls : List (List ℕ)). Gives command.parsed (parsed_lines ls)) read.lines c.in-Ok.ensures.parsed in
    record {
      exchange = record { command = read.command; answer = shown.0 };
      reads = read.reads;
      sees = record {
        shows = shown.2 (parsed_lines (lines_in read.command)) gives;
        counts = c.in-Ok-shown.ensures.counts.0 ∙ ap (λ (n : ℕ). c.args.lines.now + n) lines;
      };
      grows = shown.1;
    }

pub returns-in-Ok-shown-clause-counts : goal.returns-in-Ok-shown-clause-counts
returns-in-Ok-shown-clause-counts g c =
    let command = c.in-Ok.command in
    let read = c.in-Ok.ensures.command in
    let counts = c.in-Ok-shown.ensures.counts in
    let lines : length (lines_of command.bytes.items) ≡ length (lines_of read.command) =
    ap (λ (ls : List (List ℕ)). length ls) read.lines ∙ length-map (lines_of read.command) as_read in
    λ (more : command.is_whole ≡ true).
    let reads = subst (λ (w : Bool). ReadsCommand (g.R.Read.remaining c.args.reader.now) (g.R.Read.remaining c.read_command.new.reader) w read.command) more read.reads in
    record { rises = omega (arith, counts.0, counts.1, lines, command_long read.command reads.1); counted = search rules }
