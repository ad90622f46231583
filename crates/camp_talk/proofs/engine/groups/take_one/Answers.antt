use Rattle.std.proofs.Common.{◌≡◌, ◌∙◌, ℕ, ap, length, rules, take}
use Rattle.std.proofs.Math.Seq.{take-append_seam}
use Rattle.camp_talk.proofs.engine.groups.take_one.Goals as goal

pub returns-in-Ok-write_response : goal.returns-in-Ok-write_response
returns-in-Ok-write_response g c =
    let read = rw c.in-Ok-Some.field-0-is at c.in-Ok-Some.ensures.reads in
    let (bytes, reads, consumes) = read in (
      record { request = c.in-Ok-Some.request; bytes = bytes; response = c.in-Ok.response },
      record { reads = reads; consumes = consumes; executes = c.in-Ok.ensures },
      c.in-Ok-write_response.ensures.writes,
    )

pub returns-in-Err-write_response : goal.returns-in-Err-write_response
returns-in-Err-write_response g c =
    let read = rw c.in-Ok-Some.field-0-is at c.in-Ok-Some.ensures.reads in
    let (bytes, reads, consumes) = read in
    let (done, rest, parts, grows) = c.in-Err-write_response.ensures.writes in
    let start : c.len-start.result ≡ length c.args.pending.now.items = search rules in (
      tt,
      record {
        request = c.in-Ok-Some.request;
        bytes = bytes;
        is = record { reads = reads; consumes = consumes; executes = c.in-Ok.ensures };
      },
      c.truncate.ensures.items ∙ ap (λ (n : ℕ). take n c.write_response.new.writer.items) start
          ∙ ap (take (length c.args.pending.now.items)) grows ∙ take-append_seam c.args.pending.now.items done,
    )
