use Rattle.camp_talk.proofs.Words.{◌≡◌, ◌∷◌, ◌++◌, ap, length, rules}
use Rattle.std.specs.Fmt.{decimal}
use Rattle.camp_talk.specs.Frames.{framed}
use Rattle.camp_talk.proofs.FrameLemmas.{digits_fail, frame_written, line_end_fails}
use Rattle.camp_talk.proofs.engine.frames.write_frame.Given.{Over}
use Rattle.camp_talk.proofs.engine.frames.write_frame.Goals.{After-write_answer}
use Rattle.camp_talk.proofs.engine.frames.write_frame.Goals as goal

-- the number of bytes, the line feed and the bytes are the frame
frame : (g : Over) (c : After-write_answer g) → c.as_bytes.result.now ++ 10 ∷ c.args.response.now ≡ framed c.args.response.now
frame g c =
    let digits : c.as_bytes.result.now ≡ decimal (length c.args.response.now) = search rules in
    ap (λ bytes. bytes ++ 10 ∷ c.args.response.now) digits

pub returns-in_err-write_answer : goal.returns-in_err-write_answer
returns-in_err-write_answer g c =
    let then = (goal.at.returns-in_err-write_answer g c).After-write_answer in
    let fails = digits_fail c.as_bytes.result.now c.args.response.now _ (frame g then) (g.W.Write.contents c.args.writer.now) (g.W.Write.contents c.write_answer.new.writer)
    c.in_err-write_answer.ensures.writes in
    search (rules, fails)

pub returns-in_err-write_answer-2 : goal.returns-in_err-write_answer-2
returns-in_err-write_answer-2 g c =
    let then = (goal.at.returns-in_err-write_answer-2 g c).After-write_answer in
    let fails = line_end_fails c.as_bytes.result.now c.args.response.now _ (frame g then) (g.W.Write.contents c.args.writer.now) (g.W.Write.contents c.write_answer.new.writer)
    (g.W.Write.contents c.write_answer-2.new.writer) c.in_ok-write_answer.ensures.writes c.in_err-write_answer-2.ensures.writes in
    search (rules, fails)

pub returns : goal.returns
returns g c =
    let then = (goal.at.returns g c).After-write_answer in
    frame_written c.as_bytes.result.now c.args.response.now _ (frame g then) (g.W.Write.contents c.args.writer.now) (g.W.Write.contents c.write_answer.new.writer)
    (g.W.Write.contents c.write_answer-2.new.writer) (g.W.Write.contents c.write_answer-3.new.writer) c.write_answer-3.result
    c.in_ok-write_answer.ensures.writes c.in_ok-write_answer-2.ensures.writes c.write_answer-3.ensures.writes
