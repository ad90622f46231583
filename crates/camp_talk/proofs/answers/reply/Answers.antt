use Rattle.camp_talk.proofs.NotDone.{replies_so}
use Rattle.camp_talk.proofs.answers.reply.Goals as goal

pub returns-in-Ok : goal.returns-in-Ok
returns-in-Ok c =
    replies_so c.args.book.now c.ask.new.self c.args.call.now c.in_ok-accepted.accepted.items c.in_ok-accepted.ensures c.in-Ok.reply c.in-Ok.ensures.asks
    c.render_reply.result c.render_reply.ensures
