use Rattle.camp_talk.proofs.Words.{ap, arith, length, subst, sym, Consumes, Consumes-nil}
use Rattle.camp_talk.proofs.serving.read_bytes.Goals as goal

pub loop-init : goal.loop-init
loop-init g c =
    let a = g.R.Read.remaining c.args.reader.now in (
      subst (Consumes a a) (sym c.requires) (Consumes-nil a),
      omega (arith, ap length c.requires),
    )
