use Rattle.camp_store.proofs.Words.{rules, ◌<◌, ◌∙◌, [], ◌∷◌, List, ℕ, length, ap, arith, length-append, length-map, blocks, closed_mark, texts_of}
use Rattle.camp_store.proofs.Batches.{some_bytes}
use Rattle.camp_store.proofs.logs.Log.append.Goals as goal

pub write_batch-requires-clause-some : goal.write_batch-requires-clause-some
write_batch-requires-clause-some g c =
    let new = texts_of c.args.texts.now in
    let any : 0 < length c.args.texts.now = search rules in
    let some : 0 < length new = omega (arith, any, length-map c.args.texts.now (λ text. text.items)) in
    let digest = c.args.self.now.digest in
    omega (arith, ap (λ (l : List ℕ). length l) (c.deref.ensures.value ∙ c.in_ok-bytes.ensures.bytes), length-append (blocks digest new) (closed_mark ∷ []), some_bytes digest new some)
