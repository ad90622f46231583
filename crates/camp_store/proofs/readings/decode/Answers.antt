use Rattle.camp_store.proofs.Words.{rules, ◌≡◌, [], ◌∷◌, ◌++◌, sym, ap, ◌∙◌, subst, IsBlock, digest_after}
use Rattle.camp_store.proofs.BlockLemmas.{ReadSoFar, is_damaged, read_one_more}
use Rattle.camp_store.proofs.readings.decode.Goals as goal

pub reading-preserved : goal.reading-preserved
reading-preserved c =
    let v = c.in_ok-to_vec.field-0 in
    let block = c.in-Some.block in
    let decoded = rw c.in-Some.is at c.in_ok-block.ensures in
    let text : v.items ≡ block.text.now = search rules in
    let pushed : c.push.new.self.items ≡ c.reading.texts.items ++ v ∷ [] = c.in_ok-push.ensures.items in
    let is : IsBlock c.reading.digest v.items block.rest.now c.reading.rest.now = subst (λ l. IsBlock c.reading.digest l block.rest.now c.reading.rest.now) (sym text) decoded.0 in
    let next : ReadSoFar c.args.bytes.now (c.reading.texts.items ++ v ∷ []) (digest_after c.reading.digest v.items) block.rest.now =
    read_one_more c.args.bytes.now c.reading.texts.items c.reading.digest c.reading.rest.now c.reading.invariant v block.rest.now is in
    let digest : block.digest ≡ digest_after c.reading.digest v.items = decoded.1 ∙ ap (λ l. digest_after c.reading.digest l) (sym text) in
    subst (λ d. ReadSoFar c.args.bytes.now c.push.new.self.items d block.rest.now) (sym digest)
    (subst (λ ts. ReadSoFar c.args.bytes.now ts (digest_after c.reading.digest v.items) block.rest.now) (sym pushed) next)

pub returns-in-None-clause-damaged : goal.returns-in-None-clause-damaged
returns-in-None-clause-damaged c =
    let none = rw c.in-None.is at c.in_ok-block.ensures in
    is_damaged c.args.bytes.now c.reading.texts.items c.reading.digest c.reading.rest.now c.reading.invariant (search rules) none c.len.result (search rules)
