use Rattle.camp_store.proofs.Words.{rules, ◌≡◌, ◌+◌, [], ◌∷◌, ◌++◌, length, take, drop, sym, subst, ap, ◌∙◌, take_more, AllFit, FitsInBlock, blocks, chain, digest_after, head, open_mark, texts_of}
use Rattle.camp_store.proofs.BlockLemmas.{around, block_pushed, chain-append, fit-append, fits_between, texts_of-push}
use Rattle.camp_store.proofs.blocks.encode.Goals as goal

pub loop-text-preserved : goal.loop-text-preserved
loop-text-preserved c =
    let xs = c.args.texts.now in
    let i = c.loop-text.text-index in
    let x = c.text-item.result in
    let before = c.args.before.now in
    let ts = texts_of (take i xs) in
    let next : take (i + 1) xs ≡ take i xs ++ x ∷ [] = search (rules, take_more) in
    let texts : texts_of (take (i + 1) xs) ≡ ts ++ x.items ∷ [] = ap texts_of next ∙ texts_of-push (take i xs) x in
    let digest : c.digest_after-digest.result ≡ digest_after (chain before ts) x.items =
    c.digest_after-digest.ensures ∙ (λ i. digest_after (c.loop-text.invariant.1 i) (c.deref.ensures.value i)) in
    let size : length x.items ≡ c.in-Ok.size = search rules in
    let line : c.in_ok-encode_head.field-0.items ≡ head (chain before ts) x.items = c.in_ok-encode_head.ensures (chain before ts) x.items size digest in
    let pushed : c.push.new.self.items ≡ c.loop-text.bytes.items ++ open_mark ∷ [] = c.in_ok-push.ensures.items in
    let headed : c.extend_from_slice.new.self.items ≡ c.push.new.self.items ++ c.in_ok-encode_head.field-0.items = search rules in
    let all : c.extend_from_slice-in-loop-text.new.self.items ≡ c.extend_from_slice.new.self.items ++ x.items = search rules in
    let bytes : c.extend_from_slice-in-loop-text.new.self.items ≡ ((blocks before ts ++ open_mark ∷ []) ++ head (chain before ts) x.items) ++ x.items =
    all ∙ ap (λ l. l ++ x.items) (headed ∙ (λ i. (pushed ∙ ap (λ l. l ++ open_mark ∷ []) c.loop-text.invariant.0) i ++ line i)) in
    let fits : FitsInBlock x.items = search rules in (
      block_pushed before ts x.items _ bytes ∙ ap (λ l. blocks before l) (sym texts),
      digest ∙ sym (chain-append before ts (x.items ∷ [])) ∙ ap (λ l. chain before l) (sym texts),
      subst AllFit (sym texts) (fit-append ts (x.items ∷ []) c.loop-text.invariant.2 (fits, tt)),
    )

pub returns-in_default-clause-refused : goal.returns-in_default-clause-refused
returns-in_default-clause-refused c all =
    let xs = c.args.texts.now in
    let i = c.loop-text.text-index in
    let x = c.text-item.result in
    let next : take (i + 1) xs ≡ take i xs ++ x ∷ [] = search (rules, take_more) in
    let fits : FitsInBlock x.items = fits_between (texts_of (take i xs)) (texts_of (drop (i + 1) xs)) x.items (subst AllFit (around xs i x next) all) in
    search (rules, fits)
