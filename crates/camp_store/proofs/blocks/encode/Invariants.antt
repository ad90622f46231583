use Rattle.camp_store.proofs.Words.{◌≡◌, take, AllFit, blocks, chain, texts_of}
use Rattle.camp_store.proofs.blocks.encode.Given as goal

abbrev pub invariant-loop-text : goal.invariant-loop-text
invariant-loop-text l =
    (l.bytes.items ≡ blocks l.before (texts_of (take l.text-index l.texts)))
    × (l.digest ≡ chain l.before (texts_of (take l.text-index l.texts)))
    × AllFit (texts_of (take l.text-index l.texts))
