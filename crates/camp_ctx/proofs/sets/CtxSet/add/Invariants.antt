use Rattle.camp_ctx.proofs.Words.{take, entries, get, find, key_cmp, Key, map_of, AddsAll, ChangesAt}
use Rattle.camp_ctx.proofs.sets.CtxSet.add.Given as goal

abbrev pub invariant-loop-index : goal.invariant-loop-index
invariant-loop-index l =
    (key : Key) → ChangesAt (AddsAll l.r) (find key_cmp key (take l.index (entries l.set))) (get (map_of key_cmp l.members) key)
