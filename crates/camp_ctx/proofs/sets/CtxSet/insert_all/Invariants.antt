use Rattle.camp_ctx.proofs.Words.{◌≡◌, take, fold, key_cmp, map_of, with_member}
use Rattle.camp_ctx.proofs.sets.CtxSet.insert_all.Given as goal

abbrev pub invariant-loop-member : goal.invariant-loop-member
invariant-loop-member l = map_of key_cmp l.members ≡ fold with_member l.self (take l.member-index l.more)
