use Rattle.camp_script.proofs.Common.{◌++◌, take}
use Rattle.std.proofs.KnownBytes.{Appends-trans, Appends-kept}
use Rattle.camp_script.proofs.TextLemmas.{moved_on}
use Rattle.camp_script.proofs.texts.write_text.Goals.{in-Ok, in-Err}
use Rattle.camp_script.proofs.texts.write_text.Goals as goal

pub loop-preserved : goal.loop-preserved
loop-preserved g c =
    let (done, split, appended) = c.loop.invariant in
    let rest = c.loop.rest.now in
    elim c.match-write.branch [
      | in-Ok w ↦ rw w.rest-is (done ++ take w.in-Ok.count rest, moved_on _ done rest w.in-Ok.count split, Appends-trans _ _ _ _ _ appended w.in-Ok.ensures.bytes)
      | in-Err w ↦ rw w.rest-is (done, split, Appends-kept _ _ _ _ appended w.in-Err.ensures.bytes)
    ]
