use Rattle.std.proofs.Common.{◌≡◌, [], ◌∷◌, Ok}
use Rattle.camp_script.specs.Reading.{script_of}
use Rattle.camp_entries.proofs.BodyLemmas.{calls_with, none_of}
use Rattle.camp_entries.proofs.bodies.parse_calls.Goals as goal

pub returns-in-Some : goal.returns-in-Some
returns-in-Some c =
    let reads : script_of c.args.body.now ≡ Ok (c.in-Some.calls.items ∷ []) = rw c.in-Some.is at c.in_ok-calls.ensures in
    calls_with c.args.body.now c.in-Some.calls.items c.deref.result.now c.with_notes.result reads c.deref.ensures.value c.with_notes.ensures

pub returns-in-None : goal.returns-in-None
returns-in-None c = none_of c.args.body.now (rw c.in-None.is at c.in_ok-calls.ensures)
