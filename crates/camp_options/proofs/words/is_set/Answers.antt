use Rattle.camp_options.proofs.Common.{◌≡◌, ℕ, List, Option, Some, codes, subst, sym, true, ◌↔◌, found_of, one_text, one_text-rows}
use Rattle.camp_options.proofs.Program.{flag_is}
use Rattle.camp_options.proofs.words.is_set.Goals as goal

pub returns : goal.returns
returns c =
    let found = found_of c.args.matches.now in
    let set = flag_is _ (one_text found c.args.name.now) c.get_one.result c.get_one.ensures.none c.get_one.ensures.value in
    let read = rw (sym c.unwrap_or.ensures) at set in
    record { exact = subst (λ (o : Option (List ℕ)). (c.unwrap_or.result ≡ true) ↔ (o ≡ Some (codes "true"))) (one_text-rows found c.args.name.now) read }
