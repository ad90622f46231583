use Rattle.camp_options.proofs.Common.{◌≡◌, ◌∙◌, ℕ, List, ap, codes, map, refl, subst, sym, Option, unwrap_or, ExplainsUnsignedError, HasUnsignedDigitsIfOk, ParsesUnsigned, found_of, App, Row, fault_of, is_simple, is_simple_and_free, matches_of, rows_of, Given, program}
use Rattle.clap.proofs.WalkLemmas.{first_value-rows}
use Rattle.camp_options.proofs.Program.{tries_of}
use Rattle.camp_options.proofs.words.options.Goals as goal

pub unwrap-requires : goal.unwrap-requires
unwrap-requires g c =
    let tries = tries_of c.in_ok-command.field-0 c.in_ok-matches.matches c.in_ok-command.ensures c.in_ok-matches.ensures.parsed _ (λ bs r. ParsesUnsigned 32 10 bs r × ExplainsUnsignedError 10 bs r × HasUnsignedDigitsIfOk bs r) (λ text x h. h.0) c.get_one.result c.get_one.ensures.value in
    rw tries.is refl

pub returns : goal.returns
returns g c =
    let words = map g.S.AsStr.text c.args.words.now in
    let program_is = c.in_ok-command.ensures in
    let matches = c.in_ok-matches.ensures.matches (ap is_simple program_is) in
    let rows : rows_of (found_of c.in_ok-matches.matches) ≡ matches_of program words = matches.0 ∙ ap (λ (a : App). matches_of a words) program_is in
    let tries = tries_of c.in_ok-command.field-0 c.in_ok-matches.matches program_is c.in_ok-matches.ensures.parsed _ (λ bs r. ParsesUnsigned 32 10 bs r × ExplainsUnsignedError 10 bs r × HasUnsignedDigitsIfOk bs r) (λ text x h. h.0) c.get_one.result c.get_one.ensures.value in
    let is : tries.number ≡ c.unwrap.result = ap (λ (o : Option ℕ). unwrap_or o tries.number) (sym tries.is ∙ c.unwrap.ensures) in
    record {
      given = subst (λ (rs : List Row). Given rs (record { serial = c.is_set.result; tries = c.unwrap.result; history = c.is_set-2.result; limits = c.get_str.result })) rows
          (record { serial = c.is_set.ensures.exact; tries = rw is at tries.writes; history = c.is_set-2.ensures.exact; limits = c.get_str.ensures ∙ first_value-rows (found_of c.in_ok-matches.matches) (codes "limits") });
      range = (rw is at tries.least, rw is at tries.most);
      refused = ap (λ (a : App). fault_of a words) (sym program_is) ∙ c.in_ok-matches.ensures.kinds (ap is_simple_and_free program_is);
    }
