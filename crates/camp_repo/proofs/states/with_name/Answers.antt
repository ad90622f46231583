use Rattle.std.proofs.lemmas.List.{map-id}
use Rattle.std.proofs.lemmas.Result.{IfOk-weaker}
use Rattle.std.proofs.lemmas.Slice.Zip.{AllZip-map}
use Rattle.camp_repo.proofs.Words.{cond, ap, ◌∙◌, ◌++◌, [], ◌∷◌, list_any, bytes_eq}
use Rattle.camp_repo.proofs.states.with_name.Goals as goal

pub returns : goal.returns
returns c =
    let name = c.args.name.now in
    let cloned = AllZip-map (λ n. n) c.args.names.now.keys c.in_ok-all.all.keys c.in_ok-all.ensures.cases ∙ map-id c.args.names.now.keys in
    IfOk-weaker c.new.result _ _ (λ all is. ap (λ s. s.keys) is ∙ c.in_ok-insert.ensures.keys ∙ ap (λ ns. cond (list_any (bytes_eq name) ns) ns (ns ++ name ∷ [])) cloned) c.new.ensures.exact
