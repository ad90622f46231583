use Rattle.camp_questions.proofs.Words.{Bool, List, ℕ, ◌≡◌, ◌&&◌, ◌∙◌, ap, filter, map, has_listed, map_of, nat_cmp, slice_cmp, Node, has_name, is_one_or_neighbour, kept_node}
use Rattle.camp_questions.proofs.Picturing.{part_made}
use Rattle.camp_questions.proofs.pictures.part_about.Goals as goal

pub returns : goal.returns
returns c pairs =
    let names : List (List ℕ) = c.args.names.now in
    let nodes : List Node = c.args.whole.now.patches in
    let others : List ℕ → Bool = has_name c.in_ok-kept.kept in
    let same : (name : List ℕ) → others name ≡ is_one_or_neighbour nodes names name = λ name. has_listed (map_of (slice_cmp nat_cmp) c.in_ok-kept.kept) name ∙ c.in_ok-kept.ensures name ∙ ap (λ l. is_one_or_neighbour l names name) c.patches.ensures.value in
    let left = c.in_ok-patches.ensures ∙ ap (λ l. map (kept_node others) (filter (λ (n : Node). others n.name) l)) c.patches-2.ensures.value in
    let between = c.in_ok-conflicts.ensures ∙ ap (filter (λ pair. others pair.0 && others pair.1)) c.conflicts.ensures.value in
    part_made (is_one_or_neighbour nodes names) others nodes c.in_ok-patches.patches.items c.args.whole.now.conflicts c.in_ok-conflicts.conflicts pairs same left between
