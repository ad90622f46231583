use Rattle.std.proofs.Common.{◌≡◌, ◌++◌, ◌∷◌, [], List, ℕ, Bor, map, length, append-nil, sym, ap, ◌∙◌, arith}
use Rattle.std.proofs.lemmas.List.{map-append, nil_from_length}
use Rattle.camp_coding.specs.Contents.{has_full_last, without_empty_end}
use Rattle.camp_coding.proofs.ContentLemmas.{content_lines_from_pieces, lacks_from_pieces, lines_from_pieces, no_pieces}
use Rattle.camp_coding.proofs.lines.split_lines.Goals as goal

pub returns-in-None : goal.returns-in-None
returns-in-None c =
    let left = c.pop.new.self in
    let size : length left.items ≡ 0 = omega (arith, left.ok.0, c.in-None.ensures.cases.1) in
    let none : left.items ≡ [] = nil_from_length left.items size in
    let are =
    ap (map (λ (line : Bor (List ℕ)). line.now)) (sym (append-nil left.items) ∙ sym c.in-None.ensures.items) ∙ c.in_ok-lines.ensures in
    let nil = ap (map (λ (line : Bor (List ℕ)). line.now)) none in
    record {
      has = no_pieces c.args.content.now (map (λ (line : Bor (List ℕ)). line.now) left.items) are nil;
      lines = nil ∙ ap without_empty_end (sym nil ∙ are);
      lacks = ap has_full_last (sym nil ∙ are);
    }

pub returns : goal.returns
returns c =
    let left = c.pop.new.self in
    let pieces =
    sym (map-append (λ (line : Bor (List ℕ)). line.now) left.items (c.in-Some.last ∷ []))
    ∙ ap (map (λ (line : Bor (List ℕ)). line.now)) (sym c.in-Some.ensures.items)
    ∙ c.in_ok-lines.ensures in
    let before = map (λ (line : Bor (List ℕ)). line.now) left.items in
    record {
      has = lines_from_pieces c.args.content.now before c.in-Some.last.now _ _ pieces c.in_ok-lines_before.ensures;
      lines = content_lines_from_pieces c.args.content.now before c.in-Some.last.now _ _ pieces c.in_ok-lines_before.ensures;
      lacks = lacks_from_pieces c.args.content.now before c.in-Some.last.now _ _ pieces c.in_ok-lines_before.ensures;
    }
