use Rattle.std.proofs.lemmas.Result.{IfOk-weaker}
use Rattle.camp_ctx.proofs.Words.{◌∙◌, [], ◌∷◌, ◌++◌, refl, sym, label_of}
use Rattle.camp_ctx.proofs.Standing.{first_of_list, firsts_stop, named_by_patch}
use Rattle.camp_ctx.proofs.fast.after.conflicts_with_first.Goals as goal

pub returns : goal.returns
returns c =
    let a = c.args.a.now in
    let s = c.args.s.now in
    let patch = c.args.patch.now in
    let lacks = sym (named_by_patch (record { context = s; patch = patch }) s (label_of a) c.label-label.result c.has_label.result refl c.label-label.ensures.exact c.has_label.ensures c.from_ref.result.now c.has_label-2.result c.if-has_label.false c.from_ref.ensures.value c.has_label-2.ensures) ∙ c.if-has_label-2.false in
    let first = first_of_list s patch c.index-s-0.result c.requires c.index-s-0.is in
    record {
      lacks = IfOk-weaker c.firsts_do_not_merge.result _ _ (λ yes told holds. lacks) c.firsts_do_not_merge.ensures;
      stops = IfOk-weaker c.firsts_do_not_merge.result _ _ (λ yes told holds. firsts_stop (a ∷ []) (s ++ patch ∷ []) [] first.0 a c.index-s-0.result refl first.1 (rw (c.from_ref-2.ensures.value, c.from_ref-3.ensures.value) at (told holds))) c.firsts_do_not_merge.ensures;
    }
