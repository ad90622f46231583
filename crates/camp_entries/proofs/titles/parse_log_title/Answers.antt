use Rattle.std.proofs.Common.{◌≡◌, ◌≢◌, true, not, sym, ap, ◌∙◌, inl}
use Rattle.std.proofs.lemmas.Bool.{not-false, true≢false}
use Rattle.std.proofs.lemmas.Slice.Eq.{bytes_eq-Decides}
use Rattle.std.specs.Prelude.{bytes_eq}
use Rattle.camp_entries.specs.Titles.{plain_log_title}
use Rattle.camp_entries.proofs.TitleLemmas.{only_named, title_is}
use Rattle.camp_entries.proofs.titles.parse_log_title.Goals as goal

pub returns-then-ne : goal.returns-then-ne
returns-then-ne c = record {
  exact = λ limits is.
      let text = c.args.text.now in
      let other : text ≢ plain_log_title = λ same. true≢false (sym ((bytes_eq-Decides text plain_log_title).1 same) ∙ sym c.eq.ensures ∙ c.if-eq.false) in
      let named = only_named text c.only_limits_of.result other c.only_limits_of.ensures limits is in
      let some = c.in-Some.is in
      let same : c.in-Some.limits ≡ limits = cc in
      let title : c.as_slice.result.now ≡ text = c.as_slice.ensures.value ∙ c.in_ok-title.ensures.exact ∙ title_is text c.in-Some.limits limits same other is in
      true≢false (sym c.if-ne.true ∙ c.ne.ensures ∙ ap not ((bytes_eq-Decides c.as_slice.result.now text).1 title));
}

pub returns : goal.returns
returns c =
    let text = c.args.text.now in
    let plain : text ≢ plain_log_title = λ same. true≢false (sym ((bytes_eq-Decides text plain_log_title).1 same) ∙ sym c.eq.ensures ∙ c.if-eq.false) in
    let equal : bytes_eq c.as_slice.result.now text ≡ true = not-false (bytes_eq c.as_slice.result.now text) (sym c.ne.ensures ∙ c.if-ne.false) in
    record {
      exact = (
        (c.in_ok-title.ensures.title.0, inl (sym ((bytes_eq-Decides c.as_slice.result.now text).0 equal) ∙ c.as_slice.ensures.value ∙ c.in_ok-title.ensures.exact)),
        λ other is.
            let named = only_named text c.only_limits_of.result plain c.only_limits_of.ensures other is in
            let some = c.in-Some.is in
            let same : c.in-Some.limits ≡ other = cc in
            same,
      );
    }
