use Rattle.std.proofs.Common.{◌≡◌, ◌++◌, List, ℕ, sym, ap, ◌∙◌, true≢false}
use Rattle.percent_encoding.specs.Iter.{decoded_bytes}
use Rattle.percent_encoding.specs.Percent.{percent_decode}
use Rattle.camp_coding.specs.GitPaths.{escaped_path}
use Rattle.camp_coding.proofs.EscapeLemmas.{decoded_path}
use Rattle.camp_coding.proofs.paths.unescape_path.Goals as goal

pub returns : goal.returns
returns c = record {
  exact = λ path bytes same.
      let read : c.append_to.new.out.items ≡ path =
      c.in_ok-append_to.ensures.ok
      ∙ ap (λ (l : List ℕ). l ++ decoded_bytes c.percent_decode.result) c.new-path.ensures.items
      ∙ c.percent_decode.ensures.bytes
      ∙ ap percent_decode (sym same)
      ∙ decoded_path path bytes in
      true≢false (
      sym (c.is_same_text.ensures.1 (c.deref-2.ensures.value ∙ c.in_ok-escaped.ensures.exact ∙ ap escaped_path (c.deref.ensures.value ∙ read) ∙ same))
      ∙ c.if-is_same_text.false
      );
}
