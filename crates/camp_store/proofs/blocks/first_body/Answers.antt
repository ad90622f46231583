use Rattle.camp_store.proofs.Words.{rules, ◌≡◌, ◌++◌, ℕ, List, not, true, length, take, refl, sym, ap, ◌∙◌, arith, length-append, append_assoc, true≢false, take_at, body, digest_after, head}
use Rattle.std.proofs.lemmas.Bool.{not-false}
use Rattle.std.proofs.lemmas.Option.{none-some, same_Some}
use Rattle.std.proofs.lemmas.Slice.Eq.{bytes_eq-Decides}
use Rattle.std.specs.Str.{bytes_eq}
use Rattle.camp_store.proofs.HeadLemmas.{head_at, long_body, text_at}
use Rattle.camp_store.proofs.blocks.first_body.Goals as goal

pub returns-then-bytes-lt-HEAD_LEN : goal.returns-then-bytes-lt-HEAD_LEN
returns-then-bytes-lt-HEAD_LEN c text rest fits is =
    omega (arith, c.if-bytes-lt-HEAD_LEN.true, ap (λ (l : List ℕ). length l) is, long_body c.args.before.now text rest)

pub returns-in-None : goal.returns-in-None
returns-in-None c text rest fits is =
    let front = c.split_at.ensures.front ∙ head_at c.args.before.now text rest c.args.bytes.now is in
    none-some (length text) (sym c.in-None.is ∙ c.decode_size.ensures c.args.before.now text fits front)

pub returns-then-after-size : goal.returns-then-after-size
returns-then-after-size c text rest fits is =
    let front = c.split_at.ensures.front ∙ head_at c.args.before.now text rest c.args.bytes.now is in
    let size : c.in-Some.size ≡ length text = same_Some _ _ (sym c.in-Some.is ∙ c.decode_size.ensures c.args.before.now text fits front) in
    let after : c.split_at.result.1.now ≡ text ++ rest = c.split_at.ensures.back ∙ text_at c.args.before.now text rest c.args.bytes.now is in
    omega (arith, c.if-after-size.true, size, ap (λ (l : List ℕ). length l) after, length-append text rest)

pub returns-then-ne : goal.returns-then-ne
returns-then-ne c text rest fits is =
    let before = c.args.before.now in
    let front = c.split_at.ensures.front ∙ head_at before text rest c.args.bytes.now is in
    let size : c.in-Some.size ≡ length text = same_Some _ _ (sym c.in-Some.is ∙ c.decode_size.ensures before text fits front) in
    let after : c.split_at.result.1.now ≡ text ++ rest = c.split_at.ensures.back ∙ text_at before text rest c.args.bytes.now is in
    let same : c.split_at-2.result.0.now ≡ text =
    c.split_at-2.ensures.front ∙ (λ i. take (size i) (after i)) ∙ take_at text rest (length text) refl in
    let digest : c.digest_after-digest.result ≡ digest_after before text = c.digest_after-digest.ensures ∙ ap (λ (l : List ℕ). digest_after before l) same in
    let line : c.as_slice.result.now ≡ head before text = c.as_slice.ensures.value ∙ c.in_ok-line.ensures before text (sym size) digest in
    true≢false (sym c.if-ne.true ∙ c.ne.ensures ∙ ap not ((bytes_eq-Decides c.split_at.result.0.now c.as_slice.result.now).1 (front ∙ sym line)))

pub returns : goal.returns
returns c =
    let before = c.args.before.now in
    let text = c.split_at-2.result.0.now in
    let rest = c.split_at-2.result.1.now in
    let equal : bytes_eq c.split_at.result.0.now c.as_slice.result.now ≡ true = not-false (bytes_eq c.split_at.result.0.now c.as_slice.result.now) (sym c.ne.ensures ∙ c.if-ne.false) in
    let found : c.split_at.result.0.now ≡ c.as_slice.result.now = (bytes_eq-Decides c.split_at.result.0.now c.as_slice.result.now).0 equal in
    let line : c.as_slice.result.now ≡ head before text = c.as_slice.ensures.value ∙ c.in_ok-line.ensures before text c.split_at-2.ensures.front_len c.digest_after-digest.ensures in
    let split : c.args.bytes.now ≡ body before text ++ rest =
    c.split_at.ensures.by_index.0 ∙ (λ i. (found ∙ line) i ++ c.split_at-2.ensures.by_index.0 i) ∙ sym (append_assoc (head before text) text rest) in
    (split, search rules, c.digest_after-digest.ensures)
