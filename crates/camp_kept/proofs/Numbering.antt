-- The offset at which a file is damaged: the length of the blocks before it.
use Rattle.std.proofs.Common.{◌≡◌, inl, inr, ◌+◌, min, nat_lt, ℕ, Bool, true, false, List, [], ◌∷◌, ◌++◌, length, refl, sym, ◌∙◌, ap, subst, arith, append_assoc}
use Rattle.std.proofs.lemmas.Bool.{ltb-false, ltb-true}
use Rattle.camp_kept.specs.Accepting.{History}
use Rattle.camp_kept.specs.Titles.{CanBeLimits, title_of}
use Rattle.camp_kept.specs.Faults.{IsDamagedAt, ReportsNumber}
use Rattle.camp_kept.specs.Replaying.{AreReplayed, RefusesText}
use Rattle.camp_kept.proofs.ReplayLemmas.{next_is}
use Rattle.camp_notes.specs.declared.logs.PlacedNote.{PlacedNote}
use Rattle.camp_object.specs.Histories.{IsLegal}
use Rattle.camp_object.specs.Objects.{begun}
use Rattle.camp_repo.specs.Limits.{Bounds}
use Rattle.camp_repo.specs.Objects.{repository}
use Rattle.camp_store.specs.Blocks.{AreBlocks, DecodesTo, chain, digest_after, first_digest}
use Rattle.camp_store.proofs.BlockLemmas.{are-append, block_more, one_block}
use Rattle.camp_store.proofs.HeadLemmas.{long_body}

-- how many bytes the blocks of texts have
abbrev pub size : List (List ℕ) → ℕ
size [] = 0
size (text ∷ texts) = 27 + length text + size texts

pub size-push : (texts : List (List ℕ)) (text : List ℕ) → size (texts ++ text ∷ []) ≡ size texts + (27 + length text)
size-push [] text = omega arith
size-push (t ∷ texts) text = omega (arith, size-push texts text)

are_long : (before : List ℕ) (texts : List (List ℕ)) (bytes : List ℕ) → AreBlocks before texts bytes → length bytes ≡ size texts
are_long before [] bytes are = ap (λ (l : List ℕ). length l) are
are_long before (text ∷ texts) bytes (rest, block, more) =
    omega (arith, ap (λ (l : List ℕ). length l) block.split, long_body before text rest, are_long (digest_after before text) texts rest more)

-- a saturating sum
pub stops : (at step total sum : ℕ) → sum ≡ min (at + step) 18446744073709551615 → ReportsNumber at total → ReportsNumber sum (total + step)
stops at step total sum is (inr large) = inr (omega (arith, large))
stops at step total sum is (inl same) = by (nat_lt (at + step) 18446744073709551616) refl
  where
    by : (b : Bool) → nat_lt (at + step) 18446744073709551616 ≡ b → ReportsNumber sum (total + step)
    by true fits = inl (omega (arith, is, same, ltb-true (at + step) 18446744073709551616 fits))
    by false large = inr (omega (arith, same, ltb-false (at + step) 18446744073709551616 large))

-- the blocks of texts, and of others after them
pub record SplitBlocks (before : List ℕ) (texts others : List (List ℕ)) (bytes : List ℕ) : Type 0 where
  pub front : List ℕ
  pub rest : List ℕ
  pub split : bytes ≡ front ++ rest
  pub are : AreBlocks before texts front
  pub more : AreBlocks (chain before texts) others rest

split_blocks : (before : List ℕ) (texts others : List (List ℕ)) (bytes : List ℕ) → AreBlocks before (texts ++ others) bytes → SplitBlocks before texts others bytes
split_blocks before [] others bytes are = record { front = []; rest = bytes; split = refl; are = refl; more = are }
split_blocks before (text ∷ texts) others bytes (after, block, more) =
    let split_at = split_blocks (digest_after before text) texts others after more in
    let one = one_block before text after bytes block in
    record {
      front = one.0 ++ split_at.front;
      rest = split_at.rest;
      split = one.1 ∙ ap (λ (l : List ℕ). one.0 ++ l) split_at.split ∙ sym (append_assoc one.0 split_at.front split_at.rest);
      are = are-append before (text ∷ []) texts one.0 split_at.front one.2 split_at.are;
      more = split_at.more;
    }

-- a file of a title and of texts, one of which is of no entry that can come there
pub damaged_there : (limits : Bounds) (done : List (List ℕ)) (text : List ℕ) (rest : List (List ℕ)) (history : History) (notes : List PlacedNote) → CanBeLimits limits → AreReplayed limits done history notes
    → IsLegal (begun repository history.first) history.calls → RefusesText history text
    → (call at : ℕ) → ReportsNumber call (length done + 1) → ReportsNumber at (27 + length (title_of limits) + size done) → (file : List ℕ) → DecodesTo (title_of limits ∷ (done ++ text ∷ rest)) file → IsDamagedAt call at file
damaged_there limits done text rest history notes range asked legal none call at call_is at_is file decodes =
    let split_at = split_blocks first_digest (title_of limits ∷ done) (text ∷ rest) decodes.front decodes.are in
    let long = are_long first_digest (title_of limits ∷ done) split_at.front split_at.are in
    record {
      texts = title_of limits ∷ done;
      some = omega arith;
      front = split_at.front;
      rest = split_at.rest ++ decodes.end;
      split = decodes.split ∙ ap (λ (l : List ℕ). l ++ decodes.end) split_at.split ∙ append_assoc split_at.front split_at.rest decodes.end;
      are = split_at.are;
      call_is = subst (λ (n : ℕ). ReportsNumber call n) (omega arith) call_is;
      at_is = subst (λ (n : ℕ). ReportsNumber at n) (omega (arith, long)) at_is;
      wrong = inr (record {
        before = record { limits = limits; calls = asked.calls; notes = notes };
        accepted = record {
          range = range;
          can = asked.can;
          legal = subst (λ (h : History). IsLegal (begun repository h.first) h.calls) asked.is legal;
        };
        are = record { others = done; title = refl; entries = asked.entries };
        text = text;
        after = split_at.more.0 ++ decodes.end;
        block = block_more (chain first_digest (title_of limits ∷ done)) text split_at.more.0 decodes.end split_at.rest split_at.more.1;
        none = λ entry text_is next. none entry next.can text_is (next_is limits history asked.calls asked.is entry.call next.call);
      });
    }
