-- What a crash leaves while a batch is appended to a file of texts.
use Rattle.camp_store.proofs.Words.{◌≡◌, inl, inr, ℕ, ◌<◌, ◌+◌, ◌-◌, List, [], ◌∷◌, ◌++◌, length, take, drop, refl, sym, ◌∙◌, ap, subst, arith, append_assoc, length-append, length-drop, take_all, cases_eq, Torn, AreBlocks, DecodesTo, blocks, chain, closed_mark, first_digest, open_mark, IsBatch, IsBeforeOrAfter, Persists, BatchesAreAtomic, WriteBegun, WrittenAndSynced}
use Rattle.camp_store.proofs.BlockLemmas.{are-append, blocks_at_any_mark, chain-append, decodes_closed}
use Rattle.camp_store.proofs.Overwriting.{front_stays, rest_stays, written_after}

-- the bytes after the first mark of a batch
after_mark_is : (new : List (List ℕ)) (digest bytes : List ℕ) → IsBatch digest new bytes → drop 1 bytes ≡ drop 1 (blocks digest new) ++ closed_mark ∷ []
after_mark_is [] digest bytes batch = absurd (omega (arith, batch.some))
after_mark_is (t ∷ ts) digest bytes batch = ap (λ (l : List ℕ). drop 1 l) batch.are

pub some_bytes : (before : List ℕ) (new : List (List ℕ)) → 0 < length new → 0 < length (blocks before new)
some_bytes before [] some = absurd (omega (arith, some))
some_bytes before (t ∷ ts) some = omega arith

-- as a slice has it
pub staged_is : {D : Type 0} (seen : D → List ℕ) (may_leave : D → List ℕ → Type 0) (bytes : List ℕ) (at : ℕ) (d0 d1 : D)
    → WrittenAndSynced seen may_leave at (take (length bytes - 1) (drop 1 bytes)) d0 d1 → WrittenAndSynced seen may_leave at (drop 1 bytes) d0 d1
staged_is seen may_leave bytes at d0 d1 synced =
    subst (λ (l : List ℕ). WrittenAndSynced seen may_leave at l d0 d1) (take_all _ _ (omega (arith, length-drop 1 bytes))) synced

module _ {D : Type 0} (seen : D → List ℕ) (may_leave : D → List ℕ → Type 0) (old new : List (List ℕ)) (digest bytes : List ℕ) (batch : IsBatch digest new bytes)
    (d0 : D) (k : ℕ) (persists : Persists seen may_leave old d0 k digest) where
  abbrev marked_front : List ℕ
  marked_front = persists.front ++ closed_mark ∷ []

  marked_front_long : k + 1 ≡ length marked_front
  marked_front_long = omega (arith, persists.length_is, length-append persists.front (closed_mark ∷ []))

  file_is : seen d0 ≡ marked_front ++ persists.after
  file_is = persists.file ∙ sym (append_assoc persists.front (closed_mark ∷ []) persists.after)

  -- after each outcome of the first write the closed mark is there
  pub staging : (m : ℕ) (d1 : D) → WriteBegun seen may_leave (k + 1) m d0 d1 → (c : List ℕ) → may_leave d1 c → DecodesTo old c
  staging m d1 begun c now =
      let from = begun c now in
      let torn : Torn (k + 1) m (marked_front ++ persists.after) c = subst (λ (f : List ℕ). Torn (k + 1) m f c) (persists.durable from.0 from.1 ∙ file_is) from.2 in
      let is : c ≡ marked_front ++ drop (k + 1) c = front_stays marked_front persists.after c (k + 1) m marked_front_long torn in
      subst (DecodesTo old) (sym (is ∙ append_assoc persists.front (closed_mark ∷ []) (drop (k + 1) c))) (decodes_closed old persists.front (drop (k + 1) c) persists.are)

  module _ (d1 : D) (staged : WrittenAndSynced seen may_leave (k + 1) (drop 1 bytes) d0 d1) where
    -- the bytes after the mark that were not overwritten
    abbrev pub left : List ℕ
    left = drop (length (drop 1 bytes)) persists.after

    abbrev pub after_mark : List ℕ
    after_mark = drop 1 bytes ++ left

    is_staged : seen d1 ≡ persists.front ++ closed_mark ∷ after_mark
    is_staged =
        let torn : Torn (k + 1) (length (drop 1 bytes)) (marked_front ++ persists.after) (seen d1) = subst (λ (f : List ℕ). Torn (k + 1) (length (drop 1 bytes)) f (seen d1)) file_is staged.others in
        written_after marked_front persists.after (seen d1) (k + 1) (length (drop 1 bytes)) marked_front_long torn (drop 1 bytes) refl staged.written
        ∙ append_assoc persists.front (closed_mark ∷ []) after_mark

    long_tail : 0 < length after_mark
    long_tail = omega (arith, length-append (drop 1 bytes) left, ap length (after_mark_is new digest bytes batch), length-append (drop 1 (blocks digest new)) (closed_mark ∷ []))

    -- the new blocks after a mark that counts
    counted : (mark : ℕ) → (mark ≡ closed_mark → ⊥) → AreBlocks first_digest (old ++ new) (persists.front ++ mark ∷ drop 1 (blocks digest new))
    counted mark counts =
        are-append first_digest old new persists.front (mark ∷ drop 1 (blocks digest new)) persists.are
        (subst (λ (d : List ℕ). AreBlocks d new (mark ∷ drop 1 (blocks digest new))) persists.digest_is (blocks_at_any_mark digest new mark batch.some batch.fit counts))

    regroup : (mark : ℕ) → persists.front ++ mark ∷ after_mark ≡ (persists.front ++ mark ∷ drop 1 (blocks digest new)) ++ closed_mark ∷ left
    regroup mark =
        ap (λ (l : List ℕ). persists.front ++ mark ∷ (l ++ left)) (after_mark_is new digest bytes batch)
        ∙ ap (λ (l : List ℕ). persists.front ++ mark ∷ l) (append_assoc (drop 1 (blocks digest new)) (closed_mark ∷ []) left)
        ∙ sym (append_assoc persists.front (mark ∷ drop 1 (blocks digest new)) (closed_mark ∷ left))

    -- the new blocks are whole whatever the mark before them
    any_mark : (mark : ℕ) → IsBeforeOrAfter old new (persists.front ++ mark ∷ after_mark)
    any_mark mark = elim (cases_eq mark closed_mark) [
      | inl closed ↦ inl (subst (λ (n : ℕ). DecodesTo old (persists.front ++ n ∷ after_mark)) (sym closed) (decodes_closed old persists.front after_mark persists.are))
      | inr counts ↦ inr (subst (DecodesTo (old ++ new)) (sym (regroup mark)) (decodes_closed (old ++ new) (persists.front ++ mark ∷ drop 1 (blocks digest new)) left (counted mark counts)))
    ]

    module _ (d2 : D) where
      pub opening : WriteBegun seen may_leave k 1 d1 d2 → (c : List ℕ) → may_leave d2 c → IsBeforeOrAfter old new c
      opening begun c now =
          let from = begun c now in
          let torn : Torn k 1 (persists.front ++ closed_mark ∷ after_mark) c = subst (λ (f : List ℕ). Torn k 1 f c) (staged.durable from.0 from.1 ∙ is_staged) from.2 in
          go (drop k c) (front_stays persists.front (closed_mark ∷ after_mark) c k 1 persists.length_is torn) (rest_stays persists.front (closed_mark ∷ after_mark) c k 1 persists.length_is torn)
        where
          go : (e : List ℕ) → c ≡ persists.front ++ e → drop 1 e ≡ after_mark → IsBeforeOrAfter old new c
          go [] is rest = absurd (omega (arith, long_tail, ap length rest))
          go (mark ∷ more) is rest = subst (IsBeforeOrAfter old new) (sym (is ∙ ap (λ (l : List ℕ). persists.front ++ mark ∷ l) rest)) (any_mark mark)

      pub acknowledged : WrittenAndSynced seen may_leave k (open_mark ∷ []) d1 d2 → Persists seen may_leave (old ++ new) d2 (k + length bytes - 1) (chain digest new)
      acknowledged synced =
          let torn : Torn k 1 (persists.front ++ closed_mark ∷ after_mark) (seen d2) = subst (λ (f : List ℕ). Torn k 1 f (seen d2)) is_staged synced.others in
          record {
            front = persists.front ++ open_mark ∷ drop 1 (blocks digest new);
            after = left;
            file = written_after persists.front (closed_mark ∷ after_mark) (seen d2) k 1 persists.length_is torn (open_mark ∷ []) refl synced.written ∙ regroup open_mark;
            are = counted open_mark (λ closed. omega (arith, closed));
            length_is = omega (arith, ap length batch.are, length-append (blocks digest new) (closed_mark ∷ []), persists.length_is, some_bytes digest new batch.some, length-append persists.front (open_mark ∷ drop 1 (blocks digest new)), length-drop 1 (blocks digest new));
            digest_is = ap (λ (d : List ℕ). chain d new) persists.digest_is ∙ sym (chain-append first_digest old new);
            durable = synced.durable;
          }

-- a batch is appended as a whole, at each moment
module _ {D : Type 0} (seen : D → List ℕ) (may_leave : D → List ℕ → Type 0) where
  pub each_moment : BatchesAreAtomic seen may_leave
  each_moment old new digest bytes at before batch persists = record {
    staging = staging seen may_leave old new digest bytes batch before at persists (length bytes - 1);
    opening = λ d1 d2 staged. opening seen may_leave old new digest bytes batch before at persists d1 staged d2;
    durable = λ d1 d2 staged. acknowledged seen may_leave old new digest bytes batch before at persists d1 staged d2;
  }
