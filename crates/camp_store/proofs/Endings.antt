-- What a crash leaves while a closed mark is written after the texts of a file.
use Rattle.camp_store.proofs.Words.{◌≡◌, inl, inr, ℕ, ◌<◌, false, List, [], ◌∷◌, ◌++◌, length, drop, refl, sym, ◌∙◌, ap, subst, arith, length-drop, Only, Torn, IsEnd, DecodesTo, closed_mark, is_closed, Persists, texts_of, WriteBegun, WrittenAndSynced, IsDecodedFrom, Reading}
use Rattle.std.proofs.lemmas.Bool.Decides.{nat_tests}
use Rattle.camp_store.proofs.BlockLemmas.{decodes_short}
use Rattle.camp_store.proofs.Overwriting.{front_stays, rest_stays, written_after}

-- an end without a closed mark has one byte at most
pub is_short : (end : List ℕ) → IsEnd end → is_closed end ≡ false → length end < 2
is_short [] ends unclosed = omega arith
is_short (mark ∷ rest) (inl closed) unclosed = absurd (grind (arith, nat_tests, closed, unclosed))
is_short (mark ∷ rest) (inr none) unclosed = omega (arith, ap length none)

module _ {D : Type 0} (seen : D → List ℕ) (may_leave : D → List ℕ → Type 0) (d0 : D) (reading : Reading) (is : IsDecodedFrom (seen d0) reading) (durable : Only (seen d0) (may_leave d0)) where
  abbrev texts : List (List ℕ)
  texts = texts_of reading.texts.items

  module _ (unclosed : reading.is_closed ≡ false) (d1 : D) where
    short : length is.end < 2
    short = is_short is.end is.ends (sym is.closed_is ∙ unclosed)

    -- in each outcome there is at most one byte after the blocks
    pub closing : WriteBegun seen may_leave reading.length 1 d0 d1 → (c : List ℕ) → may_leave d1 c → DecodesTo texts c
    closing begun c now =
        let from = begun c now in
        let torn : Torn reading.length 1 (is.front ++ is.end) c = subst (λ (f : List ℕ). Torn reading.length 1 f c) (durable from.0 from.1 ∙ is.split) from.2 in
        let rest : drop 1 (drop reading.length c) ≡ drop 1 is.end = rest_stays is.front is.end c reading.length 1 is.length_is torn in
        let few : length (drop reading.length c) < 2 = omega (arith, short, ap length rest, length-drop 1 (drop reading.length c), length-drop 1 is.end) in
        subst (DecodesTo texts) (sym (front_stays is.front is.end c reading.length 1 is.length_is torn)) (decodes_short texts is.front (drop reading.length c) is.are few)

    pub closed_now : WrittenAndSynced seen may_leave reading.length (closed_mark ∷ []) d0 d1 → Persists seen may_leave texts d1 reading.length reading.digest
    closed_now synced =
        let torn : Torn reading.length 1 (is.front ++ is.end) (seen d1) = subst (λ (f : List ℕ). Torn reading.length 1 f (seen d1)) is.split synced.others in
        record {
          front = is.front;
          after = drop 1 is.end;
          file = written_after is.front is.end (seen d1) reading.length 1 is.length_is torn (closed_mark ∷ []) refl synced.written;
          are = is.are;
          length_is = is.length_is;
          digest_is = is.digest_is;
          durable = synced.durable;
        }
