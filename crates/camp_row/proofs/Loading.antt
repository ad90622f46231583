-- Loads keep the invariant, and teach what `specs/Inside/Steps` says.
use Rattle.camp_row.proofs.Words.{◌≡◌, ℕ, ◌+◌, ◌*◌, ◌<◌, List, [], ◌∷◌, ◌++◌, length, cond, ◌==◌, sym, refl, ap, ◌∙◌, subst, arith, set, slice_index, All, map, All-weaker, All-map, Entry, Knowledge, IsProperPrefix, own_entries, entry_count, cell_of, head_word, FitsRow, Part, parts_of, finds, index_word, HasCell, Knows, IsRuled, SeatFindsChain, LoadedHead, Walked, Advanced, sum_by, spent}
use Rattle.camp_row.proofs.Prefixes.{prefix_refl, cut_longer, cut_pushed}
use Rattle.camp_row.proofs.Cells.{own_of_next}
use Rattle.camp_row.proofs.Ruling.{Owes, only, sum_set, parts_of-cons, keep, word_same, knows, keep_words}

parts_of-finds : (chain : List Entry) (number : ℕ) (ps : List Part) → parts_of number (map (finds chain) ps) ≡ parts_of number ps
parts_of-finds chain number [] = refl
parts_of-finds chain number (p ∷ ps) =
    parts_of-cons number (finds chain p) (map (finds chain) ps) ∙ (ap (λ n. cond (p.number == number) 1 0 + n) (parts_of-finds chain number ps) ∙ sym (parts_of-cons number p ps))

module _ (seats per_seat : ℕ) (words : List ℕ) (chain : List Entry) (fits : FitsRow seats per_seat chain) where
  pub finds_knows : (p : Part) → Knows seats per_seat words chain p → Knows seats per_seat words chain (finds chain p)
  finds_knows p k = record { sizes = k.sizes; seen = k.seen; ahead = prefix_refl chain; own_seen = k.own_seen; draft = k.draft; empty = k.empty }

  pub finds_chain : (found : ℕ) → found ≡ head_word seats chain → (p : Part) → Knows seats per_seat words chain p → SeatFindsChain found chain p
  finds_chain found named p k = record {
    named = named ∙ ap (λ s. head_word s chain) (sym k.sizes.0);
    grows = k.ahead;
    sound = record { prefix = k.seen; own_seen = k.own_seen; fits = subst (λ s. FitsRow s p.per_seat chain) (sym k.sizes.0) (subst (λ t. FitsRow seats t chain) (sym k.sizes.1) fits) };
  }

-- a load of the head
pub loads_head : (seats per_seat id : ℕ) (v : Knowledge) → Owes seats per_seat id v 0 (λ n. n) (λ found w. LoadedHead found v.parts w.parts)
loads_head seats per_seat id v words views ruled at =
    let K : Part → Type 0 = Knows seats per_seat words ruled.chain in
    let known : All K v.parts = ruled.known id v at in
    let w : Knowledge = record { parts = map (finds ruled.chain) v.parts } in
    let mine : All K w.parts = All-map K (finds ruled.chain) v.parts (All-weaker K (λ p. K (finds ruled.chain p)) (finds_knows seats per_seat words ruled.chain ruled.fits) v.parts known) in (
      w,
      subst (λ ws. IsRuled seats per_seat ws (set views id w)) (sym (word_same words 0))
          (keep seats per_seat words views ruled id v at words ruled.chain w refl ruled.head ruled.linked ruled.fits (λ n. parts_of-finds ruled.chain n v.parts) mine (λ q _ k. k)),
      record {
        chain = ruled.chain;
        one_each = λ n.
            let f : Knowledge → ℕ = λ u. parts_of n u.parts in
            let without : sum_by f (set views id spent) + f v ≡ sum_by f views + 0 = sum_set f views id v spent at in
            omega (arith, ruled.one_each n);
        each = All-weaker K (SeatFindsChain (slice_index words 0) ruled.chain) (finds_chain seats per_seat words ruled.chain ruled.fits (slice_index words 0) ruled.head) v.parts known;
        is = refl;
      },
    )

module _ (seats per_seat id : ℕ) (p : Part) (i : ℕ) where
  -- a load of a parent or index word
  pub walks : Owes seats per_seat id (only p) i (λ n. n) (λ found w. Walked i found (p ∷ []) w.parts)
  walks words views ruled at =
      let k = knows seats per_seat words views ruled id p at in (
        only p,
        keep_words seats per_seat words views ruled id p at i p refl k,
        (
          refl,
          λ before e after cut.
              let held : HasCell words (cell_of p.seats before e) (head_word p.seats before) e.index =
              subst (λ s. HasCell words (cell_of s before e) (head_word s before) e.index) (sym k.sizes.0) (ruled.linked before e (after ++ k.ahead.rest) (cut_longer before e after p.ahead k.ahead.rest ruled.chain cut k.ahead.is)) in (
                (λ is. ap (slice_index words) is ∙ held.parent_is),
                (λ is. ap (slice_index words) is ∙ held.index_is),
              ),
        ),
      )

  -- a load of the index word of the next cell
  pub advances : (next : IsProperPrefix p.seen p.ahead) → i ≡ index_word (cell_of p.seats p.seen next.next) → Owes seats per_seat id (only p) i (λ n. n) (λ found w. Advanced found (p ∷ []) w.parts)
  advances next word_is words views ruled at =
      let k = knows seats per_seat words views ruled id p at in
      let e : Entry = next.next in
      let later : List Entry = next.rest ++ k.ahead.rest in
      let cut : p.seen ++ e ∷ later ≡ ruled.chain = cut_longer p.seen e next.rest p.ahead k.ahead.rest ruled.chain next.is k.ahead.is in
      let q : Part = record p { seen = p.seen ++ e ∷ [] } in
      let own_is : own_entries p.number q.seen ≡ own_entries p.number p.seen = own_of_next p.number p.seen e later ruled.chain cut k.own_seen in
      let entry_count_is : entry_count p.number q.seen ≡ entry_count p.number p.seen = ap length own_is in
      let held : HasCell words (cell_of p.seats p.seen e) (head_word p.seats p.seen) e.index =
      subst (λ s. HasCell words (cell_of s p.seen e) (head_word s p.seen) e.index) (sym k.sizes.0) (ruled.linked p.seen e later cut) in (
        only q,
        keep_words seats per_seat words views ruled id p at i q refl (record {
          sizes = k.sizes;
          seen = record { rest = later; is = cut_pushed p.seen later e ∙ cut };
          ahead = k.ahead;
          own_seen = k.own_seen ∙ sym own_is;
          draft = subst (λ t. t < per_seat → HasCell words (t * seats + p.number) p.parent p.index) (sym entry_count_is) k.draft;
          empty = subst (λ t. (nth : ℕ) → t < nth → nth < per_seat → HasCell words (nth * seats + p.number) 0 0) (sym entry_count_is) k.empty;
        }),
        record { next = next; index = ap (slice_index words) word_is ∙ held.index_is; is = refl },
      )
