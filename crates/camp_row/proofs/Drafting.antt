-- Stores to a seat's next cell keep the invariant: that cell is not in the chain, and belongs to no other seat.
use Rattle.camp_row.proofs.Words.{◌≡◌, ◌≢◌, ℕ, ◌+◌, ◌*◌, ◌<◌, List, [], ◌∷◌, ◌++◌, length, sym, refl, ap, ◌∙◌, subst, arith, set, get_or, get_or-set_same, get_or-set_other, length-set, same_from_place, row_fits, some, get_elem?, Entry, Knowledge, entry_count, cell_of, head_word, Part, parent_word, index_word, HasCell, IsRuled, StoredParent, StoredIndex}
use Rattle.camp_row.proofs.Cells.{entry_count_cut}
use Rattle.camp_row.proofs.Ruling.{Owes, only, knows, keep_one, has_cell_other}

-- the seat's next cell, which the row has
abbrev pub next_cell : Part → ℕ
next_cell p = entry_count p.number p.seen * p.seats + p.number

abbrev pub HasRoom : Part → Type 0
HasRoom p = entry_count p.number p.seen < p.per_seat

module _ (seats per_seat : ℕ) (words : List ℕ) (views : List Knowledge) (ruled : IsRuled seats per_seat words views) (id : ℕ) (p : Part) (at : get_elem? views id ≡ some (only p)) where
  unpublished : (before : List Entry) (e : Entry) (after : List Entry) → before ++ e ∷ after ≡ ruled.chain → cell_of seats before e ≢ entry_count p.number p.seen * seats + p.number
  unpublished before e after cut same =
      let k = knows seats per_seat words views ruled id p at in
      let both = same_from_place (entry_count e.seat before) e.seat (entry_count p.number p.seen) p.number seats (ruled.fits before e after cut).0 k.sizes.2 same in
      let more : entry_count p.number before < entry_count p.number ruled.chain = subst (λ s. entry_count s before < entry_count s ruled.chain) both.1 (entry_count_cut before e after ruled.chain cut) in
      let own_is : entry_count p.number ruled.chain ≡ entry_count p.number p.seen = ap length k.own_seen in
      let count_is : entry_count p.number before ≡ entry_count p.number p.seen = ap (λ s. entry_count s before) (sym both.1) ∙ both.0 in
      absurd (omega arith)

  pub in_row : HasRoom p → index_word (next_cell p) < length words
  in_row room =
      let k = knows seats per_seat words views ruled id p at in
      let row = row_fits (entry_count p.number p.seen) seats per_seat seats (subst (λ n. entry_count p.number p.seen < n) k.sizes.1 room) (omega arith) in
      let cell : next_cell p ≡ entry_count p.number p.seen * seats + p.number = ap (λ s. entry_count p.number p.seen * s + p.number) k.sizes.0 in
      let below = k.sizes.2 in
      let long = ruled.sized in
      omega arith

  -- a store to the word i, one of that cell's two, by which they become a and b
  stored : (i x a b : ℕ) → ((cell : ℕ) → cell ≢ next_cell p → (i ≢ parent_word cell) × (i ≢ index_word cell)) → 0 < i → HasCell (set words i x) (next_cell p) a b
      → IsRuled seats per_seat (set words i x) (set views id (only (record p { parent = a; index = b })))
  stored i x a b apart above held =
      let k = knows seats per_seat words views ruled id p at in
      let mine : ℕ = entry_count p.number p.seen * seats + p.number in
      let mine_is : next_cell p ≡ mine = ap (λ s. entry_count p.number p.seen * s + p.number) k.sizes.0 in
      let words' : List ℕ = set words i x in
      let still : (cell parent index : ℕ) → cell ≢ mine → HasCell words cell parent index → HasCell words' cell parent index =
      λ cell parent index ne. let two = apart cell (λ e. ne (e ∙ mine_is)) in has_cell_other words i x cell parent index two.0 two.1 in
      keep_one seats per_seat words views ruled id p at words' ruled.chain (record p { parent = a; index = b })
      (length-set words i x)
      (get_or-set_other words i 0 x 0 (λ same. absurd (omega arith)) ∙ ruled.head)
      (λ before e after cut. still (cell_of seats before e) (head_word seats before) e.index (unpublished before e after cut) (ruled.linked before e after cut))
      ruled.fits
      refl
      (record {
        sizes = k.sizes;
        seen = k.seen;
        ahead = k.ahead;
        own_seen = k.own_seen;
        draft = λ room. subst (λ cell. HasCell words' cell a b) mine_is held;
        empty = λ nth later room. still (nth * seats + p.number) 0 0 (λ same. let t = (same_from_place nth p.number (entry_count p.number p.seen) p.number seats k.sizes.2 k.sizes.2 same).0 in absurd (omega arith)) (k.empty nth later room);
      })
      (λ o differs ko.
      let ne : (nth : ℕ) → nth * seats + o.number ≢ mine = λ nth same. differs (same_from_place nth o.number (entry_count p.number p.seen) p.number seats ko.sizes.2 k.sizes.2 same).1 in
      record {
        sizes = ko.sizes;
        seen = ko.seen;
        ahead = ko.ahead;
        own_seen = ko.own_seen;
        draft = λ room. still (entry_count o.number o.seen * seats + o.number) o.parent o.index (ne (entry_count o.number o.seen)) (ko.draft room);
        empty = λ nth later room. still (nth * seats + o.number) 0 0 (ne nth) (ko.empty nth later room);
      })

  pub held_now : HasRoom p → HasCell words (next_cell p) p.parent p.index
  held_now room =
      let k = knows seats per_seat words views ruled id p at in
      subst (λ s. HasCell words (entry_count p.number p.seen * s + p.number) p.parent p.index) (sym k.sizes.0) (k.draft (subst (λ n. entry_count p.number p.seen < n) k.sizes.1 room))

module _ (seats per_seat id : ℕ) (p : Part) (room : HasRoom p) (i x : ℕ) where
  -- a store to the parent word of the seat's next cell
  pub drafts_parent : i ≡ parent_word (next_cell p) → Owes seats per_seat id (only p) i (λ _. x) (λ _ w. StoredParent x (p ∷ []) w.parts)
  drafts_parent i_is words views ruled at =
      let inside = in_row seats per_seat words views ruled id p at room in (
        only (record p { parent = x }),
        stored seats per_seat words views ruled id p at i x x p.index (λ other ne. ((λ e. ne (omega arith)), (λ e. absurd (omega arith)))) (omega arith) (record {
          parent_is = ap (λ j. get_or (set words i x) j 0) (sym i_is) ∙ get_or-set_same words i x 0 (omega arith);
          index_is = get_or-set_other words i (index_word (next_cell p)) x 0 (λ e. absurd (omega arith)) ∙ (held_now seats per_seat words views ruled id p at room).index_is;
        }),
        refl,
      )

  -- a store to its index word
  pub drafts_index : i ≡ index_word (next_cell p) → Owes seats per_seat id (only p) i (λ _. x) (λ _ w. StoredIndex x (p ∷ []) w.parts)
  drafts_index i_is words views ruled at =
      let inside = in_row seats per_seat words views ruled id p at room in (
        only (record p { index = x }),
        stored seats per_seat words views ruled id p at i x p.parent x (λ other ne. ((λ e. absurd (omega arith)), (λ e. ne (omega arith)))) (omega arith) (record {
          parent_is = get_or-set_other words i (parent_word (next_cell p)) x 0 (λ e. absurd (omega arith)) ∙ (held_now seats per_seat words views ruled id p at room).parent_is;
          index_is = ap (λ j. get_or (set words i x) j 0) (sym i_is) ∙ get_or-set_same words i x 0 (omega arith);
        }),
        refl,
      )
