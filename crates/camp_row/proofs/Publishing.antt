-- A compare_exchange of the head keeps the invariant: it adds the drafted cell to the chain if the chain is exactly
-- what was seen, and else finds a longer one.
use Rattle.camp_row.proofs.Words.{◌≡◌, ◌≢◌, ℕ, ◌+◌, ◌*◌, ◌<◌, inl, inr, List, [], ◌∷◌, ◌++◌, Bool, true, false, ◌==◌, sym, refl, ap, ◌∙◌, subst, arith, set, slice_index, MatchBool, get_or-set_same, length-set, eq-eqb, ne_eqb, cases_eq, some, either, get_elem?, Entry, Knowledge, IsPrefix, entry_count, cell_of, head_word, FitsRow, Part, finds, HasCell, Knows, IsRuled, drafted_part, won_part, WonPart, LostPart}
use Rattle.camp_row.proofs.Prefixes.{prefix_refl, prefix_both, prefix_push, prefix_cases, cut_push}
use Rattle.camp_row.proofs.Cells.{entry_count_cut, own_push_other, head_word-push, same_prefix, fits_push}
use Rattle.camp_row.proofs.Ruling.{only, knows, keep_one, keep_words, has_cell_other}
use Rattle.camp_row.proofs.Loading.{finds_knows, finds_chain}
use Rattle.camp_row.proofs.Drafting.{next_cell, HasRoom, in_row, held_now}

module _ (seats per_seat id : ℕ) (p : Part) (room : HasRoom p) (prefix : IsPrefix p.seen p.ahead) (drafted : p.parent ≡ head_word p.seats p.seen) (expected new : ℕ) (expected_is : expected ≡ head_word p.seats p.seen) (new_is : new ≡ next_cell p + 1)
    (words : List ℕ) (views : List Knowledge) (ruled : IsRuled seats per_seat words views) (at : get_elem? views id ≡ some (only p)) where
  abbrev PublishesIf : Bool → Type 0
  PublishesIf b = (w : Knowledge) × IsRuled seats per_seat (set words 0 (either b new (slice_index words 0))) (set views id w) × MatchBool b (WonPart p w.parts) (LostPart (slice_index words 0) p w.parts)

  -- the head names another cell than the last that was seen
  loses : slice_index words 0 ≢ expected → PublishesIf false
  loses differs =
      let k = knows seats per_seat words views ruled id p at in (
        only (finds ruled.chain p),
        keep_words seats per_seat words views ruled id p at 0 (finds ruled.chain p) refl (finds_knows seats per_seat words ruled.chain ruled.fits p k),
        record {
          chain = ruled.chain;
          longer = elim (prefix_cases p.seen ruled.chain k.seen) [
            | inl is ↦ absurd (differs (ruled.head ∙ (ap (head_word seats) (sym is) ∙ (ap (λ s. head_word s p.seen) (sym k.sizes.0) ∙ sym expected_is))))
            | inr more ↦ more
          ];
          finds_chain = finds_chain seats per_seat words ruled.chain ruled.fits (slice_index words 0) ruled.head p k;
          is = refl;
        },
      )

  -- it names just that one
  module _ (same : slice_index words 0 ≡ expected) where
    chain_is : ruled.chain ≡ p.seen
    chain_is =
        let k = knows seats per_seat words views ruled id p at in
        sym (same_prefix seats per_seat ruled.chain ruled.fits p.seen ruled.chain k.seen (prefix_refl ruled.chain) (ap (λ s. head_word s p.seen) (sym k.sizes.0) ∙ (sym expected_is ∙ (sym same ∙ ruled.head))))

    still : (cell parent index : ℕ) → HasCell words cell parent index → HasCell (set words 0 new) cell parent index
    still cell parent index = has_cell_other words 0 new cell parent index (λ e. absurd (omega arith)) (λ e. absurd (omega arith))

    knows_won : Knows seats per_seat (set words 0 new) (p.seen ++ drafted_part p ∷ []) (won_part p)
    knows_won =
        let k = knows seats per_seat words views ruled id p at in
        let chain' : List Entry = p.seen ++ drafted_part p ∷ [] in
        let more : entry_count p.number p.seen < entry_count p.number chain' = entry_count_cut p.seen (drafted_part p) [] chain' refl in record {
          sizes = k.sizes;
          seen = prefix_refl chain';
          ahead = prefix_refl chain';
          own_seen = refl;
          draft = λ r. still (entry_count p.number chain' * seats + p.number) 0 0 (k.empty (entry_count p.number chain') more r);
          empty = λ nth later r. still (nth * seats + p.number) 0 0 (k.empty nth (omega arith) r);
        }

    knows_others : (o : Part) → o.number ≢ p.number → Knows seats per_seat words ruled.chain o → Knows seats per_seat (set words 0 new) (p.seen ++ drafted_part p ∷ []) o
    knows_others o differs known =
        let k : Knows seats per_seat words p.seen o = subst (λ c. Knows seats per_seat words c o) chain_is known in record {
          sizes = k.sizes;
          seen = prefix_push o.seen p.seen (drafted_part p) k.seen;
          ahead = prefix_push o.ahead p.seen (drafted_part p) k.ahead;
          own_seen = own_push_other o.number p.seen (drafted_part p) (λ e. differs (sym e)) ∙ k.own_seen;
          draft = λ r. still (entry_count o.number o.seen * seats + o.number) o.parent o.index (k.draft r);
          empty = λ nth later r. still (nth * seats + o.number) 0 0 (k.empty nth later r);
        }

    wins : PublishesIf true
    wins =
        let k = knows seats per_seat words views ruled id p at in
        let e : Entry = drafted_part p in
        let chain' : List Entry = p.seen ++ e ∷ [] in
        let words' : List ℕ = set words 0 new in
        let inside = in_row seats per_seat words views ruled id p at room in
        let named : head_word p.seats chain' ≡ next_cell p + 1 = head_word-push p.seats p.seen e in
        let drafts : HasCell words' (cell_of seats p.seen e) (head_word seats p.seen) e.index =
        subst (λ s. HasCell words' (cell_of s p.seen e) (head_word s p.seen) e.index) k.sizes.0
        (still (next_cell p) (head_word p.seats p.seen) p.index (subst (λ h. HasCell words (next_cell p) h p.index) drafted (held_now seats per_seat words views ruled id p at room))) in (
          only (won_part p),
          keep_one seats per_seat words views ruled id p at words' chain' (won_part p)
              (length-set words 0 new)
              (get_or-set_same words 0 new 0 (omega arith) ∙ (new_is ∙ (sym named ∙ ap (λ s. head_word s chain') k.sizes.0)))
              (λ before f after cut. elim (cut_push before f after p.seen e cut) [
                | inl last ↦
                    subst (λ b. HasCell words' (cell_of seats b f) (head_word seats b) f.index) (sym last.0)
                    (subst (λ (x : Entry). HasCell words' (cell_of seats p.seen x) (head_word seats p.seen) x.index) (sym last.1) drafts)
                | inr older ↦ still (cell_of seats before f) (head_word seats before) f.index (ruled.linked before f older.0 (older.1 ∙ sym chain_is))
              ])
              (fits_push seats per_seat p.seen e (subst (FitsRow seats per_seat) chain_is ruled.fits) k.sizes.2 (subst (λ n. entry_count p.number p.seen < n) k.sizes.1 room))
              refl knows_won knows_others,
          record { whole = prefix_both p.ahead p.seen (subst (IsPrefix p.ahead) chain_is k.ahead) prefix; is = refl },
        )

  pub publishes : PublishesIf (slice_index words 0 == expected)
  publishes = elim (cases_eq (slice_index words 0) expected) [
    | inl same ↦ subst PublishesIf (sym (eq-eqb (slice_index words 0) expected same)) (wins same)
    | inr differs ↦ subst PublishesIf (sym (ne_eqb (slice_index words 0) expected differs)) (loses differs)
  ]
