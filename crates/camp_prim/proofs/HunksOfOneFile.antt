-- Two successive hunks of one file can be applied in the other order.
use Rattle.camp_prim.proofs.Words.{◌≡◌, ℕ, ◌+◌, ◌≤◌, [], ◌∷◌, ◌++◌, length, refl, sym, ap, ◌∙◌, arith, append_assoc, length-append, Lines, SplicesLines}

-- if lines are split in two ways, the longer prefix is the shorter one and the lines between the two positions
pub record Cut (xs ys us vs : Lines) : Type 0 where
  pub middle : Lines
  pub front : us ≡ xs ++ middle
  pub rear : ys ≡ middle ++ vs

pub cut : (xs ys us vs : Lines) → xs ++ ys ≡ us ++ vs → length xs ≤ length us → Cut xs ys us vs
cut [] ys us vs e h = record { middle = us; front = refl; rear = e }
cut (x ∷ xs) ys [] vs e h = absurd (omega arith)
cut (x ∷ xs) ys (u ∷ us) vs e h =
    let tails : xs ++ ys ≡ us ++ vs = cc in
    let heads : x ≡ u = cc in
    let c = cut xs ys us vs tails (omega arith) in
    let f : us ≡ xs ++ c.middle = c.front in
    record { middle = c.middle; front = cc; rear = c.rear }

-- the middle may be counted to the prefix or to the suffix
front_to_rear : (x m n a : Lines) → x ++ m ++ n ++ a ≡ x ++ (m ++ n ++ a)
front_to_rear x m n a = append_assoc (x ++ m) n a ∙ append_assoc x m (n ++ a) ∙ ap (λ r. x ++ r) (sym (append_assoc m n a))

rear_to_front : (x m n a : Lines) → x ++ (m ++ (n ++ a)) ≡ x ++ m ++ n ++ a
rear_to_front x m n a = sym (append_assoc x m (n ++ a)) ∙ sym (append_assoc (x ++ m) n a)

-- two changes of one file, with the lines between them
pub record SplicesTwice (line : ℕ) (gone come : Lines) (line' : ℕ) (gone' come' : Lines) (old new : Lines) : Type 0 where
  pub between : Lines
  pub first : SplicesLines line gone come old between
  pub second : SplicesLines line' gone' come' between new

-- the same changes, inverted
pub taken_back : {line : ℕ} {gone come old new : Lines} → SplicesLines line gone come old new → SplicesLines line come gone new old
taken_back s = record { before = s.before; after = s.after; at = s.at; was = s.becomes; becomes = s.was }

both_taken_back : {line line' : ℕ} {gone come gone' come' old new : Lines} → SplicesTwice line gone come line' gone' come' old new → SplicesTwice line' come' gone' line come gone new old
both_taken_back t = record { between = t.between; first = taken_back t.second; second = taken_back t.first }

module _ (line line' gap : ℕ) (o n o' n' : Lines) (old new : Lines) where
  -- the second is below what the first leaves
  pub lower_first : line' ≡ line + length n + gap → SplicesTwice line o n line' o' n' old new → SplicesTwice (line + length o + gap) o' n' line o n old new
  lower_first stands t =
      let b = t.first.before in
      let a = t.first.after in
      let b' = t.second.before in
      let a' = t.second.after in
      let at : length b + 1 ≡ line = t.first.at in
      let at' : length b' + 1 ≡ line' = t.second.at in
      let sum : length (b ++ n) ≡ length b + length n = length-append b n in
      let c = cut (b ++ n) a b' (o' ++ a') (sym t.first.becomes ∙ t.second.was ∙ append_assoc b' o' a') (omega arith) in
      let m = c.middle in
      let front : length b' ≡ length b + length n + length m = ap length c.front ∙ length-append (b ++ n) m ∙ ap (λ k. k + length m) sum in
      let behind : length (b ++ o ++ m) ≡ length b + length o + length m = length-append (b ++ o) m ∙ ap (λ k. k + length m) (length-append b o) in
      record {
        between = b ++ o ++ m ++ n' ++ a';
        first = record {
          before = b ++ o ++ m;
          after = a';
          at = omega arith;
          was = t.first.was ∙ ap (λ r. b ++ o ++ r) c.rear ∙ rear_to_front (b ++ o) m o' a';
          becomes = refl;
        };
        second = record {
          before = b;
          after = m ++ n' ++ a';
          at = at;
          was = front_to_rear (b ++ o) m n' a';
          becomes = t.second.becomes ∙ ap (λ r. r ++ n' ++ a') c.front ∙ front_to_rear (b ++ n) m n' a';
        };
      }

-- the first is below what the second removes
pub upper_first : (line line' gap : ℕ) (o n o' n' old new : Lines) → line ≡ line' + length o' + gap → SplicesTwice line o n line' o' n' old new → SplicesTwice line' o' n' (line' + length n' + gap) o n old new
upper_first line line' gap o n o' n' old new stands t = both_taken_back (lower_first line' line gap n' o' n o new old stands (both_taken_back t))
