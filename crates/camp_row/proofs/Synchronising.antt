-- Two passes that found the same chain.
use Rattle.camp_row.proofs.Words.{subst, ◌≡◌, ◌≢◌, inl, inr, ℕ, ◌+◌, ◌≤◌, List, [], ◌∷◌, All, map, sym, ap, ◌∙◌, arith, All-head, All-tail, All-same, Seat, Entry, Knowledge, PassInside, IsPrefix, PassState, FindsChain, OneIsPrefix, Part, part_of, known_of, parts_of, finds, part, known, IsPass, SeatFindsChain, LoadedHead, ◌++◌}
use Rattle.camp_row.proofs.PassOfRow.{known_at, prefixes_compare, proper_is_prefix}
use Rattle.camp_row.proofs.Ruling.{parts_of-self}

-- both parts, after a load of the head by the seat that has both
pub record Synchronised (found : ℕ) (b a : Part) (new : List Part) : Type 0 where
  pub chain : List Entry
  pub is : new ≡ finds chain b ∷ finds chain a ∷ []
  pub a_finds : SeatFindsChain found chain a
  pub b_finds : SeatFindsChain found chain b
  pub apart : a.number ≢ b.number

pub synchronised : {found : ℕ} {b a : PassInside} {old new : List Part} → old ≡ b.seat.me.0.parts ++ a.seat.me.0.parts → IsPass b (part b) → IsPass a (part a) → LoadedHead found old new → Synchronised found (part b) (part a) new
synchronised {found} {b} {a} {old} {new} joined_views b_is a_is loaded =
    let p : Part = part b in
    let q : Part = part a in
    let both : old ≡ p ∷ q ∷ [] = joined_views ∙ (λ k. b_is.alone k ++ a_is.alone k) in
    let S : Part → Type 0 = SeatFindsChain found loaded.chain in
    let each : All S (p ∷ q ∷ []) = All-same S (p ∷ q ∷ []) old (sym both) loaded.each in
    let one : parts_of q.number old ≤ 1 = loaded.one_each q.number in record {
      chain = loaded.chain;
      is = loaded.is ∙ ap (map (finds loaded.chain)) both;
      a_finds = All-head S q [] (All-tail S p (q ∷ []) each);
      b_finds = All-head S p (q ∷ []) each;
      apart = λ same.
          let here : parts_of q.number old ≡ parts_of p.number (p ∷ q ∷ []) = (λ k. parts_of (same k) (both k)) in
          let first : parts_of p.number (p ∷ q ∷ []) ≡ 1 + parts_of p.number (q ∷ []) = parts_of-self p (q ∷ []) in
          let second : parts_of p.number (q ∷ []) ≡ 1 + parts_of q.number [] = ap (λ n. parts_of n (q ∷ [])) (sym same) ∙ parts_of-self q [] in
          absurd (omega arith);
    }

-- a pass that found the chain, as contracts see it
pub finds_known : (pass : PassInside) (seat : Seat (Unit {0}) Knowledge) (found : ℕ) (chain : List Entry) → seat.table_id ≡ pass.seat.table_id → seat.me.0.parts ≡ finds chain (part pass) ∷ [] → SeatFindsChain found chain (part pass)
    → FindsChain (known pass) (known_of seat.table_id (part_of seat.me.0.parts))
finds_known pass seat found chain table alone finds_chain =
    subst (FindsChain (known pass)) (sym (known_at seat.table_id seat.me.0.parts (finds chain (part pass)) alone)) (record {
      is = ap (λ t. known_of t (finds chain (part pass))) table;
      grows = finds_chain.grows;
      sound = record { prefix = finds_chain.sound.prefix; own_seen = finds_chain.sound.own_seen };
    })

pub one_is_prefix : (a b : PassState) (chain : List Entry) → IsPrefix a.seen chain → IsPrefix b.seen chain → OneIsPrefix a b
one_is_prefix a b chain f g = elim (prefixes_compare a.seen b.seen chain f g) [
  | inl begins ↦ inl begins
  | inr shorter ↦ inr (proper_is_prefix b.seen a.seen shorter)
]
