-- Reads a line piece by piece, and stores as much of it as fits.
use Rattle.camp_talk.proofs.Words.{◌≡◌, ◌≢◌, ℕ, zero, suc, ◌+◌, ◌-◌, ◌<◌, ◌≤◌, min, Bool, true, false, cond, ◌==◌, nat_lt, List, [], ◌∷◌, ◌++◌, length, take, drop, position_or_len, Consumes, Consumes-trans, drop-append_seam, take-append_seam, All-append, All-cons, All-nil, as_read, Seen, Option, refl, sym, ap, subst, ◌∙◌, append_assoc, append-nil, arith, take_all, take-take, length-append, length-take-le, eqb-true, zero-le, take_more, passes_at_first, Ends, EndsAt, IsLine, ReadsLine, StopsAtLine, StopsInLine, Takes, with_last, feed_of, ended, seen_of, slice_set, not}
use Rattle.std.proofs.lemmas.Bool.{eqb-false, ltb-false, ltb-true}
use Rattle.std.proofs.lemmas.Bool.Decides.{nat_tests}
use Rattle.camp_talk.proofs.Cuts.{lines-last, lines-line}
use Rattle.camp_talk.proofs.Parts.{ends_after}
use Rattle.camp_talk.specs.declared.lines.Seen.TheVariants as seen

-- ---- prefixes

-- a prefix, followed by as much as fits
pub take_behind : (capacity : ℕ) (done more : List ℕ)
    → take capacity done ++ take (capacity - length (take capacity done)) more ≡ take capacity (done ++ more)
take_behind zero done more = refl
take_behind (suc capacity) [] more =
    let all : suc capacity - 0 ≡ suc capacity = omega arith in
    ap (λ n. take n more) all
take_behind (suc capacity) (byte ∷ done) more =
    let front = take capacity done in
    let left : suc capacity - suc (length front) ≡ capacity - length front = omega arith in
    ap (λ n. byte ∷ (front ++ take n more)) left ∙ ap (λ bytes. byte ∷ bytes) (take_behind capacity done more)

-- a prefix of a prefix
pub take_least : (len capacity : ℕ) (bytes : List ℕ) (n : ℕ) → n ≡ min len capacity → take n bytes ≡ take capacity (take len bytes)
take_least zero capacity bytes n is =
    let none : n ≡ 0 = omega arith in
    ap (λ k. take k bytes) none ∙ sym (take_all capacity [] zero-le)
take_least (suc len) zero bytes n is =
    let none : n ≡ 0 = omega arith in
    ap (λ k. take k bytes) none
take_least (suc len) (suc capacity) [] n is = take_all n [] zero-le
take_least (suc len) (suc capacity) (byte ∷ bytes) n is =
    let m = min len capacity in
    let next : n ≡ suc m = omega arith in
    ap (λ k. take k (byte ∷ bytes)) next ∙ ap (λ front. byte ∷ front) (take_least len capacity bytes m refl)

-- ---- what a reader shows

abbrev feed : ℕ → Bool
feed byte = byte == 10

pub before_feed : (shown : List ℕ) → IsLine (take (position_or_len feed shown) shown)
before_feed [] = All-nil (λ byte. byte ≢ 10)
before_feed (byte ∷ shown) = at (byte == 10) refl (before_feed shown)
  where
    at : (b : Bool) → (byte == 10) ≡ b → IsLine (take (position_or_len feed shown) shown)
        → IsLine (take (cond (not b) (1 + position_or_len feed shown) 0) (byte ∷ shown))
    at true same others = All-nil (λ byte. byte ≢ 10)
    at false other others =
        let n = position_or_len feed shown in
        let next : suc n ≡ 1 + n = omega arith in
        subst (λ k. IsLine (take k (byte ∷ shown))) next
        (All-cons (λ byte. byte ≢ 10) byte (take n shown) (eqb-false byte 10 other) others)

module _ (shown : List ℕ) where
  abbrev len : ℕ
  len = position_or_len feed shown

  -- the bytes taken of what is shown
  pub taken_of : take (len + length (feed_of (seen_of (length shown) len))) shown
      ≡ take len shown ++ feed_of (seen_of (length shown) len)
  taken_of = at (nat_lt len (length shown)) refl (length shown == 0)
    where
      at : (b : Bool) → nat_lt len (length shown) ≡ b → (empty : Bool)
          → take (len + length (feed_of (cond b seen.Line (cond empty seen.End seen.Part)))) shown
          ≡ take len shown ++ feed_of (cond b seen.Line (cond empty seen.End seen.Part))
      at true more empty =
          take_more shown len 0 (ltb-true len (length shown) more)
          ∙ ap (λ byte. take len shown ++ byte ∷ []) (eqb-true _ 10 (passes_at_first feed shown 0 (ltb-true len (length shown) more)))
      at false all true = ap (λ n. take n shown) (omega arith) ∙ sym (append-nil (take len shown))
      at false all false = ap (λ n. take n shown) (omega arith) ∙ sym (append-nil (take len shown))

-- the bytes of a line and its line feed, if that is shown
pub line_fed : (shown : List ℕ) → position_or_len feed shown < length shown
    → take (position_or_len feed shown + 1) shown ≡ take (position_or_len feed shown) shown ++ 10 ∷ []
line_fed shown within =
    let len = position_or_len feed shown in
    take_more shown len 0 within ∙ ap (λ byte. take len shown ++ byte ∷ []) (eqb-true _ 10 (passes_at_first feed shown 0 within))

-- no more is taken than is shown
pub taken_within : (shown before : ℕ) → before ≤ shown → before + length (feed_of (seen_of shown before)) ≤ shown
taken_within shown before within = at (nat_lt before shown) refl (shown == 0)
  where
    at : (more : Bool) → nat_lt before shown ≡ more → (empty : Bool)
        → before + length (feed_of (cond more seen.Line (cond empty seen.End seen.Part))) ≤ shown
    at true is empty = omega (arith, ltb-true before shown is)
    at false is true = omega (arith, within)
    at false is false = omega (arith, within)

module _ (a b : Option (List ℕ)) where
  pub ends_at : (shown len : ℕ) → (shown ≡ 0 → Ends a b) → EndsAt a b (seen_of shown len)
  ends_at shown len ends = at (nat_lt len shown) (shown == 0) refl
    where
      at : (more empty : Bool) → (shown == 0) ≡ empty → EndsAt a b (cond more seen.Line (cond empty seen.End seen.Part))
      at true empty is = tt
      at false true is = ends (eqb-true shown 0 is)
      at false false is = tt

  -- nothing is taken
  pub none_taken : (capacity : ℕ) (old : List ℕ) → Consumes a b [] → Takes a b capacity seen.Part old old
  none_taken capacity old consumes = record {
    line = [];
    is_line = All-nil (λ byte. byte ≢ 10);
    grows = sym (ap (λ bytes. old ++ bytes) (take_all capacity [] zero-le) ∙ append-nil old);
    consumes = consumes;
    ends = tt;
  }

  -- what is shown is taken
  pub shown_taken : (capacity : ℕ) (shown old new : List ℕ)
      → new ≡ old ++ take (min (position_or_len feed shown) capacity) shown
      → Consumes a b (take (position_or_len feed shown + length (feed_of (seen_of (length shown) (position_or_len feed shown)))) shown)
      → (length shown ≡ 0 → Ends a b) → Takes a b capacity (seen_of (length shown) (position_or_len feed shown)) old new
  shown_taken capacity shown old new grows consumes ends = record {
    line = take (position_or_len feed shown) shown;
    is_line = before_feed shown;
    grows = grows ∙ ap (λ bytes. old ++ bytes) (take_least (position_or_len feed shown) capacity shown (min (position_or_len feed shown) capacity) refl);
    consumes = subst (Consumes a b) (taken_of shown) consumes;
    ends = ends_at (length shown) (position_or_len feed shown) ends;
  }

module _ (a b c : Option (List ℕ)) (capacity : ℕ) (old mid new : List ℕ) where
  -- a part of a line after a part
  taken_behind : (left : ℕ) (met : Seen) → Takes a b capacity seen.Part old mid → left ≡ capacity - (length mid - length old)
      → Takes b c left met mid new → Takes a c capacity met old new
  taken_behind left met first is then = record {
    line = first.line ++ then.line;
    is_line = All-append (λ byte. byte ≢ 10) first.line then.line first.is_line then.is_line;
    grows = then.grows ∙ ap (λ bytes. bytes ++ take left then.line) first.grows
        ∙ append_assoc old (take capacity first.line) (take left then.line)
        ∙ ap (λ bytes. old ++ bytes) (ap (λ n. take capacity first.line ++ take n then.line) same ∙ take_behind capacity first.line then.line);
    consumes = subst (Consumes a c) joined (Consumes-trans a b c (first.line ++ []) (then.line ++ feed_of met) first.consumes then.consumes);
    ends = at met then.ends;
  }
    where
      same : left ≡ capacity - length (take capacity first.line)
      same = omega (arith, is, ap length first.grows, length-append old (take capacity first.line))

      joined : (first.line ++ []) ++ (then.line ++ feed_of met) ≡ (first.line ++ then.line) ++ feed_of met
      joined = ap (λ bytes. bytes ++ (then.line ++ feed_of met)) (append-nil first.line)
          ∙ sym (append_assoc first.line then.line (feed_of met))

      at : (s : Seen) → EndsAt b c s → EndsAt a c s
      at seen.Part ends = tt
      at seen.Line ends = tt
      at seen.End ends = ends_after a b c (first.line ++ []) first.consumes ends

  -- given the remaining capacity
  pub taken_on : (start len : ℕ) {shown met : Seen} → start ≡ length old → len ≡ length mid → Takes a b capacity seen.Part old mid → shown ≡ met
      → Takes b c (capacity - (len - start)) shown mid new → Takes a c capacity met old new
  taken_on start len {shown} {met} starts ends first is then =
      taken_behind (capacity - (len - start)) met first (omega arith) (subst (λ (seen : Seen). Takes b c (capacity - (len - start)) seen mid new) is then)

-- ---- a line that is too long is shortened

pub as_read_short : (line : List ℕ) → length line ≤ 1_048_576 → as_read line ≡ line
as_read_short [] short = refl
as_read_short (byte ∷ line) short =
    let fits : nat_lt (length line) 1_048_576 ≡ true = grind (arith, nat_tests) in
    ap (λ b. byte ∷ cond b line (63 ∷ take 4_096 (drop 1 line))) fits

as_read_long : (first second : ℕ) (rest : List ℕ) → 1_048_575 ≤ length rest
    → as_read (first ∷ second ∷ rest) ≡ first ∷ 63 ∷ take 4_096 rest
as_read_long first second rest long =
    let over : nat_lt (length (second ∷ rest)) 1_048_576 ≡ false = grind (arith, nat_tests) in
    ap (λ b. first ∷ cond b (second ∷ rest) (63 ∷ take 4_096 rest)) over

-- a line, and the prefix of it that is stored
pub as_read_front : (line : List ℕ) → as_read (take 1_048_577 line) ≡ as_read line
as_read_front [] = refl
as_read_front (first ∷ []) = refl
as_read_front (first ∷ second ∷ rest) = at (nat_lt (length rest) 1_048_575) refl
  where
    at : (b : Bool) → nat_lt (length rest) 1_048_575 ≡ b
        → as_read (first ∷ second ∷ take 1_048_575 rest) ≡ as_read (first ∷ second ∷ rest)
    at true short = ap (λ bytes. as_read (first ∷ second ∷ bytes)) (take_all 1_048_575 rest (omega (arith, ltb-true (length rest) 1_048_575 short)))
    at false long =
        let most = ltb-false (length rest) 1_048_575 long in
        let held = length-take-le 1_048_575 rest most in
        as_read_long first second (take 1_048_575 rest) (omega arith)
        ∙ ap (λ bytes. first ∷ 63 ∷ bytes) (take-take 4_096 1_048_575 rest (omega arith))
        ∙ sym (as_read_long first second rest most)

pub cut_is : (text : List ℕ) (start : ℕ) → 1_048_576 < length text - start
    → take (start + 4_098) (slice_set text (start + 1) 63) ≡ take start text ++ as_read (drop start text)
cut_is [] start long = absurd (omega arith)
cut_is (first ∷ []) zero long = absurd (omega arith)
cut_is (first ∷ second ∷ rest) zero long = sym (as_read_long first second rest (omega arith))
cut_is (first ∷ text) (suc start) long =
    let place : suc start + 1 ≡ suc (start + 1) = omega arith in
    let size : suc start + 4_098 ≡ suc (start + 4_098) = omega arith in
    ap (λ n. take (suc start + 4_098) (slice_set (first ∷ text) n 63)) place
    ∙ ap (λ n. take n (first ∷ slice_set text (start + 1) 63)) size
    ∙ ap (λ bytes. first ∷ bytes) (cut_is text start (omega (arith, long)))

-- ---- a line

module _ (a b : Option (List ℕ)) (old mid new : List ℕ) where
  cut_behind : (line : List ℕ) → mid ≡ old ++ take 1_048_577 line
      → new ≡ take (length old) mid ++ as_read (drop (length old) mid) → new ≡ old ++ as_read line
  cut_behind line grows cut =
      cut ∙ ap (λ bytes. take (length old) bytes ++ as_read (drop (length old) bytes)) grows
      ∙ ap (λ front. front ++ as_read (drop (length old) (old ++ take 1_048_577 line))) (take-append_seam old (take 1_048_577 line))
      ∙ ap (λ bytes. old ++ as_read bytes) (drop-append_seam old (take 1_048_577 line))
      ∙ ap (λ bytes. old ++ bytes) (as_read_front line)

  pub whole_line : (last : List ℕ) → Takes a b 1_048_577 seen.Line old mid
      → new ≡ take (length old) mid ++ as_read (drop (length old) mid) → last ≡ new ++ 10 ∷ [] → ReadsLine a b true old last
  whole_line last takes cut ended_is =
      let line = takes.line in (
        as_read line,
        record {
          whole = line ∷ [];
          left = [];
          are_read = refl;
          is_read = refl;
          grows = ended_is ∙ ap (λ bytes. bytes ++ 10 ∷ []) (cut_behind line takes.grows cut)
              ∙ append_assoc old (as_read line) (10 ∷ []) ∙ ap (λ bytes. old ++ bytes) (nils (as_read line));
          consumes = subst (Consumes a b) (nils line) takes.consumes;
          are_lines = All-cons IsLine line [] takes.is_line (All-nil IsLine);
          is_line = All-nil (λ byte. byte ≢ 10);
        },
      )
    where
      nils : (line : List ℕ) → line ++ 10 ∷ [] ≡ ended (line ∷ []) ++ []
      nils line = sym (append-nil (line ++ 10 ∷ [])) ∙ sym (append-nil ((line ++ 10 ∷ []) ++ []))

  pub last_line : Takes a b 1_048_577 seen.End old mid
      → new ≡ take (length old) mid ++ as_read (drop (length old) mid) → ReadsLine a b false old new
  last_line takes cut =
      let line = takes.line in (
        as_read line,
        record {
          whole = [];
          left = line;
          are_read = refl;
          is_read = refl;
          grows = cut_behind line takes.grows cut;
          consumes = subst (Consumes a b) (append-nil line) takes.consumes;
          are_lines = All-nil IsLine;
          is_line = takes.is_line;
        },
        takes.ends,
      )

-- ---- reading stops

few_last : (last : List ℕ) → length (with_last [] last) ≤ 1
few_last [] = omega arith
few_last (byte ∷ last) = omega arith

module _ (a b : Option (List ℕ)) (line : List ℕ) (is : IsLine line) where
  -- in a line
  pub part_of_line : Consumes a b (line ++ []) → StopsInLine a b
  part_of_line consumes = record { some = line; reads = subst (Consumes a b) (append-nil line) consumes; is_line = is }

  -- after a line
  pub stops_behind_line : Consumes a b (line ++ 10 ∷ []) → StopsAtLine a b
  stops_behind_line consumes = record {
    some = line ++ 10 ∷ [];
    reads = consumes;
    one = subst (λ (ls : List (List ℕ)). length ls ≤ 1) (sym (lines-line line [] is)) (omega arith);
  }

-- a part of a line is no more than a line
pub stops_in_line : (a b : Option (List ℕ)) → StopsInLine a b → StopsAtLine a b
stops_in_line a b stops = record {
  some = stops.some;
  reads = stops.reads;
  one = subst (λ (ls : List (List ℕ)). length ls ≤ 1) (sym (lines-last stops.some stops.is_line)) (few_last stops.some);
}

-- nothing more is read
pub stops_here : (a b c : Option (List ℕ)) (bytes : List ℕ) → Consumes a b bytes → Consumes b c [] → Consumes a c bytes
stops_here a b c bytes first none = subst (Consumes a c) (append-nil bytes) (Consumes-trans a b c bytes [] first none)
