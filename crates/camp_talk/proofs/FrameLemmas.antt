-- Frames of requests and of answers, piece by piece.
use Rattle.camp_talk.proofs.Words.{◌==◌, ◌≡◌, ◌≢◌, ◌<◌, ◌≤◌, inl, inr, ℕ, Bool, true, false, cond, List, [], ◌∷◌, ◌++◌, length, take, drop, Option, None, Some, refl, sym, ap, subst, ◌∙◌, append_assoc, arith, true≢false, take_all, length-append, length-take, All, All-cons, All-drop, All-head, All-nil, Appends, Appends-trans, AppendsSome, Err, Ok, Result, list_all, drop-append_seam, and_parts, Consumes, Consumes-trans, append-nil, ◌-◌, lines_of, first_of, IsLine, IsReading, StopsInLine, Takes}
use Rattle.std.proofs.Common.{unwrap_or, ◌&&◌}
use Rattle.std.specs.Prelude.{MatchResult}
use Rattle.std.proofs.lemmas.Bool.{eqb-false}
use Rattle.std.proofs.lemmas.Bool.Decides.{nat_tests}
use Rattle.std.proofs.lemmas.List.{nil_from_length}
use Rattle.std.proofs.lemmas.Option.{none-some}
use Rattle.camp_base.specs.Signs.{is_between, is_digit}
use Rattle.camp_script.specs.Words.{count_of, value_of}
use Rattle.camp_talk.proofs.Cuts.{lines-line}
use Rattle.camp_talk.proofs.Parts.{ends_after}
use Rattle.camp_talk.specs.Engine.Framings.{BeginsWithFrame}
use Rattle.std.proofs.Common.{◌+◌, length-drop, length-take-le, take-append-drop}
use Rattle.std.specs.List.{position_or_len}
use Rattle.camp_talk.proofs.LineReads.{line_fed}
use Rattle.camp_talk.specs.Frames.{BeginsNoFrame, EndsWithin, HasNoFrame, IsFrame, ReadsCut, ReadsNoFrame, ReadsPart}
use Rattle.camp_talk.specs.Inside.Framing.{IsCounted, IsNotCounted, ReadsBytes, ReadsFewer, ReadsFrame, ReadsMore, ReadsNothing}
use Rattle.camp_talk.specs.Laws.{UnservedBytesHaveNoFrame}
use Rattle.camp_talk.specs.declared.faults.TalkFault.{TalkFault}
use Rattle.camp_talk.specs.declared.faults.TalkFault.TheVariants.{Memory, Read}
use Rattle.camp_talk.specs.declared.frames.FrameFault.{FrameFault}
use Rattle.camp_talk.specs.declared.lines.Seen.TheVariants as seen
use Rattle.camp_talk.specs.declared.frames.FrameFault.TheVariants.{NoNumber, Talk, TooLarge}

-- ---- the line before a request

digit_is : (byte : ℕ) → is_digit byte ≡ true → byte ≢ 10
digit_is byte is = λ (same : byte ≡ 10). true≢false (sym is ∙ ap is_digit same)

digits_are_line : (digits : List ℕ) → list_all is_digit digits ≡ true → IsLine digits
digits_are_line [] are = All-nil (λ byte. byte ≢ 10)
digits_are_line (byte ∷ digits) are =
    let both = and_parts (is_digit byte) (list_all is_digit digits) are in
    All-cons (λ byte. byte ≢ 10) byte digits (digit_is byte both.0) (digits_are_line digits both.1)

module _ (line : List ℕ) where
  abbrev tested : Bool
  tested = is_between 1 10 (length line) && list_all is_digit line

  tested_at : (b : Bool) (n : ℕ) → cond b (Some (value_of line)) None ≡ Some n → b ≡ true
  tested_at true n is = refl
  tested_at false n is = absurd (none-some n is)

  module _ (n : ℕ) (is : count_of line ≡ Some n) where
    pub counted_line : IsLine line
    counted_line = digits_are_line line (and_parts (is_between 1 10 (length line)) (list_all is_digit line) (tested_at tested n is)).1

    pub counted_short : length line ≤ 10
    counted_short =
        let between : is_between 1 10 (length line) ≡ true =
        (and_parts (is_between 1 10 (length line)) (list_all is_digit line) (tested_at tested n is)).0 in
        grind (arith, nat_tests, between)

  -- as much of it as is stored
  abbrev held : List ℕ
  held = take 1_048_577 line

-- a line that has a number is stored whole
module _ (line : List ℕ) (n : ℕ) where
  held_is : count_of (held line) ≡ Some n → held line ≡ line
  held_is is = take_all 1_048_577 line (omega (arith, counted_short (held line) n is, length-take 1_048_577 line))

  pub held_counted : count_of (held line) ≡ Some n → count_of line ≡ Some n
  held_counted is = subst (λ (bytes : List ℕ). count_of bytes ≡ Some n) (held_is is) is

  pub line_counted : count_of line ≡ Some n → count_of (held line) ≡ Some n
  line_counted is =
      ap count_of (take_all 1_048_577 line (omega (arith, counted_short line n is))) ∙ is

-- a line whose stored part has no number has none
line_none : (line : List ℕ) → count_of (held line) ≡ None → count_of line ≡ None
line_none line none = at (count_of line) refl
  where
    at : (found : Option ℕ) → count_of line ≡ found → found ≡ None
    at None is = refl
    at (Some n) is = absurd (none-some n (sym none ∙ line_counted line n is))

same_count : (some n m : ℕ) (found : Option ℕ) → found ≡ Some n → found ≡ Some m → n ≡ m
same_count some n m found one two = ap (λ (o : Option ℕ). unwrap_or o some) (sym one ∙ two)

-- ---- frames that begin with a line

module _ (line : List ℕ) (is : IsLine line) where
  same_line : (digits request more : List ℕ) → IsLine digits → digits ++ 10 ∷ request ≡ line ++ 10 ∷ more → digits ≡ line
  same_line digits request more are same =
      ap first_of (sym (lines-line digits request are) ∙ ap lines_of same ∙ lines-line line more is)

  begins_none : ((n : ℕ) → count_of line ≡ Some n → n ≤ 268_435_456 → ⊥) → BeginsNoFrame (line ++ 10 ∷ [])
  begins_none none request frame more framed same =
      let digits = framed.digits in
      let joined : digits ++ 10 ∷ request ≡ line ++ 10 ∷ more = sym framed.is ∙ same ∙ append_assoc line (10 ∷ []) more in
      let one = same_line digits request more (counted_line digits (length request) framed.counts) joined in
      none (length request) (ap count_of (sym one) ∙ framed.counts) framed.few

  pub no_number : count_of line ≡ None → BeginsNoFrame (line ++ 10 ∷ [])
  no_number none = begins_none (λ n counts few. none-some n (sym none ∙ counts))

  pub too_large : (count : ℕ) → count_of line ≡ Some count → 268_435_456 < count → BeginsNoFrame (line ++ 10 ∷ [])
  too_large count counts large = begins_none (λ n so few.
      let same : count ≡ n = same_count 0 count n (count_of line) counts so in omega (arith, same, few, large))

  -- bytes end in it
  pub cut_line : (request frame more : List ℕ) → IsFrame request frame → line ≡ frame ++ more → ⊥
  cut_line request frame more framed same =
      let digits = framed.digits in
      let joined : line ≡ digits ++ 10 ∷ (request ++ more) =
      same ∙ ap (λ bytes. bytes ++ more) framed.is ∙ append_assoc digits (10 ∷ request) more in
      let after = subst (All (λ byte. byte ≢ 10)) (ap (drop (length digits)) joined ∙ drop-append_seam digits (10 ∷ (request ++ more)))
      (All-drop (λ byte. byte ≢ 10) (length digits) line is) in
      All-head (λ byte. byte ≢ 10) 10 (request ++ more) after refl

  -- bytes end after it, with fewer than it says
  pub cut_request : (count : ℕ) (some : List ℕ) → count_of line ≡ Some count → length some < count → (request frame more : List ℕ)
      → IsFrame request frame → line ++ 10 ∷ some ≡ frame ++ more → ⊥
  cut_request count some counts few request frame more framed so =
      let digits = framed.digits in
      let joined : digits ++ 10 ∷ (request ++ more) ≡ line ++ 10 ∷ some =
      sym (so ∙ ap (λ bytes. bytes ++ more) framed.is ∙ append_assoc digits (10 ∷ request) more) in
      let one = same_line digits (request ++ more) some (counted_line digits (length request) framed.counts) joined in
      let same : count ≡ length request = same_count 0 count (length request) (count_of line) counts (ap count_of (sym one) ∙ framed.counts) in
      omega (
        arith,
        same,
        few,
        ap (λ (bytes : List ℕ). length bytes) joined,
        ap (λ (bytes : List ℕ). length bytes) one,
        length-append digits (10 ∷ (request ++ more)),
        length-append request more,
        length-append line (10 ∷ some),
      )

  -- as many bytes as it says
  pub frame_read : (count : ℕ) (request : List ℕ) → count_of line ≡ Some count → count ≤ 268_435_456 → length request ≡ count
      → IsFrame request ((line ++ 10 ∷ []) ++ request)
  frame_read count request counts few long = record {
    digits = line;
    counts = counts ∙ ap (λ (n : ℕ). Some n) (sym long);
    few = omega (arith, few, long);
    is = append_assoc line (10 ∷ []) request;
  }

  -- it does not give a number of bytes
  pub other_read : (a b : Option (List ℕ)) (why : FrameFault) → IsNotCounted (held line) why → Consumes a b (line ++ 10 ∷ [])
      → ReadsNoFrame a b why
  other_read a b NoNumber none reads = record { line = line; is_line = is; none = line_none line none; reads = reads }
  other_read a b TooLarge (count, counts, large) reads =
      record { line = line; count = count; counts = held_counted line count counts; large = large; reads = reads }
  other_read a b other none reads = absurd none

-- a part of a frame does not begin with a complete one
pub part_has_no_frame : (bytes : List ℕ) → EndsWithin bytes → HasNoFrame bytes
part_has_no_frame bytes (inl line) request frame more framed same = cut_line bytes line request frame more framed same
part_has_no_frame bytes (inr short) request frame more framed same =
    cut_request short.line (counted_line short.line short.count short.counts) short.count short.some short.counts short.short request frame more framed
    (sym short.is ∙ same)

pub unserved_bytes_have_no_frame : UnservedBytesHaveNoFrame
unserved_bytes_have_no_frame = record {
  no_number = λ line is none. no_number line is none;
  too_large = λ line count counts large. too_large line (counted_line line count counts) count counts large;
  part = part_has_no_frame;
}

-- ---- the line before a request, as it was read

-- a number was parsed
pub some_are : (n m : ℕ) → n ≡ m → (n == 0) ≡ false → 0 < m
some_are n m same is = let some = eqb-false n 0 is in omega (arith, same, some)

module _ (a b : Option (List ℕ)) (old new : List ℕ) where
  -- the input had ended
  pub reads_nothing : Takes a b 1_048_577 seen.End old new → length new ≡ 0 → ReadsNothing a b
  reads_nothing takes none =
      let few : length takes.line ≡ 0 = omega (
        arith,
        none,
        ap (λ (bytes : List ℕ). length bytes) takes.grows,
        length-append old (held takes.line),
        length-take 1_048_577 takes.line,
      ) in
      record {
        reads = subst (λ (bytes : List ℕ). Consumes a b (bytes ++ [])) (nil_from_length takes.line few) takes.consumes;
        ends = takes.ends;
      }

  -- the input has ended in it
  pub reads_cut_line : Takes a b 1_048_577 seen.End old new → length old ≡ 0 → 0 < length new → ReadsCut a b
  reads_cut_line takes first some = record {
    part = record { some = takes.line; reads = subst (Consumes a b) (append-nil takes.line) takes.consumes; within = inl takes.is_line };
    some_are = λ (none : takes.line ≡ []). omega (
      arith,
      first,
      some,
      ap (λ (bytes : List ℕ). length bytes) none,
      ap (λ (bytes : List ℕ). length bytes) takes.grows,
      length-append old (held takes.line),
      length-take 1_048_577 takes.line,
    );
    ends = takes.ends;
  }

-- reading stops within it
pub stops_in_front : (a b : Option (List ℕ)) (why : TalkFault) → IsReading why → StopsInLine a b → ReadsNoFrame a b (Talk why)
stops_in_front a b Memory is stops = record { some = stops.some; reads = stops.reads; within = inl stops.is_line }
stops_in_front a b (Read error) is stops = record { some = stops.some; reads = stops.reads; within = inl stops.is_line }
stops_in_front a b other is stops = absurd is

module _ (a b : Option (List ℕ)) (old new : List ℕ) (takes : Takes a b 1_048_577 seen.Line old new) (first : old ≡ []) where
  -- the part of it that is stored
  new_is : new ≡ held takes.line
  new_is = takes.grows ∙ ap (λ (bytes : List ℕ). bytes ++ held takes.line) first

  -- it is not a number of bytes
  pub reads_other : (why : FrameFault) → IsNotCounted new why → ReadsNoFrame a b why
  reads_other why none =
      other_read takes.line takes.is_line a b why (subst (λ (bytes : List ℕ). IsNotCounted bytes why) new_is none) takes.consumes

  module _ (c : Option (List ℕ)) (count : ℕ) (request : List ℕ) (counted : IsCounted new count) where
    counts : count_of takes.line ≡ Some count
    counts = held_counted takes.line count (subst (λ (bytes : List ℕ). count_of bytes ≡ Some count) new_is counted.0)

    abbrev bytes : List ℕ
    bytes = (takes.line ++ 10 ∷ []) ++ request

    abbrev short_part : Consumes b c request → length request < count → ReadsPart a c
    short_part reads few = record {
      some = bytes;
      reads = Consumes-trans a b c (takes.line ++ 10 ∷ []) request takes.consumes reads;
      within = inr (record {
        line = takes.line;
        some = request;
        count = count;
        counts = counts;
        few = counted.1;
        short = few;
        is = append_assoc takes.line (10 ∷ []) request;
      });
    }

    -- fewer bytes than it says
    pub reads_cut_request : ReadsBytes b c count false request → ReadsCut a c
    reads_cut_request (reads, few, ends) = record {
      part = short_part reads few;
      some_are = λ (none : bytes ≡ []). omega (
        arith,
        ap (λ (bytes : List ℕ). length bytes) none,
        length-append (takes.line ++ 10 ∷ []) request,
        length-append takes.line (10 ∷ []),
      );
      ends = ends_after a b c (takes.line ++ 10 ∷ []) takes.consumes ends;
    }

    -- as many bytes as it says
    pub reads_frame : ReadsBytes b c count true request → ReadsFrame a c request
    reads_frame (reads, long) = record {
      frame = bytes;
      is = frame_read takes.line takes.is_line count request counts counted.1 long;
      reads = Consumes-trans a b c (takes.line ++ 10 ∷ []) request takes.consumes reads;
    }

-- reading stops within a request
pub stops_in_request : (a b c : Option (List ℕ)) (old new : List ℕ) → Takes a b 1_048_577 seen.Line old new → old ≡ [] → (count : ℕ)
    → IsCounted new count → ReadsFewer b c count → (why : TalkFault) → IsReading why → ReadsNoFrame a c (Talk why)
stops_in_request a b c old new takes first count counted fewer why is = at why is
  where
    part : ReadsPart a c
    part = short_part a b old new takes first c count fewer.some counted fewer.reads fewer.fewer

    at : (why : TalkFault) → IsReading why → ReadsNoFrame a c (Talk why)
    at Memory is = part
    at (Read error) is = part
    at other is = absurd is

-- ---- reading a number of bytes

module _ (a b c : Option (List ℕ)) (count : ℕ) (old new : List ℕ) where
  -- some more were read
  pub more_read : (read : ℕ) → read ≡ length old → Consumes a b old → length old < count → ReadsMore b c (count - read) true old new
      → Consumes a c new × (length new ≤ count)
  more_read read is first fits (more, reads, grows, few) = (
    subst (Consumes a c) (sym grows) (Consumes-trans a b c old more first reads),
    omega (arith, is, fits, few, ap (λ (bytes : List ℕ). length bytes) grows, length-append old more),
  )

  -- no more can be read
  pub fewer_read : Consumes a b old → length old < count → Consumes b c [] → ReadsFewer a c count
  fewer_read first few none = record {
    some = old;
    reads = subst (Consumes a c) (append-nil old) (Consumes-trans a b c old [] first none);
    fewer = few;
  }

  -- there are no more
  pub none_more : (capacity : ℕ) → Consumes a b old → length old < count → ReadsMore b c capacity false old new
      → ReadsBytes a c count false new
  none_more capacity first few (reads, same, ends) = (
    subst (Consumes a c) (append-nil old ∙ sym same) (Consumes-trans a b c old [] first reads),
    omega (arith, few, ap (λ (bytes : List ℕ). length bytes) same),
    ends_after a b c old first ends,
  )

-- ---- the contents of a buffer

-- a line with a number of bytes, and as many after it
pub begins_frame : (bytes : List ℕ) (feed count : ℕ) → feed ≡ position_or_len (λ byte. byte == 10) bytes → feed < length bytes
    → IsCounted (take feed bytes) count → count ≤ length bytes - feed - 1 → BeginsWithFrame bytes
begins_frame bytes feed count at within counted fits = record {
  request = request;
  frame = take feed bytes ++ 10 ∷ request;
  more = drop count rest;
  is = record { digits = take feed bytes; counts = counted.0 ∙ ap Some (sym long); few = omega (arith, long, counted.1); is = refl };
  begins = sym (take-append-drop (feed + 1) bytes) ∙ ap (λ (l : List ℕ). l ++ rest) fed
      ∙ append_assoc (take feed bytes) (10 ∷ []) rest
      ∙ ap (λ (l : List ℕ). take feed bytes ++ 10 ∷ l) (sym (take-append-drop count rest))
      ∙ sym (append_assoc (take feed bytes) (10 ∷ request) (drop count rest));
}
  where
    rest : List ℕ
    rest = drop (feed + 1) bytes

    request : List ℕ
    request = take count rest

    long : length request ≡ count
    long = length-take-le count rest (omega (arith, fits, within, length-drop (feed + 1) bytes))

    fed : take (feed + 1) bytes ≡ take feed bytes ++ 10 ∷ []
    fed = subst (λ (n : ℕ). take (n + 1) bytes ≡ take n bytes ++ 10 ∷ []) (sym at) (line_fed bytes (subst (λ (n : ℕ). n < length bytes) at within))

-- ---- writing

module _ (a b : Option (List ℕ)) (text rest : List ℕ) where
  fails_first : AppendsSome a b text → AppendsSome a b (text ++ rest)
  fails_first (done, left, is, appends) =
      (done, left ++ rest, ap (λ (bytes : List ℕ). bytes ++ rest) is ∙ append_assoc done left rest, appends)

module _ (a b c : Option (List ℕ)) (front text : List ℕ) where
  fails_behind : Appends a b front → AppendsSome b c text → AppendsSome a c (front ++ text)
  fails_behind first (done, left, is, appends) = (
    front ++ done,
    left,
    ap (λ (bytes : List ℕ). front ++ bytes) is ∙ sym (append_assoc front done left),
    Appends-trans a b c front done first appends,
  )

-- the number of bytes, the line feed and the bytes of a frame are written, as far as the writer does
module _ (digits answer text : List ℕ) (is : digits ++ 10 ∷ answer ≡ text) (a b : Option (List ℕ)) where
  pub digits_fail : AppendsSome a b digits → AppendsSome a b text
  digits_fail some = subst (AppendsSome a b) is (fails_first a b digits (10 ∷ answer) some)

  pub line_end_fails : (c : Option (List ℕ)) → Appends a b digits → AppendsSome b c (10 ∷ []) → AppendsSome a c text
  line_end_fails c first some =
      subst (AppendsSome a c) is (fails_behind a b c digits (10 ∷ answer) first (fails_first b c (10 ∷ []) answer some))

  pub frame_written : {E : Type 0} (c d : Option (List ℕ)) (result : Result (Unit {0}) E) → Appends a b digits → Appends b c (10 ∷ [])
      → MatchResult result (λ done. Appends c d answer) (λ why. AppendsSome c d answer)
      → MatchResult result (λ done. Appends a d text) (λ why. AppendsSome a d text)
  frame_written c d (Ok done) first second third =
      subst (Appends a d) is (Appends-trans a b d digits (10 ∷ answer) first (Appends-trans b c d (10 ∷ []) answer second third))
  frame_written c d (Err why) first second some =
      subst (AppendsSome a d) is (fails_behind a b d digits (10 ∷ answer) first (fails_behind b c d (10 ∷ []) answer second some))
