-- The lines that were read are a command: a first line, and those that belong to it.
use Rattle.camp_talk.proofs.Words.{◌≡◌, ℕ, Bool, true, false, List, [], ◌∷◌, ◌++◌, length, map, Option, refl, sym, ap, subst, ◌∙◌, arith, lines_of, script_of_lines, CommandLines, Consumes, Consumes-trans, Ends, HasRead, IsCommand, IsLeft, ReadsCommand, ReadsHeld, ReadsLine, ReadsLines, ReadsNext, ReadsWithin, StopsAtLine, ended, with_last, TakesAll, append-nil, length-map, lines_in, ◌≤◌, as_read, call_part, first_of, script_in, lines_taken, wants}
use Rattle.camp_script.proofs.CommandCuts.{none_wanted, one_wanted, takes_wanted}
use Rattle.camp_talk.proofs.Cuts.{EndsWithLine, ends_with_line, with_last-append}
use Rattle.camp_talk.proofs.Parts.{ends_after, lines_after, lines_are_read, lines_held, none_left, reads_on}

module _ (a b : Option (List ℕ)) (bytes : List ℕ) where
  -- lines that were read are a command, if exactly the others belong to the first
  is_command : (first : List ℕ) (rest : List (List ℕ)) → ReadsLines a b [] bytes (first ∷ rest) []
      → ((others : List (List ℕ)) → lines_taken first (rest ++ others) ≡ rest) → ReadsHeld a b true bytes
  is_command first rest reads takes =
      let ends = whole_ends reads.whole reads.left reads.are_read reads.is_read in
      let lines = lines_are_read a b [] bytes (first ∷ rest) [] reads in
      record {
        command = ended reads.whole ++ reads.left;
        lines = ap lines_of reads.grows ∙ lines_held a b [] bytes (first ∷ rest) [] reads ∙ sym lines;
        reads = (
          reads.consumes,
          record {
            first = first;
            rest = rest;
            lines = lines;
            front = ends.front;
            ended = ends.is;
            takes = takes;
          },
        );
      }
    where
      whole_ends : (whole : List (List ℕ)) (left : List ℕ) → first ∷ rest ≡ map as_read whole → [] ≡ as_read left
          → EndsWithLine (ended whole ++ left)
      whole_ends [] left are is = absurd (omega (arith, ap (λ (ls : List (List ℕ)). length ls) are))
      whole_ends (line ∷ lines) left are is =
          subst (λ (left : List ℕ). EndsWithLine (ended (line ∷ lines) ++ left)) (sym (none_left left is)) (ends_with_line line lines)

  is_left : (lines : List (List ℕ)) (last : List ℕ) → ReadsLines a b [] bytes lines last → TakesAll (with_last lines last)
      → Ends a b → ReadsHeld a b false bytes
  is_left lines last reads takes ends =
      let same = lines_are_read a b [] bytes lines last reads in
      record {
        command = ended reads.whole ++ reads.left;
        lines = ap lines_of reads.grows ∙ lines_held a b [] bytes lines last reads ∙ sym same;
        reads = (reads.consumes, subst TakesAll (sym same) takes, ends);
      }

  takes_last : (last : List ℕ) → TakesAll (with_last [] last)
  takes_last [] = tt
  takes_last (byte ∷ last) = takes_wanted (call_part (byte ∷ last)) []

  lines_are : (lines : List (List ℕ)) (last : List ℕ) → ReadsLines a b [] bytes lines last → lines_of bytes ≡ with_last lines last
  lines_are lines last reads = ap lines_of reads.grows ∙ lines_held a b [] bytes lines last reads

-- a command was read, and its lines were processed
pub record IsHanded (a b : Option (List ℕ)) (whole : Bool) (bytes : List ℕ) (command : CommandLines) : Type 0 where
  pub held : ReadsHeld a b whole bytes
  pub first : List ℕ
  pub rest : List (List ℕ)
  pub has : HasRead command first rest
  pub same : script_of_lines (first ∷ rest) ≡ script_in (lines_of bytes)

-- lines of a command are processed: whole ones, or all that the input has
abbrev pub HandsOn : Option (List ℕ) → Option (List ℕ) → Bool → List ℕ → CommandLines → Type 0
HandsOn a b true bytes command =
    (first : List ℕ) × (rest : List (List ℕ)) × ReadsLines a b [] bytes (first ∷ rest) [] × HasRead command (call_part first) rest
HandsOn a b false bytes command = IsHanded a b false bytes command

-- the first line that was read
pub line_read : (a b : Option (List ℕ)) (bytes : List ℕ) {old : List ℕ} {at_end whole : Bool} → ReadsLine a b at_end old bytes → old ≡ [] → at_end ≡ whole → ReadsLine a b whole [] bytes
line_read a b bytes {old} {at_end} {whole} line none is =
    subst (λ (w : Bool). ReadsLine a b w [] bytes) is (subst (λ (old : List ℕ). ReadsLine a b at_end old bytes) none line)

pub call_read : (x : CommandLines) {call first read : List ℕ} (bytes : List ℕ) → HasRead x call [] → call ≡ call_part first → first ≡ first_of (lines_of read) → read ≡ bytes
    → HasRead x (call_part (first_of (lines_of bytes))) []
call_read x bytes has call first read =
    subst (λ (l : List ℕ). HasRead x l []) (call ∙ ap call_part (first ∙ ap (λ (bytes : List ℕ). first_of (lines_of bytes)) read)) has

-- the first line was processed
module _ (a b : Option (List ℕ)) (mid : List ℕ) (x : CommandLines) (has : HasRead x (call_part (first_of (lines_of mid))) []) where
  -- the input ends in it or after it
  first_left : ReadsLine a b false [] mid → IsHanded a b false mid x
  first_left (last, reads, ends) = record {
    held = is_left a b mid [] last reads (takes_last a b mid last) ends;
    first = call_part (first_of (lines_of mid));
    rest = [];
    has = has;
    same = subst (λ (ls : List (List ℕ)). script_of_lines (call_part (first_of ls) ∷ []) ≡ script_in ls) (sym (lines_are a b mid [] last reads)) (script_is last);
  }
    where
      script_is : (last : List ℕ) → script_of_lines (call_part (first_of (with_last [] last)) ∷ []) ≡ script_in (with_last [] last)
      script_is [] = refl
      script_is (byte ∷ last) = refl

  has_line : (line : List ℕ) → ReadsLines a b [] mid (line ∷ []) [] → HasRead x (call_part line) []
  has_line line reads = subst (λ (ls : List (List ℕ)). HasRead x (call_part (first_of ls)) []) (lines_are a b mid (line ∷ []) [] reads) has

  pub first_on : (whole : Bool) → ReadsLine a b whole [] mid → HandsOn a b whole mid x
  first_on true (line, reads) = (line, [], reads, has_line line reads)
  first_on false read = first_left read

-- the next line is processed, and nothing else is read
module _ (a b c : Option (List ℕ)) (mid bytes : List ℕ) (x y : CommandLines) (on : HandsOn a b true mid x) where
  pub next_on : (whole : Bool) → ReadsNext b c whole mid bytes x y → HandsOn a c whole bytes y
  next_on true (line, then, goes) =
      let (first, rest, reads, has) = on in
      (first, rest ++ line ∷ [], reads_on a b c [] mid bytes (first ∷ rest) (line ∷ []) [] reads then, goes (call_part first) rest has)
  next_on false (last, then, goes, ends) =
      let (first, rest, reads, has) = on in
      let all = rest ++ with_last [] last in
      let now : HasRead y (call_part first) all = goes (call_part first) rest has in
      let read : ReadsLines a c [] bytes ((first ∷ rest) ++ []) last = reads_on a b c [] mid bytes (first ∷ rest) [] last reads then in
      let same : with_last ((first ∷ rest) ++ []) last ≡ first ∷ all = with_last-append (first ∷ rest) [] last in
      let taken_is : lines_taken first all ≡ all = ap (lines_taken first) (sym (append-nil all)) ∙ now.takes [] ∙ append-nil all in
      record {
        held = is_left a c bytes ((first ∷ rest) ++ []) last read (subst TakesAll (sym same) taken_is)
            (ends_after a b c (ended reads.whole ++ reads.left) reads.consumes ends);
        first = call_part first;
        rest = all;
        has = now;
        same = sym (ap script_in (lines_are a c bytes ((first ∷ rest) ++ []) last read ∙ same));
      }

  -- reading stops in the next line
  pub stops_on : wants x.wanted ≡ true → StopsAtLine b c → ReadsWithin a c
  stops_on more stops =
      let (first, rest, reads, has) = on in
      let tail = lines_in stops.some in
      let few : length tail ≤ 1 = omega (arith, length-map (lines_of stops.some) as_read, stops.one) in
      record {
        some = (ended reads.whole ++ reads.left) ++ stops.some;
        reads = Consumes-trans a b c (ended reads.whole ++ reads.left) stops.some reads.consumes stops.reads;
        is = subst TakesAll (sym (lines_after a b [] mid (first ∷ rest) reads stops.some))
            (has.takes tail ∙ ap (λ (ls : List (List ℕ)). rest ++ ls) (one_wanted x.wanted more tail few));
      }

-- all lines were processed
pub all_on : (a b : Option (List ℕ)) (bytes : List ℕ) (x : CommandLines) (whole : Bool) → HandsOn a b whole bytes x → (whole ≡ true → wants x.wanted ≡ false) → IsHanded a b whole bytes x
all_on a b bytes x false on all = on
all_on a b bytes x true (first, rest, reads, has) all = record {
  held = is_command a b bytes first rest reads (λ others.
      has.takes others ∙ ap (λ (ls : List (List ℕ)). rest ++ ls) (none_wanted x.wanted (all refl) others) ∙ append-nil rest);
  first = call_part first;
  rest = rest;
  has = has;
  same = sym (ap script_in (lines_are a b bytes (first ∷ rest) [] reads));
}

-- ---- no more was read than a command has

-- at most one line is lines_taken whole
takes_few : (lines : List (List ℕ)) → length lines ≤ 1 → TakesAll lines
takes_few [] few = tt
takes_few (line ∷ []) few = takes_wanted (call_part line) []
takes_few (line ∷ next ∷ lines) few = absurd (omega (arith, few))

pub stops_within : (a b : Option (List ℕ)) → StopsAtLine a b → ReadsWithin a b
stops_within a b stops = record {
  some = stops.some;
  reads = stops.reads;
  is = takes_few (lines_in stops.some) (omega (arith, length-map (lines_of stops.some) as_read, stops.one));
}

-- the first line was read
pub first_within : (a b : Option (List ℕ)) (bytes : List ℕ) (whole : Bool) → ReadsLine a b whole [] bytes → ReadsWithin a b
first_within a b bytes true (line, reads) = record {
  some = ended reads.whole ++ reads.left;
  reads = reads.consumes;
  is = subst TakesAll (sym (lines_are_read a b [] bytes (line ∷ []) [] reads)) (takes_wanted (call_part line) []);
}
first_within a b bytes false (last, reads, ends) = record {
  some = ended reads.whole ++ reads.left;
  reads = reads.consumes;
  is = subst TakesAll (sym (lines_are_read a b [] bytes [] last reads)) (takes_last a b bytes last);
}

-- a command is no more than a command
pub command_left : (a b : Option (List ℕ)) (whole : Bool) (command : List ℕ) → ReadsCommand a b whole command → IsLeft command
command_left a b true command (reads, is) =
    subst TakesAll (sym is.lines) (ap (lines_taken is.first) (sym (append-nil is.rest)) ∙ is.takes [])
command_left a b false command (reads, is, ends) = is

pub command_read : (a b : Option (List ℕ)) (whole : Bool) (command : List ℕ) → ReadsCommand a b whole command → Consumes a b command
command_read a b true command (reads, is) = reads
command_read a b false command (reads, is, ends) = reads

-- a command has a line
pub command_long : (command : List ℕ) → IsCommand command → 1 ≤ length (lines_of command)
command_long command is =
    omega (arith, ap (λ (ls : List (List ℕ)). length ls) is.lines, length-map (lines_of command) as_read)
