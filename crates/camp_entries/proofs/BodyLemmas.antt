-- Calls after their notes, read and taken apart.
use Rattle.std.proofs.Common.{◌≡◌, ◌≢◌, ℕ, suc, ◌+◌, ◌<◌, ◌≤◌, Bool, true, false, not, ◌&&◌, ◌==◌, nat_lt, cond, List, [], ◌∷◌, ◌++◌, length, map, take, drop, codes, count_by, refl, sym, ap, subst, ◌∙◌, arith, rules, zero, get_or, length-append, append_assoc, append-nil, filter, Result, Ok, Err, IfOk, MatchOption, Option, None, Some, Vec, Global}
use Rattle.std.specs.List.{AllByRecursion, flat_map, onto_first, slice_split}
use Rattle.std.proofs.Math.Seq.{drop-append_seam, drop-cons, take-append_seam}
use Rattle.std.proofs.lemmas.Bool.{and_parts, cond-true, false≢true}
use Rattle.std.proofs.lemmas.Bool.Decides.{nat_tests}
use Rattle.std.proofs.lemmas.List.{drop-drop, drop_all, length-map}
use Rattle.std.proofs.lemmas.List.Concat.{flat_map-cons}
use Rattle.std.proofs.lemmas.List.Sums.{count_by-le-length}
use Rattle.camp_call.specs.Calls.{is_writing}
use Rattle.camp_call.specs.declared.calls.Call.{Call}
use Rattle.camp_call.specs.declared.calls.Call.TheVariants as call
use Rattle.camp_member.specs.Notes.{WithNote}
use Rattle.camp_script.specs.Canonical.{IsListed, IsScriptCall, call_text}
use Rattle.camp_script.specs.Commands.{Command, Nothing, command_of}
use Rattle.camp_script.specs.Inside.Steps.{after_command, read_from}
use Rattle.camp_script.specs.Keeping.{HasName, ListsNames}
use Rattle.camp_script.specs.Lines.{is_blank, lines_of, words_of}
use Rattle.camp_script.specs.Reading.{script_of}
use Rattle.camp_base.specs.Results.{◌>>=◌}
use Rattle.camp_script.specs.declared.faults.LineFault.{LineFault}
use Rattle.camp_script.proofs.Agreement.{reads_as_defined}
use Rattle.camp_script.proofs.CanonicalCalls.{Reads, after, call_read, room_for, same_bytes, then}
use Rattle.camp_script.proofs.CanonicalLines.{first_line}
use Rattle.camp_script.proofs.Writable.{read_is_writable}
use Rattle.camp_entries.specs.Inside.{AreOnlyOf, AreOnlyWith, HaveText, IsNoteLength, IsOnlyNotedOf, NoneHave, NoneHaveWith, calls_in}
use Rattle.camp_entries.specs.declared.faults.EntryFault.{EntryFault}
use Rattle.camp_entries.specs.declared.faults.EntryFault.TheVariants.{Memory, Unfit}
use Rattle.camp_entries.specs.Texts.{IsNote, IsNoted, IsWhyNot, begins_note, is_note_line, is_one_line, text_of_lines, noted_text}

-- ---- a script of calls after notes is read as the calls

words_after : (n : ℕ) (parts : List (List ℕ)) → command_of n (filter (λ word. nat_lt 0 (length word)) (onto_first 35 parts)) ≡ Ok Nothing
words_after n [] = refl
words_after n (part ∷ parts) =
    ap (command_of n)
    (cond-true (nat_lt 0 (length (35 ∷ part))) ((35 ∷ part) ∷ filter (λ word. nat_lt 0 (length word)) parts) (filter (λ word. nat_lt 0 (length word)) parts) (grind (arith, nat_tests)))

-- a line of a note has no meaning
skipped : (n : ℕ) (line : List ℕ) → begins_note line ≡ true → command_of n (words_of line) ≡ Ok Nothing
skipped n [] begins = absurd (false≢true begins)
skipped n (byte ∷ line) begins =
    let first : byte ≡ 35 = grind (arith) in
    ap (λ b. command_of n (words_of (b ∷ line))) first ∙ words_after n (slice_split is_blank line)

line_read : (n : ℕ) (closed : List (List Call)) (done : List Call) (line rest : List ℕ) → is_note_line line ≡ true → Reads n (after closed done) (line ++ 10 ∷ rest) (after closed done) rest
line_read n closed done line rest note =
    let parts = and_parts (begins_note line) (is_one_line line) note in
    record {
      line = n + 1;
      is = ap (read_from n (after closed done)) (first_line line rest parts.1)
          ∙ ap (λ (r : Result Command LineFault). (r >>= after_command n (after closed done)) >>= λ p. read_from (n + 1) p (lines_of rest)) (skipped n line parts.0);
    }

note_read : (n : ℕ) (closed : List (List Call)) (done : List Call) (lines : List (List ℕ)) (rest : List ℕ) → AllByRecursion (λ line. is_note_line line ≡ true) lines → Reads n (after closed done) (text_of_lines lines ++ rest) (after closed done) rest
note_read n closed done [] rest all = record { line = n; is = refl }
note_read n closed done (line ∷ lines) rest all =
    same_bytes (text_of_lines (line ∷ lines) ++ rest) (line ++ 10 ∷ (text_of_lines lines ++ rest))
    (ap (λ t. t ++ rest) (flat_map-cons (λ l. l ++ 10 ∷ []) line lines) ∙ append_assoc (line ++ 10 ∷ []) (text_of_lines lines) rest ∙ append_assoc line (10 ∷ []) (text_of_lines lines ++ rest))
    (then (line_read n closed done line (text_of_lines lines ++ rest) all.0) (λ k. note_read k closed done lines rest all.1))

noted_read : (n : ℕ) (closed : List (List Call)) (done : List Call) (noted : List (WithNote Call)) (rest : List ℕ) → AllByRecursion IsNoted noted → count_by is_writing (done ++ calls_in noted) ≤ 65_536
    → Reads n (after closed done) (flat_map noted_text noted ++ rest) (after closed (done ++ calls_in noted)) rest
noted_read n closed done [] rest can few = record { line = n; is = ap (λ d. read_from n (after closed d) (lines_of rest)) (sym (append-nil done)) }
noted_read n closed done (one ∷ noted) rest can few =
    let more = flat_map noted_text noted ++ rest in
    let new = one.call in
    same_bytes (flat_map noted_text (one ∷ noted) ++ rest) (one.note ++ (call_text new ++ more))
    (ap (λ t. t ++ rest) (flat_map-cons noted_text one noted) ∙ append_assoc (noted_text one) (flat_map noted_text noted) rest ∙ append_assoc one.note (call_text new) more)
    (same_bytes (one.note ++ (call_text new ++ more)) (text_of_lines can.0.0.0 ++ (call_text new ++ more)) (ap (λ t. t ++ (call_text new ++ more)) can.0.0.2)
    (then (note_read n closed done can.0.0.0 (call_text new ++ more) can.0.0.1) (λ k.
    then (call_read k closed done new more can.0.1 (room_for done new (calls_in noted) few)) (λ l.
    subst (λ d. Reads l (after closed (done ++ new ∷ [])) more (after closed d) rest) (append_assoc done (new ∷ []) (calls_in noted))
    (noted_read l closed (done ++ new ∷ []) noted rest can.1 (rw append_assoc few))))))

noted_reads : (noted : List (WithNote Call)) → AllByRecursion IsNoted noted → length noted ≤ 256 → script_of (flat_map noted_text noted) ≡ Ok (calls_in noted ∷ [])
noted_reads noted can few =
    let text = flat_map noted_text noted in
    let writes = count_by-le-length is_writing (calls_in noted) in
    let size = length-map noted (λ (one : WithNote Call). one.call) in
    let reads = noted_read 1 [] [] noted [] can (omega (arith, writes, size, few)) in
    sym (reads_as_defined (lines_of text)) ∙ ap (λ t. read_from 1 (after [] []) (lines_of t)) (sym (append-nil text)) ∙ reads.is

-- ---- the calls of a body

first_of : Result (List (List Call)) LineFault → List Call
first_of (Ok []) = []
first_of (Ok (calls ∷ sections)) = calls
first_of (Err fault) = []

the_calls : (body : List ℕ) (calls : List Call) (noted : List (WithNote Call)) → script_of body ≡ Ok (calls ∷ []) → length noted ≤ 256 → HaveText body noted → calls_in noted ≡ calls
unfolding first_of
the_calls body calls noted reads few have = ap first_of (sym (noted_reads noted have.can few) ∙ ap script_of have.is ∙ reads)

pub none_of : (body : List ℕ) → ((calls : List Call) → script_of body ≢ Ok (calls ∷ [])) → NoneHave body
none_of body none noted few have = none (calls_in noted) (ap script_of (sym have.is) ∙ noted_reads noted have.can few)

pub none_with : (body : List ℕ) (calls : List Call) → script_of body ≡ Ok (calls ∷ []) → NoneHaveWith body calls → NoneHave body
none_with body calls reads none noted few have = none noted (the_calls body calls noted reads few have) have

pub only_with : (body : List ℕ) (calls : List Call) (found : List (WithNote Call)) → script_of body ≡ Ok (calls ∷ []) → AreOnlyWith body calls found → AreOnlyOf body found
only_with body calls found reads only = (
  only.0 (read_is_writable body (calls ∷ []) reads).calls.0,
  λ noted few have. only.1 noted (the_calls body calls noted reads few have) have,
)

-- what is found with the calls of a body is what is found in the body
pub calls_with : {E : Type 0} (body : List ℕ) (calls slice : List Call) (result : Result (Option (Vec (WithNote Call) Global)) E) → script_of body ≡ Ok (calls ∷ []) → slice ≡ calls
    → IfOk result (λ found. MatchOption found (NoneHaveWith body slice) (λ noted. AreOnlyWith body slice noted.items))
    → IfOk result (λ found. MatchOption found (NoneHave body) (λ noted. AreOnlyOf body noted.items))
calls_with body calls slice (Ok None) reads same found = none_with body calls reads (subst (λ cs. NoneHaveWith body cs) same found)
calls_with body calls slice (Ok (Some noted)) reads same found = only_with body calls noted.items reads (subst (λ cs. AreOnlyWith body cs noted.items) same found)
calls_with body calls slice (Err fault) reads same found = tt

-- ---- the call of a body

-- a call after its note, alone, has its text
alone_has : (text : List ℕ) (noted : WithNote Call) → IsNoted noted → noted_text noted ≡ text → HaveText text (noted ∷ [])
alone_has text noted can is = record { can = (can, tt); is = flat_map-cons noted_text noted [] ∙ append-nil (noted_text noted) ∙ is }

abbrev first_noted : WithNote Call → List (WithNote Call) → WithNote Call
first_noted other [] = other
first_noted other (noted ∷ more) = noted

pub no_call : (text : List ℕ) → NoneHave text → IsOnlyNotedOf text None
no_call text none noted can is = none (noted ∷ []) (omega arith) (alone_has text noted can is)

pub only_call : (text : List ℕ) (calls : List (WithNote Call)) (found : Option (WithNote Call)) → AreOnlyOf text calls
    → MatchOption found ((noted : WithNote Call) → calls ≢ noted ∷ []) (λ noted. calls ≡ noted ∷ []) → IsOnlyNotedOf text found
only_call text calls None only none = λ noted can is. none noted (only.1 (noted ∷ []) (omega arith) (alone_has text noted can is))
only_call text calls (Some found) only one = (
  (subst (λ list. AllByRecursion IsNoted list) one only.0).0,
  λ other can is. ap (first_noted found) (sym one ∙ only.1 (other ∷ []) (omega arith) (alone_has text other can is)),
)

-- ---- the notes before the calls

-- no call begins as a note
pub not_note : (c : Call) (rest : List ℕ) → begins_note (call_text c ++ rest) ≢ true
not_note (call.Branch new from) rest = false≢true
not_note (call.Record branch name []) rest = false≢true
not_note (call.Record branch name (change ∷ [])) rest = false≢true
not_note (call.Record branch name (change ∷ next ∷ changes)) rest = false≢true
not_note (call.Pull from to names) rest = false≢true
not_note (call.Obliterate branch names) rest = false≢true
not_note (call.Tree branch) rest = false≢true
not_note (call.Conflicts branch) rest = false≢true
not_note (call.Names branch) rest = false≢true

-- the calls whose texts follow after a known first part
pub record Left (rest : List ℕ) (calls : List Call) (done noted : List (WithNote Call)) : Type 0 where
  pub more : List (WithNote Call)
  pub is : noted ≡ done ++ more
  pub calls_are : calls_in more ≡ calls
  pub can : AllByRecursion IsNoted more
  pub text : flat_map noted_text more ≡ rest

-- whatever calls have the text begin so
abbrev pub LeftOf : List ℕ → List Call → ℕ → ℕ → List (WithNote Call) → Type 0
LeftOf body calls index at done = (noted : List (WithNote Call)) → calls_in noted ≡ calls → HaveText body noted → Left (drop at body) (drop index calls) done noted

pub left_first : (body : List ℕ) (calls : List Call) → LeftOf body calls 0 0 []
left_first body calls noted are have = record { more = noted; is = refl; calls_are = are; can = have.can; text = have.is }

-- the next of them
pub record Next (rest : List ℕ) (c : Call) (calls : List Call) (done noted : List (WithNote Call)) : Type 0 where
  pub note : List ℕ
  pub others : List ℕ
  pub is_note : IsNote note
  pub begins : rest ≡ note ++ (call_text c ++ others)
  pub left : Left others calls (done ++ record { note = note; call = c } ∷ []) noted

heads_are : {A : Type 0} (d x y : A) (xs ys : List A) → x ∷ xs ≡ y ∷ ys → x ≡ y
heads_are {A} d x y xs ys e = ap first e
  where
    first : List A → A
    first [] = d
    first (z ∷ zs) = z

tails_are : {A : Type 0} (x y : A) (xs ys : List A) → x ∷ xs ≡ y ∷ ys → xs ≡ ys
tails_are {A} x y xs ys e = ap rest e
  where
    rest : List A → List A
    rest [] = []
    rest (z ∷ zs) = zs

pub next_of : (rest : List ℕ) (c : Call) (calls : List Call) (done noted : List (WithNote Call)) → Left rest (c ∷ calls) done noted → Next rest c calls done noted
next_of rest c calls done noted left = from left.more left.is left.calls_are left.can left.text
  where
    from : (more : List (WithNote Call)) → noted ≡ done ++ more → calls_in more ≡ c ∷ calls → AllByRecursion IsNoted more → flat_map noted_text more ≡ rest → Next rest c calls done noted
    from [] is are can text = absurd (omega (arith, ap length are))
    from (one ∷ more) is are can text =
        let same : one.call ≡ c = heads_are c one.call c (calls_in more) calls are in
        let whole : one ≡ record { note = one.note; call = c } = ap (λ (d : Call). record { note = one.note; call = d }) same in
        record {
          note = one.note;
          others = flat_map noted_text more;
          is_note = can.0.0;
          begins = sym text ∙ flat_map-cons noted_text one more ∙ append_assoc one.note (call_text one.call) (flat_map noted_text more)
              ∙ ap (λ d. one.note ++ (call_text d ++ flat_map noted_text more)) same;
          left = record {
            more = more;
            is = is ∙ sym (append_assoc done (one ∷ []) more) ∙ ap (λ (o : WithNote Call). (done ++ o ∷ []) ++ more) whole;
            calls_are = tails_are one.call c (calls_in more) calls are;
            can = can.1;
            text = refl;
          };
        }

-- with the length of the note before the next call
pub left_next : (body : List ℕ) (calls : List Call) (index at note len : ℕ) (c : Call) (done : List (WithNote Call)) → drop index calls ≡ c ∷ drop (index + 1) calls → IsNoteLength (drop at body) note → len ≡ length (call_text c)
    → LeftOf body calls index at done → LeftOf body calls (index + 1) (at + (note + len)) (done ++ record { note = take note (drop at body); call = c } ∷ [])
left_next body calls index at note len c done goes is_len long follows noted are have =
    let rest = drop at body in
    let next = next_of rest c (drop (index + 1) calls) done noted (subst (λ cs. Left rest cs done noted) goes (follows noted are have)) in
    let counted : note ≡ length next.note = is_len.whole next.note (call_text c ++ next.others) next.is_note (not_note c next.others) next.begins in
    let taken : next.note ≡ take note rest = sym (ap (λ (b : List ℕ). take note b) next.begins ∙ ap (λ n. take n (next.note ++ (call_text c ++ next.others))) counted ∙ take-append_seam next.note (call_text c ++ next.others)) in
    let joined : rest ≡ (next.note ++ call_text c) ++ next.others = next.begins ∙ sym (append_assoc next.note (call_text c) next.others) in
    let size : note + len ≡ length (next.note ++ call_text c) = let both = length-append next.note (call_text c) in omega (arith, both, counted, long) in
    let dropped : drop (at + (note + len)) body ≡ next.others =
    sym (drop-drop (note + len) at body) ∙ ap (λ (b : List ℕ). drop (note + len) b) joined ∙ ap (λ n. drop n ((next.note ++ call_text c) ++ next.others)) size ∙ drop-append_seam (next.note ++ call_text c) next.others in
    subst (λ n. Left (drop (at + (note + len)) body) (drop (index + 1) calls) (done ++ record { note = n; call = c } ∷ []) noted) taken
    (subst (λ r. Left r (drop (index + 1) calls) (done ++ record { note = next.note; call = c } ∷ []) noted) (sym dropped) next.left)

-- there is no room for the next call
pub left_short : (body : List ℕ) (calls : List Call) (index at note len : ℕ) (c : Call) (done : List (WithNote Call)) → drop index calls ≡ c ∷ drop (index + 1) calls → IsNoteLength (drop at body) note → len ≡ length (call_text c)
    → length (drop at body) < note + len → LeftOf body calls index at done → NoneHaveWith body calls
left_short body calls index at note len c done goes is_len long short follows noted are have =
    let rest = drop at body in
    let next = next_of rest c (drop (index + 1) calls) done noted (subst (λ cs. Left rest cs done noted) goes (follows noted are have)) in
    let counted : note ≡ length next.note = is_len.whole next.note (call_text c ++ next.others) next.is_note (not_note c next.others) next.begins in
    let size = ap length next.begins in
    let one = length-append next.note (call_text c ++ next.others) in
    let two = length-append (call_text c) next.others in
    absurd (omega (arith, size, one, two, counted, long, short))

-- nothing is left
pub left_last : (body : List ℕ) (calls : List Call) (index at : ℕ) (done : List (WithNote Call)) → length calls ≤ index → LeftOf body calls index at done → (noted : List (WithNote Call)) → calls_in noted ≡ calls → HaveText body noted → done ≡ noted
left_last body calls index at done all follows noted are have =
    let left = follows noted are have in
    from left.more left.is (left.calls_are ∙ drop_all index calls all)
  where
    from : (more : List (WithNote Call)) → noted ≡ done ++ more → calls_in more ≡ [] → done ≡ noted
    from [] is none = sym (is ∙ append-nil done)
    from (one ∷ more) is none = absurd (omega (arith, ap length none))

pub noted_push : (done : List (WithNote Call)) (one : WithNote Call) → AllByRecursion IsNoted done → IsNoted one → AllByRecursion IsNoted (done ++ one ∷ [])
noted_push [] one all is = (is, tt)
noted_push (first ∷ done) one all is = (all.0, noted_push done one all.1 is)

pub drop_at : {A : Type 0} (xs : List A) (index : ℕ) (x : A) → index < length xs → x ≡ get_or xs index x → drop index xs ≡ x ∷ drop (index + 1) xs
drop_at xs index x within is =
    let next : suc index ≡ index + 1 = omega arith in
    drop-cons xs index x within ∙ ap (λ y. y ∷ drop (suc index) xs) (sym is) ∙ ap (λ n. x ∷ drop n xs) next

pub all_from : {A : Type 0} (P : A → Type 0) (xs : List A) (index : ℕ) (x : A) (more : List A) → drop index xs ≡ x ∷ more → AllByRecursion P xs → P x
all_from {A} P xs index x more is all = (subst (λ l. AllByRecursion P l) is (all_dropped index xs all)).0
  where
    all_dropped : (n : ℕ) (l : List A) → AllByRecursion P l → AllByRecursion P (drop n l)
    all_dropped zero l all = all
    all_dropped (suc n) [] all = tt
    all_dropped (suc n) (y ∷ l) all = all_dropped n l all.1

-- ---- calls that no log can contain

-- why a call is not rendered is why the calls are not
pub why_not_all : (calls : List (WithNote Call)) (index : ℕ) (noted : WithNote Call) (more : List (WithNote Call)) (why : EntryFault) → drop index calls ≡ noted ∷ more → IsWhyNot why (IsNoted noted) → IsWhyNot why (AllByRecursion IsNoted calls)
why_not_all calls index noted more Memory is not = tt
why_not_all calls index noted more Unfit is not = λ all. not (all_from IsNoted calls index noted more is all)

pub why_not_call : (noted : WithNote Call) (why : EntryFault) → IsWhyNot why (IsScriptCall noted.call) → IsWhyNot why (IsNoted noted)
why_not_call noted Memory not = tt
why_not_call noted Unfit not = λ is. not is.1

lists_some : (names : Option (List (List ℕ))) → IsListed names → HasName names
lists_some None listed = tt
lists_some (Some names) listed = listed.0

-- a call that a script can contain lists names, if it has a list
pub lists_names : (c : Call) → IsScriptCall c → ListsNames c
lists_names (call.Branch new from) can = tt
lists_names (call.Record branch name changes) can = tt
lists_names (call.Pull from to names) can = lists_some names can.2
lists_names (call.Obliterate branch names) can = can.1
lists_names (call.Tree branch) can = tt
lists_names (call.Conflicts branch) can = tt
lists_names (call.Names branch) can = tt
