-- The calls of whatever is read are calls that a script can contain, within its limits.
use Rattle.camp_script.proofs.Common.{◌≡◌, ℕ, ◌+◌, ◌^◌, ◌<◌, ◌≤◌, Bool, true, false, ◌&&◌, ◌==◌, nat_lt, nat_le, cond, List, [], ◌∷◌, ◌++◌, length, count_by, ◌∙◌, subst, None, Some, Option, arith, length-append, nat_tests, sum_by-append, sum_by-cons, AllByRecursion, is_name, is_path, is_line, Primitive, Hunk, is_writing, Call, Edit, Command, Nothing, Ask, BeginEdit, BeginGroup, BeginSection, command_of, lines_of, words_of, is_full, after_command, after_group_line, after_body, after_record_line, after_line, read_from, IfOk, IsTrue, bytes_eq, codes, GroupLine, NoChange, WholeChange, EditChange, EndGroup, group_line_of, side_at, with_old, with_new, grown, ended_edit, OpenEdit, OpenRecord, Progress, start, with_call, with_record, after_head, after_record, after_change, with_one_more, finished, not_ended, record_at, with_edit, with_open_edit}
use Rattle.camp_script.proofs.TextLemmas.{all_more}
use Rattle.camp_call.specs.declared.calls.Call.TheVariants as call
use Rattle.camp_script.specs.Canonical.{IsScriptCall, IsChange, AreLines, CanBeWritten, ReadIsWritable}
use Rattle.camp_script.proofs.Agreement.{reads_as_defined}
use Rattle.camp_script.proofs.ParsedLine.{CanBeAsked, CanBeSaid, Fits, fits, FitsGroup, fits_group}
use Rattle.camp_script.proofs.Holding.{Holds, fails, bind, either}

-- the body of an edit that fits a patch with these changes
record GoodEdit (changes : List Primitive) (edit : Edit) : Type 0 where
  pub path : IsTrue (is_path edit.path)
  pub counted : 1 ≤ edit.line
  pub old : AreLines edit.old
  pub new : AreLines edit.new
  pub room : length changes < 64

abbrev GoodOpen : List Primitive → Option OpenEdit → Type 0
GoodOpen changes None = Unit {0}
GoodOpen changes (Some begun) = GoodEdit changes begun.edit

record GoodRecord (calls : List Call) (begun : OpenRecord) : Type 0 where
  pub branch : IsTrue (is_name begun.branch)
  pub name : IsTrue (is_name begun.name)
  pub changes : AllByRecursion IsChange begun.changes
  pub few : length begun.changes ≤ 64
  pub open_edit : GoodOpen begun.changes begun.open_edit
  pub room_left : count_by is_writing calls < 65_536

abbrev GoodAwaited : List Call → Option OpenRecord → Type 0
GoodAwaited calls None = Unit {0}
GoodAwaited calls (Some begun) = GoodRecord calls begun

-- a section has at most its most writing calls
abbrev IsWithin : List Call → Type 0
IsWithin calls = count_by is_writing calls ≤ 65_536

record GoodCalls (p : Progress) : Type 0 where
  pub closed : AllByRecursion (AllByRecursion IsScriptCall) p.closed
  pub calls : AllByRecursion IsScriptCall p.calls
  pub few : length p.closed ≤ 63
  pub writes : AllByRecursion IsWithin p.closed
  pub within : IsWithin p.calls

record Good (p : Progress) : Type 0 where
  pub so_far : GoodCalls p
  pub awaited : GoodAwaited p.calls p.open_record

-- a section that is not full can have one more call
less_than_full : (n : ℕ) → nat_le 65_536 n ≡ false → n < 65_536
less_than_full n h = grind (arith, nat_tests)

one_more : (writing : Bool) (n m : ℕ) → (writing && nat_le 65_536 n) ≡ false → n ≤ 65_536 → m ≡ n + cond {A = ℕ} writing 1 0 → m ≤ 65_536
one_more true n m room few is = omega (arith, less_than_full n room)
one_more false n m room few is = omega arith

-- a call that fits keeps a section within its limit
stays_within : (calls : List Call) (new : Call) → IsWithin calls → (is_writing new && is_full calls) ≡ false → IsWithin (calls ++ new ∷ [])
stays_within calls new few room =
    let split = sum_by-append (λ c. cond {A = ℕ} (is_writing c) 1 0) calls (new ∷ []) in
    let first = sum_by-cons (λ c. cond {A = ℕ} (is_writing c) 1 0) new [] in
    one_more (is_writing new) (count_by is_writing calls) (count_by is_writing (calls ++ new ∷ [])) room few (omega arith)

module _ (n : ℕ) (p : Progress) (g : GoodCalls p) where
  asks : (new : Call) → IsScriptCall new → (is_writing new && is_full p.calls) ≡ false → Good (with_call p new)
  asks new h room = record {
    so_far = record { closed = g.closed; calls = all_more IsScriptCall p.calls new g.calls h; few = g.few; writes = g.writes; within = stays_within p.calls new g.within room };
    awaited = tt;
  }

  opens : (begun : OpenRecord) → GoodRecord p.calls begun → Good (with_record p begun)
  opens begun h = record { so_far = record { closed = g.closed; calls = g.calls; few = g.few; writes = g.writes; within = g.within }; awaited = h }

  head_good : (begun : OpenRecord) → (count_by is_writing p.calls < 65_536 → GoodRecord p.calls begun) → Holds Good (after_head n p begun)
  head_good begun h = either Good (is_full p.calls) _ _ (λ _. fails) (λ free. record { value = opens begun (h (less_than_full (count_by is_writing p.calls) free)) })

  next_good : nat_le 63 (length p.closed) ≡ false → Good (record { closed = p.closed ++ p.calls ∷ []; calls = []; open_record = None })
  next_good free = record {
    so_far = record {
      closed = all_more (AllByRecursion IsScriptCall) p.closed p.calls g.closed g.calls;
      calls = tt;
      few = let long = length-append p.closed (p.calls ∷ []) in grind (arith, nat_tests);
      writes = all_more IsWithin p.closed p.calls g.writes g.within;
      within = omega arith;
    };
    awaited = tt;
  }

  obeyed_good : GoodAwaited p.calls p.open_record → (asked : Command) → CanBeAsked asked → Holds Good (after_command n p asked)
  obeyed_good o Nothing h = record { value = record { so_far = g; awaited = o } }
  obeyed_good o (Ask new) h = either Good (is_writing new && is_full p.calls) _ _ (λ _. fails) (λ room. record { value = asks new h room })
  obeyed_good o (BeginEdit branch name path place) h =
      head_good (with_edit (record_at n branch name false) path place n)
      (λ room. record { branch = h.0; name = h.1; changes = tt; few = omega arith; open_edit = record { path = h.2; counted = h.3; old = tt; new = tt; room = omega arith }; room_left = room })
  obeyed_good o (BeginGroup branch name) h =
      head_good (record_at n branch name true) (λ room. record { branch = h.0; name = h.1; changes = tt; few = omega arith; open_edit = tt; room_left = room })
  obeyed_good o BeginSection h = either Good (nat_le 63 (length p.closed)) _ _ (λ _. fails) (λ free. record { value = next_good free })

  record_ends : (begun : OpenRecord) → GoodRecord p.calls begun → Holds Good (after_record n p begun)
  record_ends begun h =
      either Good (length begun.changes == 0) _ _ (λ _. fails)
      (λ some.
      let left = h.room_left in
      record { value = asks (call.Record begun.branch begun.name begun.changes) (h.branch, h.name, (grind (arith, nat_tests), h.few), h.changes) (grind (arith, nat_tests)) })

  changed : (begun : OpenRecord) (change : Primitive) → GoodRecord p.calls begun → length begun.changes < 64 → IsChange change → GoodRecord p.calls (with_one_more begun change)
  changed begun change h few k =
      record { branch = h.branch; name = h.name; changes = all_more IsChange begun.changes change h.changes k; few = omega (arith, length-append begun.changes (change ∷ [])); open_edit = tt; room_left = h.room_left }

  edited : (begun : OpenRecord) (edit : OpenEdit) → GoodRecord p.calls begun → GoodEdit begun.changes edit.edit → GoodRecord p.calls (with_open_edit begun edit)
  edited begun edit h k = record { branch = h.branch; name = h.name; changes = h.changes; few = h.few; open_edit = k; room_left = h.room_left }

  heeded_good : (begun : OpenRecord) → GoodRecord p.calls begun → (said : GroupLine) → CanBeSaid (length begun.changes) said → Holds Good (after_group_line n p begun said)
  heeded_good begun h NoChange k = record { value = opens begun h }
  heeded_good begun h (WholeChange change) k = record { value = opens (with_one_more begun change) (changed begun change h k.0 k.1) }
  heeded_good begun h (EditChange path place) k =
      record {
        value = opens (with_edit begun path place n)
            (edited begun (record { opened = n; edit = record { path = path; line = place; old = []; new = [] } }) h (record { path = k.1; counted = k.2; old = tt; new = tt; room = k.0 }));
      }
  heeded_good begun h EndGroup k = record_ends begun h

  change_good : (begun : OpenRecord) (change : Primitive) → GoodRecord p.calls (with_one_more begun change) → Holds Good (after_change n p begun change)
  change_good begun change h = either Good begun.grouped _ _ (λ _. record { value = opens (with_one_more begun change) h }) (λ _. record_ends (with_one_more begun change) h)

  ended_good : (changes : List Primitive) (edit : Edit) → GoodEdit changes edit → Holds (λ edit. (length changes < 64) × IsChange (Hunk edit)) (ended_edit n edit)
  ended_good changes edit k =
      either (λ edit. (length changes < 64) × IsChange (Hunk edit)) (length edit.old + length edit.new == 0) _ _ (λ _. fails)
      (λ some. either (λ edit. (length changes < 64) × IsChange (Hunk edit)) (nat_lt (2 ^ 30) (edit.line + length edit.old + length edit.new)) _ _ (λ _. fails)
      (λ ends. record { value = (k.room, (k.path, record { counted = k.counted; changes = grind (arith, nat_tests); within = grind (arith, nat_tests) }, k.old, k.new)) }))

  side_good : (changes : List Primitive) (bytes : List ℕ) (more : Edit) → (IsTrue (is_line bytes) → GoodEdit changes more) → Holds (GoodEdit changes) (side_at n bytes more)
  side_good changes bytes more h = either (GoodEdit changes) (is_line bytes) _ _ (λ is. record { value = h is }) (λ _. fails)

  grown_good : (changes : List Primitive) (edit : Edit) → GoodEdit changes edit → (bytes : List ℕ) → Holds (GoodEdit changes) (grown n edit bytes)
  grown_good changes edit k [] = fails
  grown_good changes edit k (sign ∷ bytes) =
      either (GoodEdit changes) (sign == 45 && length edit.new == 0) _ _
      (λ _. side_good changes bytes (with_old edit bytes) (λ h. record { path = k.path; counted = k.counted; old = all_more (λ line. IsTrue (is_line line)) edit.old bytes k.old h; new = k.new; room = k.room }))
      (λ _. either (GoodEdit changes) (sign == 43) _ _
      (λ _. side_good changes bytes (with_new edit bytes) (λ h. record { path = k.path; counted = k.counted; old = k.old; new = all_more (λ line. IsTrue (is_line line)) edit.new bytes k.new h; room = k.room }))
      (λ _. fails))

  body_good : (begun : OpenRecord) (body : OpenEdit) → GoodRecord p.calls begun → GoodEdit begun.changes body.edit → (bytes : List ℕ) → Holds Good (after_body n p begun body bytes)
  body_good begun body h k bytes =
      either Good (bytes_eq bytes (codes "end")) _ _
      (λ _. bind (λ edit. (length begun.changes < 64) × IsChange (Hunk edit)) Good (ended_edit n body.edit) _ (ended_good begun.changes body.edit k)
      (λ edit l. change_good begun (Hunk edit) (changed begun (Hunk edit) h l.0 l.1)))
      (λ _. bind (GoodEdit begun.changes) Good (grown n body.edit bytes) _ (grown_good begun.changes body.edit k bytes)
      (λ edit l. record { value = opens (with_open_edit begun (record { opened = body.opened; edit = edit })) (edited begun (record { opened = body.opened; edit = edit }) h l) }))

  record_line_good : (begun : OpenRecord) (o : Option OpenEdit) → GoodRecord p.calls begun → GoodOpen begun.changes o → (bytes : List ℕ) → Holds Good (after_record_line n p begun o bytes)
  record_line_good begun None h k bytes =
      bind (FitsGroup (length begun.changes) (words_of bytes)) Good (group_line_of n (length begun.changes) (words_of bytes)) _ (fits_group n (length begun.changes) (words_of bytes)) (λ said k. heeded_good begun h said k.can)
  record_line_good begun (Some edit) h k bytes = body_good begun edit h k bytes

  line_good : GoodAwaited p.calls p.open_record → (o : Option OpenRecord) → GoodAwaited p.calls o → (bytes : List ℕ) → Holds Good (after_line n o p bytes)
  line_good here None h bytes = bind (Fits (words_of bytes)) Good (command_of n (words_of bytes)) _ (fits n (words_of bytes)) (λ asked k. obeyed_good here asked k.can)
  line_good here (Some begun) h bytes = record_line_good begun begun.open_edit h h.open_edit bytes

open_good : (begun : OpenRecord) (o : Option OpenEdit) → Holds CanBeWritten (not_ended {A = List (List Call)} begun o)
open_good begun None = fails
open_good begun (Some edit) = fails

finished_good : (p : Progress) (o : Option OpenRecord) → GoodCalls p → Holds CanBeWritten (finished p o)
finished_good p None g =
    let long : length (p.closed ++ p.calls ∷ []) ≡ length p.closed + 1 = length-append p.closed (p.calls ∷ []) in
    record {
      value = record {
        calls = all_more (AllByRecursion IsScriptCall) p.closed p.calls g.closed g.calls;
        limits = record {
          has_opening = omega (arith, long);
          sections_within = omega (arith, long, g.few);
          writes_within = all_more IsWithin p.closed p.calls g.writes g.within;
        };
      };
    }
finished_good p (Some begun) g = open_good begun begun.open_edit

read_good : (n : ℕ) (p : Progress) (lines : List (List ℕ)) → Good p → Holds CanBeWritten (read_from n p lines)
read_good n p [] h = finished_good p p.open_record h.so_far
read_good n p (bytes ∷ lines) h =
    bind Good CanBeWritten (after_line n p.open_record p bytes) _ (line_good n p h.so_far h.awaited p.open_record h.awaited bytes) (λ next k. read_good (n + 1) next lines k)

nothing_good : Good start
nothing_good = record { so_far = record { closed = tt; calls = tt; few = omega arith; writes = tt; within = omega arith }; awaited = tt }

pub read_is_writable : ReadIsWritable
read_is_writable bytes sections is =
    subst (λ r. IfOk r CanBeWritten) (reads_as_defined (lines_of bytes) ∙ is) (read_good 1 start (lines_of bytes) nothing_good).value
