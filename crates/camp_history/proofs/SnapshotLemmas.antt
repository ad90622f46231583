-- Lemmas on snapshots: how they are tied to a store, and how one continues what a seat has seen.
use Rattle.camp_history.proofs.Words.{Entry, SeesFurther, HeadId, IsBeginning, IsIn, IsSeatOf, IsSound, PassState, IsTrail, SeatState, seat_and_call, entry_of, seen_entries, begins_shorter, history_of, ids, ids_of, length-beginning, own, entry_and_call, news, based, bases_in, IsMarkPrefix, Based, IsBaseAt, HaveCommon, ContinuesSeat, Installs, Mark, SeesMore, ◌≡◌, ℕ, zero, suc, ◌+◌, ◌-◌, ◌<◌, ◌≤◌, List, [], ◌∷◌, ◌++◌, length, map, take, drop, splice, get_or, slice_get, slice_index_or, All, Option, None, Some, IfSome, MatchOption, refl, sym, ◌∙◌, ap, subst, arith, append-nil, append_assoc, length-append, length-map, map-append, take-append-drop, take_at, take_more, take_rest, drop_at, drop_more, drop-map, length-drop, length-take-le, map_push, same_Some, take_all, drop_all, begins_self, Bool, true, false, if◌then◌else◌, All-append, All-drop, All-map, All-push, All-same, All-weaker, Shelves, Shows, entry_count}
use Rattle.std.proofs.lemmas.List.{get_or-map}
use Rattle.std.proofs.Math.Seq.{drop-append-add}
use Rattle.std.proofs.lemmas.Simd.{map-map}
use Rattle.boxcar.specs.Slot.{Named}
use Rattle.camp_row.specs.Chains as chain
use Rattle.camp_row.proofs.Cells.{entry_count_prefix}
use Rattle.camp_row.proofs.TrailSteps.{length-cells_back}
use Rattle.std.specs.Bool.{MatchBool}
use Rattle.camp_history.proofs.Seeing.{sees_further_self, length-own}
use Rattle.camp_history.proofs.SynchronisedSeats.{own_front}
use Rattle.camp_history.specs.declared.snapshots.Base.{Base}

-- the number of a bucket, among those of its store
id_among : (buckets : List Named) (i : ℕ) → slice_index_or (map (λ (bucket : Named). bucket.id) buckets) i 0 ≡ (slice_index_or buckets i (record { id = 0; tag = [] })).id
id_among [] i = refl
id_among (bucket ∷ buckets) zero = refl
id_among (bucket ∷ buckets) (suc i) = id_among buckets i

module _ {Call : Type 0} (store : Shelves) where
  -- the tokens of a store have its numbers
  pub all_in : (tag : List ℕ) → tag ≡ ids store → (marks : List (Mark Call)) → All (λ mark. Shows store mark.call) marks → All (λ mark. IsIn tag mark.call) marks
  all_in tag is marks all =
      let In : List ℕ → Type 0 = λ tag. All (λ (mark : Mark Call). IsIn tag mark.call) marks in
      subst In (sym is) (All-weaker (λ (mark : Mark Call). Shows store mark.call) (λ (mark : Mark Call). IsIn (ids store) mark.call) (λ mark shows. shows ∙ sym (id_among store.buckets mark.call.bucket)) marks all)

  pub all_shown : (tag : List ℕ) → tag ≡ ids store → (marks : List (Mark Call)) → All (λ mark. IsIn tag mark.call) marks → All (λ mark. Shows store mark.call) marks
  all_shown tag is marks all =
      let In : List ℕ → Type 0 = λ tag. All (λ (mark : Mark Call). IsIn tag mark.call) marks in
      All-weaker (λ (mark : Mark Call). IsIn (ids store) mark.call) (λ (mark : Mark Call). Shows store mark.call) (λ mark is_in. is_in ∙ id_among store.buckets mark.call.bucket) marks (subst In is all)

-- the first element of the rest, which is taken next, and the elements after it
pub step : {X : Type 0} (list rest : List X) (i : ℕ) (x : X) → drop i list ≡ x ∷ rest → (i < length list) × (take (i + 1) list ≡ take i list ++ x ∷ []) × (drop (i + 1) list ≡ rest)
step list rest i x left =
    let below : i < length list = omega (arith, ap length left, length-drop i list) in
    let both = sym (drop_more list i x below) ∙ left in
    (below, take_more list i x below ∙ ap (λ y. take i list ++ y ∷ []) (ap (λ l. get_or l 0 x) both), ap (drop 1) both)

-- if nothing is left, all was taken
pub all_taken : {X : Type 0} (list : List X) (i : ℕ) → drop i list ≡ [] → take i list ≡ list
all_taken list i none = sym (append-nil (take i list)) ∙ ap (λ rest. take i list ++ rest) (sym none) ∙ take-append-drop i list

-- a prefix of a chain, and the entry after it
front_step : {X : Type 0} (front whole : List X) (x : X) → chain.IsPrefix front whole → slice_get whole (length front) ≡ Some x → chain.IsPrefix (front ++ x ∷ []) whole
front_step [] [] x begins at = cc
front_step [] (y ∷ whole) x begins at = record { rest = whole; is = ap (λ z. z ∷ whole) (sym (same_Some y x at)) }
front_step (y ∷ front) [] x begins at = absurd (let e = begins.is in cc)
front_step (y ∷ front) (z ∷ whole) x begins at =
    let head : y ≡ z = let e = begins.is in cc in
    let tail : front ++ begins.rest ≡ whole = let e = begins.is in cc in
    let on = front_step front whole x (record { rest = begins.rest; is = tail }) at in
    record { rest = on.rest; is = (λ k. head k ∷ on.is k) }

-- the next mark of a snapshot is the next entry of the chain
pub one_more_is_next : {Call : Type 0} (seen ahead : List Entry) (list rest : List (Mark Call)) (i : ℕ) (mark : Mark Call) (entry : Entry)
    → drop i list ≡ mark ∷ rest → chain.IsPrefix (seen ++ map entry_of (take i list)) ahead → slice_get ahead (length seen + i) ≡ Some entry → entry ≡ entry_of mark
    → chain.IsPrefix (seen ++ map entry_of (take (i + 1) list)) ahead
one_more_is_next seen ahead list rest i mark entry left begins at is =
    let next = step list rest i mark left in
    let before = take i list in
    let len : length (seen ++ map entry_of before) ≡ length seen + i =
    length-append seen (map entry_of before) ∙ ap (λ n. length seen + n) (length-map before entry_of ∙ length-take-le i list (omega (arith, next.0)))
    in
    let Stands : ℕ → Type 0 = λ n. slice_get ahead n ≡ Some (entry_of mark) in
    let here : slice_get ahead (length (seen ++ map entry_of before)) ≡ Some (entry_of mark) = subst Stands (sym len) (at ∙ ap Some is) in
    let on = front_step (seen ++ map entry_of before) ahead (entry_of mark) begins here in
    let IsMarkPrefix : List Entry → Type 0 = λ list. chain.IsPrefix list ahead in
    subst IsMarkPrefix (append_assoc seen (map entry_of before) (entry_of mark ∷ []) ∙ ap (λ l. seen ++ l) (sym (map_push entry_of before mark) ∙ ap (map entry_of) (sym next.1))) on

-- a fact about what is made of each element holds of all as they are made
pub all_unmap : {A B : Type 0} (P : B → Type 0) (f : A → B) (list : List A) → All P (map f list) → All (λ x. P (f x)) list
all_unmap P f list all k d below = subst P (get_or-map f list k d (f d) below) (all k (f d) (omega (arith, length-map list f)))

front_map : {A B : Type 0} (f : A → B) {front whole : List A} → IsBeginning front whole → IsBeginning (map f front) (map f whole)
front_map f {front = front} begins = record { rest = map f begins.rest; makes = sym (map-append f front begins.rest) ∙ ap (map f) begins.makes }

-- the elements after a prefix
front_rest : {A : Type 0} (front whole : List A) → IsBeginning front whole → whole ≡ front ++ drop (length front) whole
front_rest front whole begins =
    sym begins.makes ∙ ap (λ rest. front ++ rest) (sym (drop_at front begins.rest (length front) refl) ∙ ap (drop (length front)) begins.makes)

-- marks that begin others
module _ {Call : Type 0} (front whole : List (Mark Call)) (begins : IsMarkPrefix front whole) where
  begins_by : {B : Type 0} (f : Entry × Call → B) → IsBeginning (map (λ mark. f (entry_and_call mark)) front) (map (λ mark. f (entry_and_call mark)) whole)
  begins_by f = subst (λ list. IsBeginning list (map (λ mark. f (entry_and_call mark)) whole)) (map-map f entry_and_call front) (subst (IsBeginning (map f (map entry_and_call front))) (map-map f entry_and_call whole) (front_map f begins))

  pub begins_asked : IsBeginning (map seat_and_call front) (map seat_and_call whole)
  begins_asked = begins_by (λ t. (t.0.seat, t.1))

  pub begins_entries : IsBeginning (map entry_of front) (map entry_of whole)
  begins_entries = begins_by (λ t. t.0)

  pub begins_within : length front ≤ length whole
  begins_within = omega (arith, length-beginning begins, length-map front entry_and_call, length-map whole entry_and_call)

-- a snapshot with which two lists begin is what they have in common
pub share_of : {Call : Type 0} (base one other : List (Mark Call)) (count : ℕ) → count ≡ length base → IsMarkPrefix base one → IsMarkPrefix base other → HaveCommon one other count
share_of base one other count is first second =
    let len : length (map entry_and_call base) ≡ count = length-map base entry_and_call ∙ sym is in
    let one_takes = ap (take count) (sym first.makes) ∙ take_at (map entry_and_call base) first.rest count len in
    let other_takes = ap (take count) (sym second.makes) ∙ take_at (map entry_and_call base) second.rest count len in
    record {
      same = one_takes ∙ sym other_takes;
      in_seat = omega (arith, is, begins_within base one first);
      in_snapshot = omega (arith, is, begins_within base other second);
    }

pub share_none : {Call : Type 0} (one other : List (Mark Call)) → HaveCommon one other 0
share_none one other = record { same = refl; in_seat = omega arith; in_snapshot = omega arith }

-- two lists of marks that were compared as far as the marks that are left
pub record Compared {Call : Type 0} (one other left others : List (Mark Call)) : Type 0 where
  pub front : List (Entry × Call)
  pub one_is : map entry_and_call one ≡ front ++ map entry_and_call left
  pub other_is : map entry_and_call other ≡ front ++ map entry_and_call others

module _ {Call : Type 0} (one other : List (Mark Call)) where
  pub compared_start : (from : ℕ) → HaveCommon one other from → Compared one other (drop from one) (drop from other)
  compared_start from share = record {
    front = take from (map entry_and_call one);
    one_is = sym (take-append-drop from (map entry_and_call one)) ∙ ap (λ l. take from (map entry_and_call one) ++ l) (drop-map entry_and_call from one);
    other_is = sym (take-append-drop from (map entry_and_call other)) ∙ (λ k. sym share.same k ++ drop-map entry_and_call from other k);
  }

  pub compared_step : (marks marks' left others : List (Mark Call)) (mark mark' : Mark Call) → marks ≡ mark ∷ left → marks' ≡ mark' ∷ others → entry_and_call mark ≡ entry_and_call mark' → Compared one other marks marks' → Compared one other left others
  compared_step marks marks' left others mark mark' first second same past =
      let here : Compared one other (mark ∷ left) (mark' ∷ others) = rw (← first, ← second) past in
      record {
        front = here.front ++ entry_and_call mark ∷ [];
        one_is = here.one_is ∙ sym (append_assoc here.front (entry_and_call mark ∷ []) (map entry_and_call left));
        other_is = here.other_is ∙ ap (λ t. here.front ++ t ∷ map entry_and_call others) (sym same) ∙ sym (append_assoc here.front (entry_and_call mark ∷ []) (map entry_and_call others));
      }

  pub compared_end : (others : List (Mark Call)) → Compared one other [] others → IsMarkPrefix one other
  compared_end others past = record { rest = map entry_and_call others; makes = ap (λ l. l ++ map entry_and_call others) (past.one_is ∙ append-nil past.front) ∙ sym past.other_is }

  pub compared_other_end : (left : List (Mark Call)) → Compared one other left [] → IsMarkPrefix other one
  compared_other_end left past = record { rest = map entry_and_call left; makes = ap (λ l. l ++ map entry_and_call left) (past.other_is ∙ append-nil past.front) ∙ sym past.one_is }

-- as many entries lie ahead as a trail has cells
pub news_within : (known : PassState) (trail : List ℕ) (more : List Entry) → IsTrail known known.seen trail → chain.IsPrefix (known.seen ++ more) known.ahead → length more ≤ length trail
news_within known trail more leads ahead =
    let cells : length trail ≡ length leads.left = ap length leads.cells ∙ length-cells_back known.row.seats known.seen leads.left in
    let one : length (known.seen ++ leads.left) ≡ length known.ahead = ap length leads.is in
    let other : length ((known.seen ++ more) ++ ahead.rest) ≡ length known.ahead = ap length ahead.is in
    omega (arith, length-append known.seen leads.left, length-append (known.seen ++ more) ahead.rest, length-append known.seen more)

-- the first `count` entries of the chain are those of a prefix of it
pub taken_front : (known : PassState) (more : List Entry) (count : ℕ) → count ≡ length more → chain.IsPrefix (known.seen ++ more) known.ahead → take (length known.seen + count) known.ahead ≡ known.seen ++ more
taken_front known more count is ahead =
    ap (take (length known.seen + count)) (sym ahead.is)
    ∙ take_at (known.seen ++ more) ahead.rest (length known.seen + count) (length-append known.seen more ∙ ap (λ n. length known.seen + n) (sym is))

-- what a seat that installs a snapshot has in its fields
module _ {State Call : Type 0} (seat : SeatState State Call) (snapshot : List (Mark Call)) (continues : ContinuesSeat seat snapshot) where
  pub snapshot_entries : map entry_of snapshot ≡ map entry_of seat.marks ++ map entry_of (news seat snapshot)
  snapshot_entries =
      front_rest (map entry_of seat.marks) (map entry_of snapshot) (begins_entries seat.marks snapshot continues.begins)
      ∙ ap (λ n. map entry_of seat.marks ++ drop n (map entry_of snapshot)) (length-map seat.marks entry_of)
      ∙ ap (λ l. map entry_of seat.marks ++ l) (drop-map entry_of (length seat.marks) snapshot)

  pub news_length : length snapshot ≡ length seat.marks + length (news seat snapshot)
  news_length =
      let all : length (map entry_of snapshot) ≡ length (map entry_of seat.marks ++ map entry_of (news seat snapshot)) = ap length snapshot_entries in
      omega (arith, length-append (map entry_of seat.marks) (map entry_of (news seat snapshot)), length-map snapshot entry_of, length-map seat.marks entry_of, length-map (news seat snapshot) entry_of)

  module _ (known : PassState) (count : ℕ) (all : count ≡ length (news seat snapshot)) (moves : known ≡ record seat.known { seen = take (length seat.known.seen + count) seat.known.ahead }) where
    pub installed_known : known ≡ record seat.known { seen = seat.known.seen ++ map entry_of (news seat snapshot) }
    installed_known =
        moves
        ∙ ap (λ seen. record seat.known { seen = seen }) (taken_front seat.known (map entry_of (news seat snapshot)) count (all ∙ sym (length-map (news seat snapshot) entry_of)) continues.ahead)

    pub installed_entries : map entry_of seat.marks ≡ seat.known.seen → map entry_of snapshot ≡ known.seen
    installed_entries entries_are = snapshot_entries ∙ ap (λ l. l ++ map entry_of (news seat snapshot)) entries_are ∙ sym (ap (λ known. known.seen) installed_known)

    pub installed_below : All (λ mark. mark.seat < seat.known.row.seats) seat.marks → All (λ mark. mark.seat < known.row.seats) snapshot
    installed_below below =
        let Is : Entry → Type 0 = λ entry. entry.seat < seat.known.row.seats in
        let entries : All Is (map entry_of snapshot) =
        All-same Is (map entry_of snapshot) (map entry_of seat.marks ++ map entry_of (news seat snapshot)) snapshot_entries
        (All-append Is (map entry_of seat.marks) (map entry_of (news seat snapshot)) (All-map Is entry_of seat.marks below) (All-map Is entry_of (news seat snapshot) continues.below))
        in
        let Below : ℕ → Type 0 = λ seats. All (λ (mark : Mark Call). mark.seat < seats) snapshot in
        subst Below (sym (ap (λ known. known.row.seats) installed_known)) (all_unmap Is entry_of snapshot entries)

-- a seat that installs a snapshot sees more
pub installs_more : {State Call : Type 0} (old new : SeatState State Call) (snapshot : List (Mark Call)) → seen_entries old ≡ old.known.seen → IsSound old.known → ContinuesSeat old snapshot → Installs old snapshot new → SeesMore old new
installs_more old new snapshot entries_are sound continues installs =
    let list = news old snapshot in
    let number = old.known.number in
    let seen' : seen_entries new ≡ old.known.seen ++ map entry_of list = ap (map entry_of) installs.marks ∙ snapshot_entries old snapshot continues ∙ ap (λ l. l ++ map entry_of list) entries_are in
    let grows : IsBeginning (history_of old) (history_of new) =
    subst (λ marks. IsBeginning (history_of old) (map seat_and_call marks)) (sym installs.marks) (begins_asked old.marks snapshot continues.begins)
    in
    let least = entry_count_prefix number old.known.seen (old.known.seen ++ map entry_of list) (record { rest = map entry_of list; is = refl }) in
    let most = entry_count_prefix number (old.known.seen ++ map entry_of list) old.known.ahead continues.ahead in
    let ends : chain.entry_count number old.known.ahead ≡ chain.entry_count number old.known.seen = ap length sound.own_seen in
    let now : length (own number (history_of new)) ≡ chain.entry_count number (old.known.seen ++ map entry_of list) = length-own number new.marks ∙ ap (chain.entry_count number) seen' in
    let was : length (own number (history_of old)) ≡ chain.entry_count number old.known.seen = length-own number old.marks ∙ ap (chain.entry_count number) entries_are in
    record {
      number = ap (λ known. known.number) installs.known;
      row = ap (λ known. known.row) installs.known;
      more = grows;
      own_stays = own_front number (history_of old) (history_of new) grows (omega arith);
    }

-- and is one of the head
pub seat_installed : {State Call : Type 0} (head : HeadId State) (old new : SeatState State Call) (snapshot : List (Mark Call)) → IsSeatOf head old → All (λ mark. Shows head.store mark.call) snapshot → Installs old snapshot new → IsSeatOf head new
seat_installed {Call = Call} head old new snapshot of stored installs = record {
  first = installs.first ∙ of.first;
  row = ap (λ known. known.row) installs.known ∙ of.row;
  stored = All-same (λ (mark : Mark Call). Shows head.store mark.call) new.marks snapshot installs.marks stored;
  bases = All-same (IsBaseAt head.slots) new.bases old.bases installs.bases of.bases;
}

-- a seat that installed a snapshot, or is unchanged, has seen further
pub installed_further : {State Call : Type 0} (head : HeadId State) (old new : SeatState State Call) (snapshot : List (Mark Call)) (yes : Bool) → IsSeatOf head old → seen_entries old ≡ old.known.seen → IsSound old.known → ContinuesSeat old snapshot
    → All (λ mark. Shows head.store mark.call) snapshot → MatchBool yes (Installs old snapshot new) (new ≡ old) → SeesFurther head old new
installed_further head old new snapshot true of entries_are sound continues stored took = record {
  of = seat_installed head old new snapshot of stored took;
  more = installs_more old new snapshot entries_are sound continues took;
  ahead = ap (λ known. known.ahead) took.known;
}
installed_further head old new snapshot false of entries_are sound continues stored same = subst (SeesFurther head old) (sym same) (sees_further_self head old of)

-- the reference counted list once the few marks after it were moved into it
pub spliced_after : {X : Type 0} (front tail longer : List X) (len : ℕ) → len ≡ length front → longer ≡ splice front len len tail → longer ≡ front ++ tail
spliced_after front tail longer len len_is spliced =
    spliced ∙ ap (λ n. splice front n n tail) len_is
    ∙ (λ k. take_all (length front) front (omega arith) k ++ (tail ++ drop_all (length front) front (omega arith) k)) ∙ ap (λ l. front ++ l) (append-nil tail)

-- a fact about all noted snapshots and one more holds of all that are noted then
pub noted_all : {B : Type 0} (P : B → Type 0) (old room new : List B) (base : B) (gone : ℕ) (is_ok : Bool) → room ≡ drop gone old → new ≡ (if is_ok then room ++ base ∷ [] else room) → All P old → P base → All P new
noted_all P old room new base gone true left is all here = All-same P new (room ++ base ∷ []) is (All-push P room base (All-same P room (drop gone old) left (All-drop P gone old all)) here)
noted_all P old room new base gone false left is all here = All-same P new room is (All-same P room (drop gone old) left (All-drop P gone old all))

get_append : {X : Type 0} (list rest : List X) (i : ℕ) (x : X) → slice_get list i ≡ Some x → slice_get (list ++ rest) i ≡ Some x
get_append [] rest i x at = cc
get_append (y ∷ list) rest zero x at = at
get_append (y ∷ list) rest (suc i) x at = get_append list rest i x at

-- the element after a prefix
at_length : {X : Type 0} (front rest : List X) (x : X) → slice_get (front ++ x ∷ rest) (length front) ≡ Some x
at_length [] rest x = refl
at_length (y ∷ front) rest x = at_length front rest x

-- the entry of the first mark that is left is the next one of the chain
stands : {Call : Type 0} (whole : List Entry) (list left : List (Mark Call)) (front : List (Entry × Call)) (mark : Mark Call) → chain.IsPrefix (map entry_of list) whole → map entry_and_call list ≡ front ++ map entry_and_call (mark ∷ left)
    → slice_get whole (length front) ≡ Some (entry_of mark)
stands {Call} whole list left front mark begins is =
    let f : Entry × Call → Entry = λ t. t.0 in
    let entries : map entry_of list ≡ map f front ++ entry_of mark ∷ map entry_of left =
    sym (map-map f entry_and_call list) ∙ ap (map f) is ∙ map-append f front (map entry_and_call (mark ∷ left)) ∙ ap (λ l. map f front ++ entry_of mark ∷ l) (map-map f entry_and_call left)
    in
    let here : slice_get (map entry_of list) (length front) ≡ Some (entry_of mark) =
    ap (slice_get (map entry_of list)) (sym (length-map front f)) ∙ ap (λ l. slice_get l (length (map f front))) entries ∙ at_length (map f front) (map entry_of left) (entry_of mark)
    in
    subst (λ l. slice_get l (length front) ≡ Some (entry_of mark)) begins.is (get_append (map entry_of list) begins.rest (length front) (entry_of mark) here)

-- the marks that are left first of two parts of one chain are of one entry
pub same_next : {Call : Type 0} (whole : List Entry) (one other marks marks' left others : List (Mark Call)) (mark mark' : Mark Call) → marks ≡ mark ∷ left → marks' ≡ mark' ∷ others
    → chain.IsPrefix (map entry_of one) whole → chain.IsPrefix (map entry_of other) whole → Compared one other marks marks' → entry_of mark ≡ entry_of mark'
same_next whole one other marks marks' left others mark mark' first second begins begins' past =
    let here : Compared one other (mark ∷ left) (mark' ∷ others) = rw (← first, ← second) past in
    same_Some (entry_of mark) (entry_of mark') (sym (stands whole one left here.front mark begins here.one_is) ∙ stands whole other others here.front mark' begins' here.other_is)

-- what a seat has seen begins the chain that it found
pub seat_begins : {State Call : Type 0} (seat : SeatState State Call) → seen_entries seat ≡ seat.known.seen → IsSound seat.known → chain.IsPrefix (seen_entries seat) seat.known.ahead
seat_begins seat entries_are sound = record { rest = sound.prefix.rest; is = ap (λ list. list ++ sound.prefix.rest) entries_are ∙ sound.prefix.is }

-- of two lists that begin one another the shorter one begins the other
pub begins_either : {Call : Type 0} (one other : List (Mark Call)) → IsMarkPrefix one other → length other ≤ length one → IsBeginning (map seat_and_call other) (map seat_and_call one)
begins_either one other begins short =
    begins_shorter (map seat_and_call other) (map seat_and_call one) (map seat_and_call other) (begins_self (map seat_and_call other)) (begins_asked one other begins) (omega (arith, short, length-map one seat_and_call, length-map other seat_and_call))

-- a fact about all noted snapshots holds of each, as it is in its slot
pub noted_at : {State Call Reply : Type 0} (P : Based Call → Type 0) (items : List (Base State Call Reply)) (bases : List (Based Call)) → bases_in items ≡ bases → All P bases
    → (i : ℕ) (base : Base State Call Reply) → i < length items → base ≡ slice_index_or items i base → P (based base)
noted_at P items bases is all i base below at = subst (λ base. P (based base)) (sym at) (all_unmap P based items (All-same P (bases_in items) bases is all) i base below)

pub noted_based : {State Call Reply : Type 0} (P : Based Call → Type 0) (old room new : List (Base State Call Reply)) (base : Base State Call Reply) (gone : ℕ) (is_ok : Bool) → room ≡ drop gone old → new ≡ (if is_ok then room ++ base ∷ [] else room)
    → All P (bases_in old) → P (based base) → All P (bases_in new)
noted_based P old room new base gone is_ok left is all here =
    All-map P based new (noted_all (λ base. P (based base)) old room new base gone is_ok left is (all_unmap P based old all) here)

-- the number of a slot that was looked up
pub slot_by : {R : Type 0} (now : R → Named) (Holds : R → Type 0) (slots : List Named) (number : ℕ) (found : Option R) → IfSome found (λ slot. now slot ≡ slice_index_or slots number (now slot))
    → MatchOption found (length slots ≤ number) (λ slot. (number < length slots) × Holds slot) → IfSome found (λ slot. (now slot).id ≡ slice_index_or (ids_of slots) number 0)
slot_by now Holds slots number None is within = tt
slot_by now Holds slots number (Some slot) is within = ap (λ (slot : Named). slot.id) is ∙ sym (get_or-map (λ (slot : Named). slot.id) slots number (now slot) 0 within.0)

-- the elements of a list and of a few elements after it, from an index among the few on
pub left_after : {X : Type 0} (front tail none : List X) (from len : ℕ) → len ≡ length front → len ≤ from → none ≡ drop len front → none ++ take (length tail - (from - len)) (drop (from - len) tail) ≡ drop from (front ++ tail)
left_after front tail none from len is less left =
    let gone : none ≡ [] = left ∙ ap (λ n. drop n front) is ∙ drop_all (length front) front (omega arith) in
    let rest : take (length tail - (from - len)) (drop (from - len) tail) ≡ drop (from - len) tail = take_rest tail (from - len) in
    let split : length front + (from - len) ≡ from = omega (arith, is, less) in
    (λ k. gone k ++ rest k) ∙ sym (drop-append-add front tail (from - len)) ∙ ap (λ n. drop n (front ++ tail)) split

-- a fact about all that are left holds of the first and of the others
module _ {X : Type 0} (P : X → Type 0) (whole rest : List X) (first : X) (is : whole ≡ first ∷ rest) (all : All P whole) where
  pub left_first : P first
  left_first = All-same P (first ∷ rest) whole (sym is) all 0 first (omega arith)
