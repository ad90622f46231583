use Rattle.camp_clients.proofs.Words.{◌≡◌, ℕ, ◌<◌, [], length, sym, ◌∙◌, ap, subst, arith, All, All-map, AllZip-long, all_unmap, map-map, IsBeginning, own, SectionStep, IsSeatOf, history_of, lists_of, vec_items, section_of, Section, IsSynchronised, HasAllOfSeat, Ran, begun, IsLegal}
use Rattle.camp_clients.proofs.SynchronisedRuns.{caller_of, can_begin, clients_hold, shared_run, zip_all}
use Rattle.camp_clients.proofs.Vectors.{length-lists_of}
use Rattle.camp_clients.proofs.heads.Run.all.Goals as goal

pub synchronise_each_with-requires-clause-seats : goal.synchronise_each_with-requires-clause-seats
synchronise_each_with-requires-clause-seats g c k d below = (c.requires.seats k d below).0

pub clients-requires-clause-ready : goal.clients-requires-clause-ready
clients-requires-clause-ready g c _ _ =
    can_begin c.args.self.now.head.now _ (history_of c.at_seat.new.seat) c.args.seats.items c.in_ok-seats.seats.items c.requires.as_many c.requires.seats c.in_ok-seats.ensures.seats

pub synchronise_with_all-requires-clause-seats : goal.synchronise_with_all-requires-clause-seats
synchronise_with_all-requires-clause-seats g c =
    let ran = c.in_ok-seats-2.ensures in
    subst (All (IsSeatOf c.args.self.now.head.now)) (sym ran.seats)
    (All-map (IsSeatOf c.args.self.now.head.now) (λ one. one.0) ran.brought
    (zip_all (λ seat one. Ran (begun g.State.Object.object c.args.self.now.head.now.first) c.args.self.now.head.now (lists_of c.args.self.now.sections.now) seat one.0 one.1.items)
    (λ one. IsSeatOf c.args.self.now.head.now one.0) (λ before one ran. ran.is_seat) c.in_ok-seats.seats.items ran.brought ran.ran))

pub returns-clause-shared : goal.returns-clause-shared
returns-clause-shared g c =
    let head = c.args.self.now.head.now in
    let object = begun g.State.Object.object head.first in
    let sections = lists_of c.args.self.now.sections.now in
    let opened = history_of c.at_seat.new.seat in
    let history = history_of c.in_ok-opener.opener in
    let ran = c.in_ok-seats-2.ensures in
    let l0 = c.args.seats.items in
    let l1 = c.in_ok-seats.seats.items in
    let l2 = ran.brought in
    let long : length l2 ≡ length l0 =
    AllZip-long (λ seat one. Ran object head sections seat one.0 one.1.items) l1 l2 ran.ran ∙ AllZip-long (IsSynchronised head opened) l0 l1 c.in_ok-seats.ensures.seats in
    let synchronised = all_unmap (HasAllOfSeat history) (λ one. one.0) l2 (subst (All (HasAllOfSeat history)) ran.seats c.in_ok-opener.ensures.seats) in
    let holds = λ (k : ℕ) (d : _) (below : k < length l2).
    clients_hold object head sections opened history l0 l1 l2 c.requires.seats c.in_ok-seats.ensures.seats ran.ran synchronised k d (omega (arith, long)) in
    let opener = c.args.opener in
    let opening = c.in_ok-opening.opening in
    let from_start = subst (λ first. Section (SectionStep object (caller_of head opener.known.number)) first (section_of sections opener.known.number) opening.items opened)
    c.requires.opener.2 c.in_ok-opening.ensures.section in
    let asked = subst (λ n. Section (SectionStep object (caller_of head n)) [] (section_of sections n) opening.items opened) c.requires.opener.1 from_start in
    let prefix = subst (λ h. IsBeginning h history) c.in_ok-seats.ensures.seen c.in_ok-opener.ensures.grows in
    let number = c.in_ok-seats.ensures.number ∙ c.in_ok-opening.ensures.number ∙ c.requires.opener.1 in
    let same = subst (λ n. own n history ≡ own n (history_of c.in_ok-seats.opener)) number c.in_ok-opener.ensures.own
    ∙ ap (own 0) c.in_ok-seats.ensures.seen in
    let legal : IsLegal object history = subst (λ (first : g.row.State.Denot). IsLegal (begun g.State.Object.object first) history) c.in_ok-opener.ensures.seat.first c.number-number.ensures.legal in
    let seats = ap (λ row. row.seats) c.in_ok-opener.ensures.seat.row ∙ c.args.self.now.seats ∙ sym (length-lists_of c.args.self.now.sections.now) in
    let no_other = subst (λ n. All (λ entry. entry.0 < n) history) seats c.number-number.ensures.seats_below in
    let run = shared_run object head sections opened history opening.items l2 (c.args.opener, opening)
    (omega (arith, long, c.requires.as_many, length-lists_of c.args.self.now.sections.now)) holds asked prefix same legal no_other in
    rw (ran.all_answers, map-map vec_items (λ one. one.1) ran.brought) run
