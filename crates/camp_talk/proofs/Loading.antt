-- Loading commands, one after the other.
use Rattle.camp_talk.proofs.Words.{◌≡◌, ℕ, ◌+◌, Bool, true, false, List, [], ◌∷◌, ◌++◌, Option, Ok, Vec, refl, sym, ap, subst, ◌∙◌, append-nil, flat_map, Consumes, Consumes-nil, Consumes-trans, flat_map-append, All-append, All-cons, All-nil, AnswersCommand, SessionState, Exchange, DoesOne, ExecutesNext, LoadsOne, Done, Fails, ReadsCommand, ReportsSuccess, LacksMemory}
use Rattle.std.specs.Global.{Global}
use Rattle.camp_talk.proofs.Failing.{failure_reported}
use Rattle.camp_talk.proofs.StepLemmas.{answered, one_more}
use Rattle.camp_talk.specs.declared.responses.Failure.{Failure}
use Rattle.camp_talk.specs.declared.responses.Response.{Response}
use Rattle.camp_talk.specs.declared.responses.Response.TheVariants as given

-- ---- one command

module _ (a b : Option (List ℕ)) (before after : SessionState) where
  -- it was done
  one_done_at : (whole : Bool) (command text : List ℕ) → ReadsCommand a b whole command → AnswersCommand before command text after
      → ReportsSuccess text → LoadsOne a b before (Ok whole) after
  one_done_at true command text (reads, is) answers well = record {
    exchange = record { command = command; answer = text };
    is = is;
    answers = answers;
    well = well;
    reads = reads;
  }
  one_done_at false command text reads answers well = record {
    exchange = record { command = command; answer = text };
    reads = reads;
    after = after;
    answers = answers;
    well = well;
    same = refl;
  }

module _ {a b : Option (List ℕ)} {before after : SessionState} {response : Response} {whole : Bool} (executes : ExecutesNext a b before whole response after) where
  by : {other : Response} → response ≡ other → ExecutesNext a b before whole other after
  by is = subst (λ (response : Response). ExecutesNext a b before whole response after) is executes

  pub one_done : {text : Vec ℕ Global} → response ≡ given.Done text → LoadsOne a b before (Ok whole) after
  one_done {text} is =
      let executes_next = by is in
      one_done_at a b before after whole executes_next.command text.items executes_next.reads
      (answered before after executes_next.command (given.Done text) executes_next.says executes_next.counts) executes_next.says.0.1

  pub one_fails : {why : Failure} {text : Vec ℕ Global} {line : ℕ} → response ≡ given.Failed why text → line ≡ before.lines + 1
      → Fails a b before line text.items after.history
  one_fails {why} {text} is at =
      let executes_next = by is in
      record {
        whole = whole;
        command = executes_next.command;
        reads = executes_next.reads;
        reports = executes_next.says.0.0.0;
        failure = failure_reported before _ why text.items after.history executes_next.says.0.0.0 executes_next.says.0.1;
        at = at;
        same = executes_next.says.0.2;
      }

  pub one_wants : {line : ℕ} → response ≡ given.OutOfMemory → line ≡ before.lines + 1 → LacksMemory a b before line after.history
  one_wants is at =
      let executes_next = by is in
      record { whole = whole; command = executes_next.command; reads = executes_next.reads; at = at; asks = executes_next.says.1; same = executes_next.says.0.0 }

-- ---- commands

pub none_done : (a : Option (List ℕ)) (first : SessionState) → Done a a first first
none_done a first = record {
  exchanges = [];
  follow = refl;
  well = All-nil (λ (exchange : Exchange). ReportsSuccess exchange.answer);
  reads = Consumes-nil a;
}

pub one_more_done : (a b c : Option (List ℕ)) (first middle last : SessionState) → Done a b first middle → DoesOne b c middle last
    → Done a c first last
one_more_done a b c first middle last done more = record {
  exchanges = done.exchanges ++ more.exchange ∷ [];
  follow = one_more first middle last done.exchanges more.exchange done.follow more.is more.answers;
  well = All-append Well done.exchanges (more.exchange ∷ []) done.well (All-cons Well more.exchange [] more.well (All-nil Well));
  reads = subst (Consumes a c) joined (Consumes-trans a b c _ _ done.reads more.reads);
}
  where
    Well : Exchange → Type 0
    Well exchange = ReportsSuccess exchange.answer

    joined : flat_map (λ (e : Exchange). e.command) done.exchanges ++ more.exchange.command
        ≡ flat_map (λ (e : Exchange). e.command) (done.exchanges ++ more.exchange ∷ [])
    joined =
        ap (λ bytes. flat_map (λ (e : Exchange). e.command) done.exchanges ++ bytes) (sym (append-nil more.exchange.command))
        ∙ sym (flat_map-append (λ (e : Exchange). e.command) done.exchanges (more.exchange ∷ []))
