-- What a parse finds of an argument of the caller's that has a default: a value, and it passed the argument's parser.
use Rattle.camp_options.proofs.Common.{cond, ◌≡◌, ◌⊎◌, ◌∙◌, ◌<◌, ◌≤◌, ℕ, zero, suc, Bool, true, false, List, [], ◌∷◌, length, Some, None, refl, sym, ap, subst, inl, inr, arith, All, slice_index_or, bytes_eq, find, option_map, slice_get, Bor, bytes_eq-Decides, args_of, groups_of, Entry, EntryPasses, HasReading, PassesArg}
use Rattle.camp_options.proofs.Common.{WantsDefault, least_values, parser_of, parser_of_value, IsAuto, IsParsedFrom, SameRules, found_of, matched_of, one_text, Arg, Command, ArgMatches}
use Rattle.std.proofs.lemmas.List.Elements.{All-get_or}
use Rattle.clap.specs.Values.{Accepts, read_as, reading_of}
use Rattle.clap.specs.declared.builder.value_parser.Reading.{Reading}
use Rattle.clap.specs.declared.builder.value_parser.ValueParser.{ValueParser}
use Rattle.clap.specs.declared.builder.command.Command.TheViews.{out-Command}
use Rattle.clap.specs.declared.parser.matches.MatchedArg.{MatchedArg}
use Rattle.clap.specs.declared.builder.action.ArgAction.TheVariants.{Count, Set}
use Rattle.clap.proofs.CallerLemmas.{default_present, entry_by_id, same_rules_by_id}

-- the caller's argument at k is the only one with its id, which is not empty and not that of a flag of clap's own
pub record Alone (old : Command) (k : ℕ) (d : Arg) : Type 0 where
  pub inside : k < length (args_of old)
  pub unique : (j : ℕ) (e : Arg) → j < length (args_of old)
      → bytes_eq (slice_index_or (args_of old) j e).id.now (slice_index_or (args_of old) k d).id.now ≡ true → j ≡ k
  pub named : (slice_index_or (args_of old) k d).id.now ≡ [] → ⊥
  pub own : IsAuto (slice_index_or (args_of old) k d) → ⊥

-- an argument takes one value a use, and has a default
pub record Filled (a : Arg) : Type 0 where
  pub wants : WantsDefault a
  pub set : a.action ≡ Some Set
  pub delimiter : a.val_delim ≡ None
  pub least : 1 ≤ least_values a

-- the value of an argument, parsed, is what is found, and it passed the parser
abbrev pub HasValue : ArgMatches → Arg → ValueParser → Type 0
HasValue m a q = (value : List ℕ) × (one_text (found_of m) a.id.now ≡ Some (read_as (reading_of q) value)) × Accepts a.ignore_case q value

-- an entry with the id is found
has_entry : (xs : List Entry) (id : List ℕ) (i : ℕ) → i < length xs → ((d : Entry) → bytes_eq (slice_index_or xs i d).0.now id ≡ true)
    → (x : MatchedArg) × (option_map (λ e. e.1) (find (λ e. bytes_eq e.0.now id) xs) ≡ Some x)
has_entry [] id i lt at = absurd (omega arith)
has_entry (e ∷ xs) id zero lt at = (e.1, rw (at e) refl)
has_entry (e ∷ xs) id (suc i) lt at =
    let found = has_entry xs id i (omega arith) at in
    elim (bytes_eq e.0.now id) as (λ b. (x : MatchedArg) × (option_map (λ e. e.1) (cond b (Some e) (find (λ e. bytes_eq e.0.now id) xs)) ≡ Some x)) [
      | true ↦ (e.1, refl)
      | false ↦ found
    ]

first_of : (P : Bor (List ℕ) → Type 0) (how : Reading) (vs : List (Bor (List ℕ))) → 0 < length vs → All P vs
    → (v : Bor (List ℕ)) × (option_map (λ s. read_as how s.now) (slice_get vs 0) ≡ Some (read_as how v.now)) × P v
first_of P how [] some all = absurd (omega arith)
first_of P how (v ∷ vs) some all = (v, refl, All-get_or P (v ∷ vs) 0 v some all)

-- the caller's argument at k, which is alone with its id and has a default, of a command without groups
module _ (old : Command) (m : ArgMatches) (p : IsParsedFrom old m) (globals : (out-Command old).has_globals ≡ false) (no_groups : groups_of p.built ≡ []) (k : ℕ) (d : Arg) (alone : Alone old k d) (filled : Filled (slice_index_or (args_of old) k d)) (q : ValueParser) (parser : (slice_index_or (args_of old) k d).value_parser ≡ Some q) where
  abbrev pub a : Arg
  a = slice_index_or (args_of old) k d

  -- an argument of the built command with its id has its rules, and its parser
  same_rules : (j : ℕ) (x : Arg) → j < length (args_of p.built) → slice_index_or (args_of p.built) j x ≡ x → bytes_eq x.id.now a.id.now ≡ true → SameRules a x
  same_rules = same_rules_by_id old m p k d alone.inside alone.unique alone.own

  same_parser : (x : Arg) → SameRules a x → parser_of x ≡ q
  same_parser x s = ap parser_of_value (s.parser q parser)

  accepted : (value : List ℕ) → PassesArg p.built a.id.now value → Accepts a.ignore_case q value
  accepted value any =
      let s = same_rules any.0 any.1 any.2 any.3 any.4.0 in
      let as_q : Accepts any.1.ignore_case q value = subst (λ (w : ValueParser). Accepts any.1.ignore_case w value) (same_parser any.1 s) any.4.1 in
      subst (λ (b : Bool). Accepts b q value) s.ignore_case as_q

  read_so : (r : Reading) → HasReading p.built a.id.now r → r ≡ reading_of q
  read_so r any = sym any.4.1 ∙ ap reading_of (same_parser any.1 (same_rules any.0 any.1 any.2 any.3 any.4.0))

  -- the value of the argument's entry
  of_entry : (x : MatchedArg) → matched_of (found_of m) a.id.now ≡ Some x → (e : Entry) → e.1 ≡ x → e.0.now ≡ a.id.now → EntryPasses p.built e → HasValue m a q
  of_entry x found e is key pass = finish (first_of (λ v. PassesArg p.built a.id.now v.now) x.reading x.vals.items has_one all) (ap (λ (y : MatchedArg). y.reading) (sym is) ∙ how)
    where
      no_known : (e.0.now ≡ []) ⊎ (0 < length (groups_of p.built)) → ⊥
      no_known (inl empty) = alone.named (sym key ∙ empty)
      no_known (inr lots) = let bad : 0 < 0 = rw no_groups at lots in omega arith

      no_group : e.1.is_group ≡ true → ⊥
      no_group g = no_known (pass.3 g)

      all : All (λ v. PassesArg p.built a.id.now v.now) x.vals.items
      all = elim pass.0 [
        | inl g ↦ absurd (no_group g)
        | inr vals ↦ subst (λ (w : List ℕ). All (λ v. PassesArg p.built w v.now) x.vals.items) key (rw is at vals)
      ]

      how : e.1.reading ≡ reading_of q
      how = elim pass.4 [ inl g ↦ absurd (no_group g) | inr h ↦ read_so e.1.reading (subst (λ (w : List ℕ). HasReading p.built w e.1.reading) key h) ]

      has_one : 0 < length x.vals.items
      has_one = elim pass.1 [
        | inl h ↦ absurd (no_known h.1)
        | inr (inl v) ↦ rw is at v
        | inr (inr (inl h)) ↦
            let any = h.1 in
            let is_set : any.1.action ≡ Some Set = (same_rules any.0 any.1 any.2 any.3 (rw key at any.4.0)).action Set filled.set in
            let bad : Set ≡ Count = rw is_set at any.4.1 in
            cc
        | inr (inr (inr h)) ↦
            let s = same_rules h.0 h.1 h.2 h.3 (rw key at h.4.0) in
            elim h.4.1 [
              | inl none ↦ absurd (omega (arith, s.least filled.set filled.least))
              | inr split ↦
                  let bad : false ≡ true = rw (s.val_delim, filled.delimiter) at split in
                  cc
            ]
      ]

      finish : ((v : Bor (List ℕ)) × (option_map (λ s. read_as x.reading s.now) (slice_get x.vals.items 0) ≡ Some (read_as x.reading v.now)) × PassesArg p.built a.id.now v.now)
          → x.reading ≡ reading_of q → HasValue m a q
      finish first so = (first.0.now, rw found (first.1 ∙ ap (λ r. Some (read_as r first.0.now)) so), accepted first.0.now first.2)

  -- it has a value, which passed its parser
  pub has_value : HasValue m a q
  has_value =
      let has = default_present old m p globals k d alone.inside filled.wants in
      let entry = has_entry (found_of m).entries.items a.id.now has.0 has.1 has.2 in
      let got = entry_by_id (EntryPasses p.built) (found_of m).entries.items a.id.now entry.0 (p.parsed (p.from.globals ∙ globals)).values entry.1 in
      of_entry entry.0 entry.1 got.0 got.1 ((bytes_eq-Decides _ _).0 got.2) got.3
