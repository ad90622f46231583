-- What a parse of the program's own command line finds.
use Rattle.camp_options.proofs.Common.{◌≡◌, ◌∙◌, ◌<◌, ◌≤◌, ℕ, zero, suc, Bool, true, false, true≢false, List, [], ◌∷◌, length, map, codes, unwrap_or, Option, Some, None, refl, sym, ap, subst, inl, inr, arith, ◌↔◌, Ok, Result, pos, ParsesBool, ParsesUnsigned, slice_index_or, bytes_eq, bytes_eq-Decides, args_of}
use Rattle.camp_options.proofs.Common.{least_values, IsParsedFrom, ReadsOne, found_of, one_text, rows_of, App, IsSimple, app_of, is_ready, is_ready_leaf, Arg, Command, ArgMatches, WritesNumber, program, tries, one_text-rows}
use Rattle.std.specs.List.{list_all}
use Rattle.std.proofs.lemmas.List.{length-map}
use Rattle.clap.specs.Texts.{items_of}
use Rattle.clap.specs.Lexer.{without_minus}
use Rattle.clap.specs.Walk.{Rule, rule_of}
use Rattle.clap.specs.declared.builder.value_parser.ValueParser.TheVariants as vp
use Rattle.clap.proofs.CallerReads.{signed_reads}
use Rattle.clap.proofs.SimpleLemmas.{all_simple, ready_simple, simple_groups}
use Rattle.camp_options.proofs.Found.{Alone, Filled, has_value}

differ : (x y : List ℕ) → bytes_eq x y ≡ false → x ≡ y → ⊥
differ x y other same = absurd (true≢false (sym ((bytes_eq-Decides x y).1 same) ∙ other))

-- a flag that a getter reads is set where its text is `true`
pub flag_is : (E : Type 0) (found : Option (List ℕ)) (read : Option Bool) → (found ≡ None → read ≡ None)
    → ((text : List ℕ) → found ≡ Some text → ReadsOne {E = E} ParsesBool text read) → (unwrap_or read false ≡ true) ↔ (found ≡ Some (codes "true"))
flag_is E None read none reads = ((λ on. absurd (true≢false (sym on ∙ ap (λ r. unwrap_or r false) (none refl)))), (λ e. cc))
flag_is E (Some text) (Some true) none reads = ((λ on. ap Some (reads text refl)), (λ e. refl))
flag_is E (Some text) (Some false) none reads =
    ((λ on. cc), (λ e. absurd (differ (codes "false") (codes "true") refl (sym (reads text refl) ∙ ap (λ o. unwrap_or o text) e))))
flag_is E (Some text) None none reads = ((λ on. cc), (λ e. absurd ((reads text refl).1.0 (ap (λ o. unwrap_or o text) e))))

rule_at : (xs : List Arg) (k : ℕ) (d : Arg) → rule_of (slice_index_or xs k d) ≡ slice_index_or (map rule_of xs) k (rule_of d)
rule_at [] k d = refl
rule_at (x ∷ xs) zero d = refl
rule_at (x ∷ xs) (suc k) d = rule_at xs k d

some_arg : (xs : List Arg) → 0 < length xs → Arg
some_arg [] some = absurd (omega arith)
some_arg (x ∷ xs) some = x

takes_one : (a : Arg) → a.num_vals ≡ None → 1 ≤ least_values a
takes_one a h = rw h (omega arith)

-- of the program's rules one is that of the tries
only_tries : (j : ℕ) (r : Rule) → j < 4 → bytes_eq (slice_index_or program.top.rules j r).id (codes "tries") ≡ true → j ≡ 1
only_tries zero r lt same = absurd (differ (codes "serial") (codes "tries") refl ((bytes_eq-Decides _ _).0 same))
only_tries (suc zero) r lt same = refl
only_tries (suc (suc zero)) r lt same = absurd (differ (codes "history") (codes "tries") refl ((bytes_eq-Decides _ _).0 same))
only_tries (suc (suc (suc zero))) r lt same = absurd (differ (codes "limits") (codes "tries") refl ((bytes_eq-Decides _ _).0 same))
only_tries (suc (suc (suc (suc j)))) r lt same = absurd (omega arith)

-- the value that a getter of numbers returns for the tries
pub record TriesOf (m : ArgMatches) (read : Option ℕ) : Type 0 where
  pub number : ℕ
  pub is : read ≡ Some number
  pub least : 1 ≤ number
  pub most : number ≤ 1000
  pub writes : WritesNumber (codes "tries") number (rows_of (found_of m))

-- a command that is the program's, and a parse of it
module _ (c : Command) (m : ArgMatches) (is : app_of c ≡ program) (p : IsParsedFrom c m) where
  rules : map rule_of (args_of c) ≡ program.top.rules
  rules = ap (λ (a : App). a.top.rules) is

  simple : IsSimple c
  simple = ready_simple c (ap (λ (a : App). is_ready a.top) is) (ap (λ (a : App). list_all is_ready_leaf a.subs) is)

  four : length (args_of c) ≡ 4
  four = sym (length-map (args_of c) rule_of) ∙ ap length rules

  d : Arg
  d = some_arg (args_of c) (rw four (omega arith))

  abbrev a : Arg
  a = slice_index_or (args_of c) 1 d

  rule : rule_of a ≡ tries
  rule = rule_at (args_of c) 1 d ∙ ap (λ rs. slice_index_or rs 1 (rule_of d)) rules

  id : a.id.now ≡ codes "tries"
  id = ap (λ (r : Rule). r.id) rule

  alone : Alone c 1 d
  alone = record {
    inside = rw four (omega arith);
    unique = λ j e low same.
        let at = ap (λ (r : Rule). r.id) (rule_at (args_of c) j e ∙ ap (λ rs. slice_index_or rs j (rule_of e)) rules) in
        only_tries j (rule_of e) (rw four at low) (rw (id, at) at same);
    named = λ empty. differ (codes "tries") [] refl (sym id ∙ empty);
    own = λ auto. elim auto [ inl h ↦ differ (codes "tries") _ refl (sym id ∙ h) | inr h ↦ differ (codes "tries") _ refl (sym id ∙ h) ];
  }

  has_default : 0 < length (items_of a.default_vals)
  has_default =
      let one : length (map (λ s. s.now) (items_of a.default_vals)) ≡ 1 = ap (λ (r : Rule). length r.defaults) rule in
      let same = length-map (items_of a.default_vals) (λ s. s.now) in
      omega arith

  filled : Filled a
  filled =
      let plain = simple.args 1 d alone.inside in
      record { wants = (plain.default_ifs, has_default); set = ap (λ (r : Rule). r.action) rule; delimiter = plain.delimiter; least = takes_one a (ap (λ (r : Rule). r.range) rule) }

  -- the tries have a text, which a getter of numbers reads
  pub tries_of : (E : Type 0) (Reads : List ℕ → Result ℕ E → Type 0) → ((text : List ℕ) (x : Result ℕ E) → Reads text x → ParsesUnsigned 32 10 text x)
      → (read : Option ℕ) → ((text : List ℕ) → one_text (found_of m) (codes "tries") ≡ Some text → ReadsOne Reads text read) → TriesOf m read
  tries_of E Reads parses read gives =
      let no_groups = (p.from.same_groups (simple_groups c (ap (λ (a : App). all_simple a.top.rules) is))).1 ∙ simple.groups in
      let value = has_value c m p simple.globals no_groups 1 d alone filled (vp.Signed (pos 1) (pos 1000)) (ap (λ (r : Rule). r.parser) rule) in
      let text = without_minus value.0 in
      let found : one_text (found_of m) (codes "tries") ≡ Some text = subst (λ (w : List ℕ). one_text (found_of m) w ≡ Some text) id value.1 in
      let got = signed_reads E Reads 32 1 1000 value.0 read (gives text found) parses (omega arith) value.2 in
      let parsed = parses text (Ok got.0) (subst (λ (o : Option ℕ). ReadsOne Reads text o) got.1 (gives text found)) in
      record {
        number = got.0;
        is = got.1;
        least = got.2;
        most = got.3;
        writes = (text, sym (one_text-rows (found_of m) (codes "tries")) ∙ found, parsed.0.0, parsed.1);
      }
