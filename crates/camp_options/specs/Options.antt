-- The meaning of a command line, as clap parses its words.
use Rattle.std.specs.Prelude.{◌≡◌, ◌↔◌, true, ℕ, List, [], ◌∷◌, Some, codes, option_map, pos}
use Rattle.std.specs.Str.Parse.{IsNumeral, digits_value, without_leading_plus}
use Rattle.clap.specs.Words.{App, Row, Rule, first_of, new_app, new_rule, one_of, with_rule}
use Rattle.clap.specs.declared.builder.ArgAction.TheVariants.{Set, SetTrue}
use Rattle.clap.specs.declared.builder.value_parser.ValueParser.TheVariants as parser
use Rattle.camp_options.specs.declared.kinds.Options.{Options}

-- an option without a value
abbrev pub flag : List ℕ → Rule
flag name = record (new_rule name) {
  long = Some name;
  action = Some SetTrue;
  parser = Some parser.Bool;
}

-- the greatest value of `--tries`
abbrev pub tries_limit : ℕ
tries_limit = 1_000

-- the option `--tries N`: 1 to `tries_limit`, 100 by default
abbrev pub tries : Rule
tries = record (new_rule (codes "tries")) {
  long = Some (codes "tries");
  action = Some Set;
  value_names = 1;
  parser = Some (parser.Signed (pos 1) (pos tries_limit));
  defaults = codes "100" ∷ [];
}

-- the option `--limits TEXT`; `limits_in` parses its text
abbrev pub limits : Rule
limits = record (new_rule (codes "limits")) {
  long = Some (codes "limits");
  action = Some Set;
  value_names = 1;
}

-- a program with the option `--version`
abbrev pub with_version : App → App
with_version app = record { top = record app.top { has_version = true }; subs = app.subs }

-- the program's command line: `--serial`, `--tries N`, `--history` and `--limits TEXT`; and `--version`
abbrev pub program : App
program = with_rule (with_rule (with_rule (with_rule (with_version (new_app (codes "camp"))) (flag (codes "serial"))) tries) (flag (codes "history"))) limits

-- an option without a value is set
abbrev pub IsSet : List ℕ → List Row → Type 0
IsSet name rows = one_of name rows ≡ Some (codes "true")

-- the text given to the option is the number in decimal digits, perhaps after a plus sign
abbrev pub WritesNumber : List ℕ → ℕ → List Row → Type 0
WritesNumber name number rows = (text : List ℕ) × (one_of name rows ≡ Some text) × IsNumeral 10 (without_leading_plus text)
    × (number ≡ digits_value 10 (without_leading_plus text))

-- the options are those that clap has parsed
pub record Given (rows : List Row) (options : Options) : Type 0 where
  pub serial : (options.serial ≡ true) ↔ IsSet (codes "serial") rows
  pub tries : WritesNumber (codes "tries") options.tries rows
  pub history : (options.history ≡ true) ↔ IsSet (codes "history") rows
  pub limits : option_map (λ text. text.now) options.limits ≡ first_of (codes "limits") rows
