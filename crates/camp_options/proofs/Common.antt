-- The words that most proofs about command lines use.
pub use Rattle.std.proofs.Common.{All, Bool, Bor, List, None, Ok, Option, Result, Some, [], ap, ap₂, arith, bytes_eq, codes, cond, false, find, inl, inr, length, map, option_map, pos, refl, slice_get, slice_index_or, subst, suc, sym, true, true≢false, unwrap_or, zero, ℕ, ◌<◌, ◌↔◌, ◌∙◌, ◌∷◌, ◌≡◌, ◌⊎◌, ◌≤◌}
pub use Rattle.std.proofs.lemmas.Slice.Eq.{bytes_eq-Decides}
pub use Rattle.std.specs.Str.Parse.{ExplainsUnsignedError, HasUnsignedDigitsIfOk, ParsesBool, ParsesUnsigned}
pub use Rattle.clap.proofs.WalkLemmas.{one_text-rows}
pub use Rattle.clap.specs.Built.{IsAuto, IsParsedFrom, SameRules}
pub use Rattle.clap.specs.Facts.{Entry, EntryPasses, HasReading, PassesArg, WantsDefault, args_of, groups_of, least_values, parser_of, parser_of_value}
pub use Rattle.clap.specs.Matches.{ReadsOne, found_of, matched_of, one_text}
pub use Rattle.clap.specs.Simple.{App, IsSimple, app_of, app_of_fields, is_ready, is_ready_leaf}
pub use Rattle.clap.specs.Words.{Row, fault_of, is_simple, is_simple_and_free, matches_of, new_app, rows_of, with_rule}
pub use Rattle.clap.specs.declared.builder.arg.Arg.{Arg}
pub use Rattle.clap.specs.declared.builder.command.Command.{Command}
pub use Rattle.clap.specs.declared.parser.matches.ArgMatches.{ArgMatches}
pub use Rattle.camp_options.specs.Options.{Given, WritesNumber, program, tries, with_version}
