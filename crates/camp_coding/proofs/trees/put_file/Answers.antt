use Rattle.std.proofs.Common.{◌≡◌, ◌<◌, ◌≤◌, ℕ, ap, length, sym, subst, ◌∙◌, Option, Some, Ok, refl, arith}
use Rattle.std.proofs.lemmas.List.Elements.{All-from_get_or}
use Rattle.std.proofs.lemmas.Result.{err_from_is_err_and}
use Rattle.camp_base.specs.Trees.{Files}
use Rattle.camp_coding.specs.Contents.{stored_lines}
use Rattle.camp_coding.specs.GitTrees.{PutsFile, empty_file_if, mode_lines}
use Rattle.camp_coding.specs.declared.attributes.Attribute.TheVariants.{ModeLine, LacksNewline, Wrapped}
use Rattle.camp_coding.proofs.GitTreeLemmas.{not_put, put}
use Rattle.camp_coding.proofs.trees.put_file.Goals as goal

pub returns-in_err-set_mode : goal.returns-in_err-set_mode
returns-in_err-set_mode c =
    let p = err_from_is_err_and c.from_residual-in_err-set_mode.result c.from_residual-in_err-set_mode.ensures.1 in
    record {
      exact = rw (p.1, p.2) (not_put c.args.path.now (record { mode = c.args.mode; content = c.args.content.now }) c.args.tree.now c.set_place.new.tree c.set_mode.new.tree (Some ModeLine) (mode_lines c.args.mode) c.in_err-set_mode.field-0.0 refl c.in_err-set_mode.ensures);
    }

pub returns-in_err-set_flag : goal.returns-in_err-set_flag
returns-in_err-set_flag c =
    let p = err_from_is_err_and c.from_residual-in_err-set_flag.result c.from_residual-in_err-set_flag.ensures.1 in
    record {
      exact = rw (p.1, p.2) (not_put c.args.path.now (record { mode = c.args.mode; content = c.args.content.now }) c.args.tree.now c.set_mode.new.tree c.set_flag.new.tree (Some LacksNewline) (empty_file_if c.in-Ok.encoded.lacks_newline) c.in_err-set_flag.field-0.0 (ap empty_file_if c.in-Ok.ensures.stores.2) c.in_err-set_flag.ensures);
    }

pub returns-in_err-set_flag-2 : goal.returns-in_err-set_flag-2
returns-in_err-set_flag-2 c =
    let p = err_from_is_err_and c.from_residual-in_err-set_flag-2.result c.from_residual-in_err-set_flag-2.ensures.1 in
    record {
      exact = rw (p.1, p.2) (not_put c.args.path.now (record { mode = c.args.mode; content = c.args.content.now }) c.args.tree.now c.set_flag.new.tree c.set_flag-2.new.tree (Some Wrapped) (empty_file_if c.in-Ok.encoded.is_wrapped) c.in_err-set_flag-2.field-0.0 (ap empty_file_if c.in-Ok.ensures.stores.1) c.in_err-set_flag-2.ensures);
    }

pub returns : goal.returns
returns c =
    let stores = c.in-Ok.ensures.stores in
    let size = ap length (sym stores.0) in
    let short : length (stored_lines c.args.content.now) ≤ 1_000_000 = omega (arith, size, c.len.ensures, c.if-len-gt-MAX_LINES.false) in
    record {
      exact = subst
          (λ (f : Files). PutsFile c.args.path.now (record { mode = c.args.mode; content = c.args.content.now }) f (Ok c.set_flag-2.new.tree))
          c.in_ok-new.ensures.exact
          (put c.args.path.now (All-from_get_or (λ (b : ℕ). b < 256) c.args.path.now 0 (λ i within. omega (arith, c.type_inv.path i)))
          (record { mode = c.args.mode; content = c.args.content.now })
          (Some c.deref.result.now) (mode_lines c.args.mode) (empty_file_if c.in-Ok.encoded.lacks_newline) (empty_file_if c.in-Ok.encoded.is_wrapped)
          c.in_ok-new.new c.set_place.new.tree c.set_mode.new.tree c.set_flag.new.tree c.set_flag-2.new.tree
          short (ap Some (c.deref.ensures.value ∙ stores.0)) refl (ap empty_file_if stores.2) (ap empty_file_if stores.1)
          c.in_ok-set_place.ensures c.in_ok-set_mode.ensures c.in_ok-set_flag.ensures c.in_ok-set_flag-2.ensures);
    }
