-- Words that the proofs by hand of this crate have in common: of the logic, of the standard library, and of boxes.
pub use mathlib.Core.Bool.{Bool, true, false, ◌&&◌}
pub use mathlib.Core.List.{List, [], ◌∷◌, ◌++◌}
pub use mathlib.Core.Path.{◌≡◌, refl, sym, subst, ap, ◌∙◌}
pub use lib.Dec.{lit<, T}
pub use seplogic.Ra.Ura.{Ura}
pub use mir.MapTy.{inst_fn}
pub use mir.Syntax.{w64, Fn, Body, place, copy, assign, rv_opd, seq, return, Args, Dict, a_type, dcons, dnil}
pub use mir.Val.{Val, vint, vstruct, vcons, vnil, has_ty, WT, vptr, of_list}
pub use base.Fml.{ftrue, fsep, flft}
pub use base.Logic.{SProp, ent, id⊢, emp, never, fst∗}
pub use contract.BorrowLft.{◌⊑◌}
pub use contract.Monad.{fact, Fun}
pub use contract.Running.{tables}
unfoldable pub use contract.Running.{tables_of}
pub use prog.Memory.{Memory}
pub use prog.Routine.{Routine}
pub use prog.Wp.{WpFn, Tables}
pub use types.ByLocal.{alloc_all, pass_all, free_all, look_at, get, get_in, sets, lands_last, env, lands_as}
pub use types.Kit.{rewrite, Item, ‵, raw, ◌⊛◌, ◌$◌, ◌∵◌, !, qed, by, move, drop, use1, join, split, fsplit, fjoin, suffices, done, fpack, feq_i, at_ret, some, later, split3, pick, await, fpick, feq_l}
pub use types.Logic.{Logic, sem}
pub use types.Part.{whole, sub, agg}
pub use types.Run.{stop, fld, no_more, and_then, of_opd, returns, enter, lit, first, blocks, exec}
pub use sound.WpLaws.{WpFn-mono, fm_of}
pub use denote.Exit.{yes, no}
pub use denote.RattleType.{Valss, RattleType}
pub use denote.RawPtr.{null_ptr, ptr_val, block_ptr, Ptr, RawPtr, in_a_block}
pub use denote.Signature.{type_at, plain}
pub use denote.Steps.{heard, nothing, only}
pub use denote.Triple.Call.{calls_at_last, calls_at}
pub use denote.Triple.Clauses.{Ended, Clauses}
pub use denote.Triple.Spec.{triple_of}
pub use denote.Triple.Statement.{Triple, Contract}
pub use denote.Triple.Table.{entered}
pub use denote.Triple.Walked.{says, Stays, stay_dropped, walk_of, ends_at, Goes-dropped, walk_Meets}
pub use Rattle.std.proofs.alloc.Calls.{α, handle_tells, token, Goes-blank}
pub use Rattle.std.specs.Prelude.{Option, Some, None, IsSome}
pub use Rattle.std_alloc.proofs.BoxSteps.Form.{D, B, word, box_typed, Bx, R, P, args, box_ty, τ}
pub use Rattle.std_alloc.proofs.BoxSteps.Steps.{box_out, box_in}
pub use Rattle.std_alloc.specs.Box.Ownership.{box_owns}
