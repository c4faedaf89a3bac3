-- The names that the walks cite.
pub use mathlib.Core.Path.{◌≡◌, refl, sym, ap, subst, ◌∙◌}
pub use Prim.Native.Nat.{ℕ, zero, suc, ◌+◌, ◌-◌, ◌*◌, ◌<◌, ◌≤◌, ◌^◌}
pub use native.Mathlib.Omega.{arith}
pub use mathlib.Core.List.{List, [], ◌∷◌, ◌++◌}
pub use lib.ListN.{length, take}
pub use lib.Dec.{T, lit<}
pub use seplogic.Ra.Ura.{Ura}
pub use base.Fraction.{full_share}
pub use base.Logic.{SProp, ent, sep, emp, never, id⊢}
pub use base.Fml.{Fml, Lft, GName, Share, ftrue, fsep, fat, froom, flft, fobs, fbor}
pub use mir.Syntax.{Ty, ty_int, ty_array, named, w8, w64}
pub use mir.Val.{Val, vptr, vint, vunit}
pub use prog.Wp.{Env, WpFn}
pub use contract.Monad.{fact, fact_use, fact_i}
pub use contract.Running.{tables}
pub use types.Logic.{Logic, sem}
pub use types.Kit.{Item, ⋆, ‵, raw, ◌⊛◌, some, later, given, await, learn, pick, prop, at_ret, ◌$◌, ◌∵◌, !, qed, by, move, keep, drop, use0, use1, use2, use3, split, split3, join, fsplit, fsplit3, fjoin, fjoin3, fpack, feq_i, feq_l, flt_i, flt_l, rewrite, suffices, frame, group, done}
pub use types.Part.{whole, sub, agg}
pub use types.Run.{init, stop, fld, lit, unit_lit, of_opd, bin, and_then, no_more, assigns_last, first, blocks, exec, returns, enter}
pub use types.ByLocal.{alloc_all, pass_all, free_all, look_at, get, get_in, through, sets, sets_last, is, take_at, give_at, env}
pub use types.SemTy.{cells}
pub use denote.Exit.{yes}
pub use denote.Memory.{mem, part_at, cell_at, part_of, hidden_shr}
pub use denote.RattleType.{owns}
pub use denote.Builtin.{u8, usize, unit, RefOf}
pub use denote.Laws.{shows}
pub use denote.Plain.{uint_in, uint_out, uint_vals, uint_Tells}
pub use denote.RawPtr.{Ptr, block_ptr, null_ptr, in_a_block}
pub use denote.Ref.{Bor, MutBor, MutRef, ShrRef, mut_vals, mut_Tells, shr_vals}
pub use denote.Signature.{plain}
pub use denote.Steps.{nothing, opens, closes, heard, peeks}
pub use denote.Triple.Entry.{on_entry}
pub use denote.Triple.Walked.{Stays, walk_of, says, stay_dropped, stay_ref, Goes-dropped, Goes-ref, ends_at}
pub use Rattle.std.proofs.raw_atomic.Walks.{proved, leaves}
pub use Rattle.std_alloc.proofs.VecSteps.Shapes.{after}
pub use Rattle.std.proofs.Common.{length-append}
pub use Rattle.eb_block.specs.Memory.{bytes_type, memory_owned, memory_lent}
pub use Rattle.eb_block.specs.Bytes.{written, rewritten}
pub use Rattle.std_heap.specs.declared.Global.{Global}
pub use Rattle.std_heap.specs.contracts.GlobalAllocator.TheImpl.{ghosts}
use denote.RattleType.{RattleType}
use Rattle.std_heap.specs.contracts.Global.{the_row as G}
use Rattle.eb_block.specs.contracts.memory.Memory.{the_row}

-- the owner of memory that the heap gave
abbrev pub R : RattleType
R = the_row G ghosts

-- the heap's right to free
abbrev pub token : Global → Ty → Ptr → Fml
token h = ghosts.dealloc_token h
