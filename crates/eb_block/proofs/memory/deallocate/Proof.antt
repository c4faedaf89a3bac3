-- `deallocate` makes room of the bytes, and hands the block back with the right to free it.
use Rattle.eb_block.proofs.Steps.{◌≡◌, ◌+◌, ◌^◌, List, [], ◌∷◌, length, refl, sym, ap, subst, ◌∙◌, T, lit<, w64, emp, fact_i, proved, full_share, id⊢, never, fat, froom, flft, ftrue, fsep, named, Val, vunit, vint, vptr, fact, tables, ‵, raw, ◌⊛◌, some, later, await, pick, at_ret, ◌$◌, ◌∵◌, !, qed, done, move, keep, use0, use1, use2, split, join, fsplit, fsplit3, fjoin, feq_i, feq_l, flt_i, rewrite, suffices, group, enter, of_opd, lit, unit_lit, stop, fld, and_then, no_more, first, blocks, exec, returns, alloc_all, pass_all, free_all, look_at, get, get_in, sets, take_at, give_at, env, whole, sub, unit, Ptr, block_ptr, in_a_block, ShrRef, RefOf, shr_vals, owns, plain, nothing, heard, yes, Stays, walk_of, stay_dropped, Goes-dropped, ends_at, after, bytes_type, memory_owned, ghosts, R, token}
use mir.Syntax.{ty_unit}
use mir.Val.{has_ty, WT}
use prog.Memory.{size, align, capped}
use types.ByLocal.{lands_last}
use denote.Param.{layout}
use denote.Steps.{only}
use denote.Triple.Call.{calls_at_last}
use denote.Triple.Spec.{triple_of}
use denote.Triple.Table.{framed}
use Rattle.std_alloc.proofs.RcSteps.{word, word-Good}
use Rattle.std_heap.specs.contracts.Global.{the_row as G}
use Rattle.std_heap.proofs.Global.TheLaws as heap
use Rattle.std_heap.specs.contracts.GlobalAllocator.deallocate as g
use Rattle.std_heap.proofs.GlobalAllocator.deallocate.Met.{met}
use Rattle.eb_block.proofs.Parts.{bytes_room, block_size}
use Rattle.eb_block.specs.contracts.memory.deallocate as f
use Rattle.eb_block.proofs.memory.deallocate.Statement.{statement}
use Rattle.eb_block.proofs.memory.deallocate.Code as code
use Rattle.eb_block.specs.contracts.memory.Base.{the_row as B}
use Rattle.eb_block.proofs.memory.Base.TheLaws.{lowers as base}
use Rattle.eb_block.proofs.memory.Memory.TheLaws.{lowers as memory}
use Rattle.core.proofs.alloc.Calls.{Goes-blank}

abbrev stayed : Stays f.ended.signature.params f.ended.kept
stayed = (stay_dropped _ yes, (stay_dropped _ yes, (stay_dropped _ yes, tt)))

pub deallocate_spec : {M : Type 1} → statement M
deallocate_spec 𝓤 𝓛 𝓜 𝓡 wired =
    let c = f.clauses 𝓛 𝓜.mem 𝓡.returns in let W = walk_of 𝓛 f.ended stayed c in let 𝓣 = tables 𝓤 𝓛.H 𝓜 𝓡 𝓡.env in
    proved 𝓛 f.ended stayed c 𝓜 𝓡 (Goes-dropped 𝓛 1 (RefOf (0 ∷ []) tt (plain (λ _. G)) (λ _. tt)) yes (λ κs x w. refl), (Goes-dropped 𝓛 1 (plain (λ _. B)) yes (λ κs x w. refl), (Goes-blank 𝓛 1 (plain (λ _. R)) yes (λ κs x w. tt), tt)))
    f.Key.name code.function (code.unfolded 𝓤 𝓛.H 𝓜 𝓡 wired)
    (λ κs. (shr_vals, ((λ d. base.lowered d ∷ []), ((λ d. (memory G ghosts heap.the_row_laws).lowered d ∷ []), tt)))) (λ κs. ((λ r vs s. s.0), (base.val_is, ((memory G ghosts heap.the_row_laws).val_is, tt)))) (λ κs qs bounds a _ are.
    let κ = κs.0 in let q = qs.0 in let rb = a.0.ref_ptr.0 in let ro = a.0.ref_ptr.1 in let p = a.1.0.at in let d = a.1.1.0 in
    let y : W.Ghost = ((κs, qs, bounds, a, (shr_vals a.0, (base.lowered a.1.0 ∷ [], ((memory G ghosts heap.the_row_laws).lowered d ∷ [], tt)))), tt) in
    let Asks = (d.at ≡ p) × (length d.bytes + d.room ≡ 16384) in
    qed 𝓛 (((‵ (flft κ q) ⊛ ‵ ftrue) ⊛ ‵ (owns (ShrRef (named 0) κ G ∷ B ∷ R ∷ []) a y.0.4)) ∷ raw (fact 𝓤 Asks) ∷ []) ∵
    move ! (1 ∷ []) $ heard ! Asks (λ asked.
    split ! $ split ! $ move ! (2 ∷ []) $ fsplit3 ! $ fsplit ! $ feq_l ! (λ _. move ! (2 ∷ []) $ fsplit ! $ fsplit ! $ keep ! (1 ∷ 3 ∷ 5 ∷ []) $
    -- [the memory; the `&` to the allocator; its token]
    enter ! _ _ _ _ _ $ alloc_all ! (λ l. pass_all ! refl ((tt, tt), (word-Good [] p, ((tt, (tt, tt)), tt))) $
    let En = env (code.function).locals l in
    in_a_block ! d.at (λ z. memory_owned (token d.alloc) z d.bytes d.room) (id⊢ 𝓤 (never 𝓤)) (λ b o e. fsplit3 ! $
    use2 𝓛 (‵ (froom (bytes_type 16384) b o)) (bytes_room 𝓛 b d.bytes d.room 16384 o asked.1) $
    let Gv = triple_of 𝓛 g.signature (g.spec 𝓛 𝓜.mem 𝓡.returns) in
    let z : Gv.Ghost = (((κ, tt), (q, tt), tt, (a.0, (block_ptr b o, (16384, (1, tt)))), (vptr rb ro ∷ [], (vptr b o ∷ [], (vint w64 16384 ∷ [], (vint w64 1 ∷ [], tt))))), bytes_type 16384) in
    let Fits = (capped (size (bytes_type 16384)) ≡ 16384) × (capped (align (bytes_type 16384)) ≡ 1) in
    fjoin ! $ use0 𝓛 (raw (fact 𝓤 Fits)) (fact_i 𝓤 Fits (emp 𝓤) (refl, refl)) $ join ! $
    nothing ! $ flt_i ! 1 (2 ^ 64) (lit< tt) $ feq_i ! (List Val) (vint w64 1 ∷ []) (vint w64 1 ∷ []) refl $ fjoin ! $ fjoin ! $
    flt_i ! 16384 (2 ^ 64) (lit< tt) $ feq_i ! (List Val) (vint w64 16384 ∷ []) (vint w64 16384 ∷ []) refl $ fjoin ! $ fjoin ! $
    feq_i ! (List Val) (vptr b o ∷ []) (vptr b o ∷ []) refl $ fjoin ! $
    move ! (2 ∷ []) $ feq_i ! (List Val) (vptr rb ro ∷ []) (vptr rb ro ∷ []) refl $ fjoin ! $ move ! (0 ∷ 1 ∷ []) $ fjoin ! $
    move ! (2 ∷ []) $ nothing ! $ move ! (1 ∷ 0 ∷ []) $ join ! $ join ! $ use2 𝓛 (raw (Gv.pre z)) (id⊢ 𝓤 _) $
    take_at ! 2 $ rewrite ! 0 (λ (w : Ptr). ‵ (fat full_share (layout B) (l 2) 0 (word w))) (sym asked.0 ∙ e) refl $ give_at ! 2 $
    first ! $ blocks ! $
    calls_at_last ! (framed 𝓤 𝓛.H 𝓜 𝓣) Gv (met 𝓤 𝓛 𝓜 𝓡 (code.calls-std_heap::GlobalAllocator::deallocate 𝓡.env wired)) z
    (and_then ! (get ! refl) (and_then ! (get_in ! (fld ! refl (stop !)) (sub ! 0 refl (whole !))) (and_then ! (block_size !) (and_then ! (lit ! tt) (no_more !))))) (λ v.
    use1 𝓛 (later (some (λ (r : Unit {0}). ((‵ (flft κ q) ⊛ ‵ ftrue) ⊛ ‵ (unit.own_val r (v ∷ []))) ⊛ some (λ (ws : Unit {0} × (Unit {0} × (Unit {0} × (Unit {0} × Unit {0})))). ‵ (fsep ftrue (fsep ftrue (fsep ftrue (fsep ftrue ftrue)))) ⊛ ‵ ftrue)))) (id⊢ 𝓤 _) $
    await ! tt $ pick ! (λ r. split ! $ split ! $ split ! $ move ! (2 ∷ []) $ feq_l ! (λ is_unit.
    lands_last ! refl (subst (λ (w : Val). T (has_ty ty_unit w) × WT w) (sym (ap only is_unit)) (tt, tt)) $
    exec ! 𝓣.C 𝓣.Λ En (after 1 (code.function).body) (at_ret _ (W.post y)) $
    sets ! (of_opd ! (unit_lit !)) refl (tt, tt) $ returns ! (look_at ! 0 refl) $ free_all ! refl $ keep ! (0 ∷ []) $
    suffices ! _ (ends_at 𝓛 f.ended stayed c y vunit tt (tt, (tt, (tt, tt))) (tt, (tt, (tt, tt)))) $
    feq_i ! _ (vunit ∷ []) _ refl $ nothing ! $ nothing ! $ join ! $ nothing ! $ join ! $ nothing ! $ join ! $
    move ! (2 ∷ []) $ nothing ! $ move ! (1 ∷ 0 ∷ []) $ join ! $ group ! 3 $ nothing ! $ move ! (1 ∷ 0 ∷ []) $ done !))))))))
