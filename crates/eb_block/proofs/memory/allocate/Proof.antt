-- `allocate` takes a block of room, with the right to free it.
use Rattle.eb_block.proofs.Steps.{◌≡◌, ℕ, zero, ◌+◌, ◌^◌, List, [], ◌∷◌, ◌++◌, refl, ap, ◌∙◌, arith, lit<, w64, Ura, Logic, ent, sep, sem, emp, fact_i, proved, id⊢, froom, flft, ftrue, fsep, named, Val, vint, vptr, fact, tables, ‵, raw, ◌⊛◌, some, later, await, pick, at_ret, ◌$◌, ◌∵◌, !, qed, done, move, keep, drop, use0, use1, use2, split, join, fsplit, fjoin, fpack, feq_i, feq_l, flt_i, rewrite, suffices, frame, enter, of_opd, lit, stop, fld, and_then, no_more, first, exec, returns, alloc_all, pass_all, free_all, look_at, get, get_in, sets, sets_last, env, whole, agg, Ptr, block_ptr, ShrRef, RefOf, shr_vals, owns, plain, nothing, yes, Stays, walk_of, says, stay_dropped, Goes-dropped, ends_at, after, bytes_type, ghosts, R, token}
use mir.Val.{vstruct, vcons, vnil, of_list}
use mir.Syntax.{Ty, Body, impl, tnil, dnil}
use prog.Memory.{Memory, size, align, capped}
use prog.Routine.{Routine}
use contract.Monad.{Fun}
use base.Logic.{SProp, guard, fst∗, never}
use mathlib.Core.Bool.{Bool, true, false}
use types.Kit.{Post as After, any_q, show, check}
use types.Match.{live, vrt, in_variant}
use types.Run.{switches_on}
use types.ByLocal.{get_tag, lands_as}
use prog.Wp.{Wp, after_seq, at_return}
use denote.Param.{layout}
use denote.RattleType.{RattleType, Valss}
use denote.RawPtr.{null_ptr, ptr_val, room_for, in_a_block}
use denote.Steps.{peeks}
use denote.Struct.Struct.{Struct, within, Struct-Makes}
use denote.Struct.Declared as Declared
use denote.Struct.Owning.{shape}
use denote.Struct.Tuple.{Tuple, tuple_type}
use denote.Shadow.{makes_shadow}
use denote.Steps.{owned, only}
use denote.Laws.{Is, shows}
use denote.Triple.Call.{calls_at}
use denote.Triple.Spec.{triple_of}
use denote.Triple.Table.{framed}
use Rattle.std.specs.Prelude.{Ok, Err}
use Rattle.core.specs.contracts.result.Result as RS
use Rattle.core.specs.contracts.alloc.AllocError as AE
use Rattle.core.proofs.alloc.Calls.{Al, Answer, answer_val, Answer-typed, got, Answered, answers}
use Rattle.core.specs.Allocator.{block_if_ok}
use Rattle.std_alloc.proofs.RcSteps.{Good, word, word-Good, first_Good}
use Rattle.std_alloc.proofs.ResultValues.{ok_of, err_of}
use Rattle.std_alloc.proofs.VecSteps.Shapes.{head, arm_body}
use Rattle.std_heap.specs.contracts.Global.{the_row as G}
use Rattle.std_heap.specs.contracts.GlobalAllocator.TheImpl.{dict}
use Rattle.std_heap.proofs.Global.TheLaws as heap
use Rattle.std_heap.specs.contracts.GlobalAllocator.allocate as g
use Rattle.std_heap.proofs.GlobalAllocator.allocate.Met.{met}
use Rattle.eb_block.proofs.Parts.{block_size}
use Rattle.eb_block.specs.contracts.memory.allocate as f
use Rattle.eb_block.proofs.memory.allocate.Statement.{statement}
use Rattle.eb_block.proofs.memory.allocate.Code as code
use Rattle.eb_block.specs.contracts.memory.Memory as M-type
use Rattle.eb_block.specs.contracts.memory.Base.{the_row as B}

abbrev stayed : Stays f.ended.signature.params f.ended.kept
stayed = (stay_dropped _ yes, tt)

abbrev mark : Val
mark = vstruct (vcons (vstruct vnil) vnil)

abbrev pair : Ptr → Val
pair p = vstruct (vcons (word p) (vcons mark vnil))

abbrev Two : RattleType
Two = Tuple (B ∷ R ∷ [])

abbrev Out : RattleType
Out = RS.the_row Two AE.the_row

-- the allocator, as the steps of `Calls` take one
abbrev Z : Al
Z = record { row = G; laws = heap.the_row_laws; g = ghosts; d = dict; drops = impl [] tnil dnil }

val_ok : (p : Ptr) (v : Val) → Is Answer (Ok p) (v ∷ []) → v ≡ live 0 (of_list (ptr_val p ∷ []))
val_ok p v is = ap only is.1.0 ∙ ap (λ (ws : List Val). live 0 (of_list ws)) (is.1.1.1.0 ∙ ap (λ (ws : List Val). ws ++ []) is.1.1.1.1.0)

val_err : (e : (AE.the_row).Denot) (v : Val) → Is Answer (Err e) (v ∷ []) → v ≡ live 1 (of_list (vstruct vnil ∷ []))
val_err e v is = ap only is.1.0 ∙ ap (λ (ws : List Val). live 1 (of_list ws)) (is.1.1.1.0 ∙ ap (λ (ws : List Val). ws ++ []) is.1.1.1.1.0.1.0)

module _ {M : Type 1} {𝓤 : Ura M} (𝓛 : Logic 𝓤) where
  base_of : (p : Ptr) → ent 𝓤 (emp 𝓤) (sem 𝓛 (B.own_val (record { at = p }) (word p ∷ [])))
  base_of p = makes_shadow 𝓛 (B.own_val (record { at = p }) (word p ∷ [])) (λ vss. (tt, (tt, tt))) ((ptr_val p ∷ [], tt), (refl, (refl, tt)))

  mark_of : ent 𝓤 (emp 𝓤) (sem 𝓛 ((Struct (shape (M-type.the_type G ghosts))).own_val (tt, tt) (mark ∷ [])))
  mark_of = makes_shadow 𝓛 ((Struct (shape (M-type.the_type G ghosts))).own_val (tt, tt) (mark ∷ [])) (λ vss. (tt, ((λ uss. (tt, tt)), tt))) ((vstruct vnil ∷ [], tt), (refl, ((tt, (refl, tt)), tt)))

  two_of : (x : B.Denot) (d : R.Denot) (p : Ptr) → ent 𝓤 (sep 𝓤 (sem 𝓛 (B.own_val x (word p ∷ []))) (sem 𝓛 (R.own_val d (mark ∷ [])))) (sem 𝓛 (Two.own_val (x, d) (pair p ∷ [])))
  two_of x d p = qed 𝓛 (‵ (B.own_val x (word p ∷ [])) ∷ ‵ (R.own_val d (mark ∷ [])) ∷ []) ∵ nothing ! $ move ! (2 ∷ 0 ∷ []) $ fjoin ! $ move ! (1 ∷ 0 ∷ []) $ fjoin ! $
      feq_i ! (List Val) (pair p ∷ []) (pair p ∷ []) refl $ fjoin ! $
      fpack ! (Valss (B ∷ R ∷ [])) (within (Declared.shape (tuple_type (B ∷ R ∷ []))) (x, (d, tt)) (pair p ∷ [])) (word p ∷ [], (mark ∷ [], tt)) $ done !

  module _ (at_mem : Memory → SProp 𝓤) (run : Routine → Fun 𝓤) (a : G.Denot) (τ : Ty) (v : Val) where
    abbrev Told : Bool × (ℕ × ℕ) → SProp 𝓤
    Told c = guard 𝓤 (v ≡ answer_val c.0 c.1.0 c.1.1) (sem 𝓛 (got (token a) τ c.0 c.1.0 c.1.1))

    told : (r : Answer.Denot) → ent 𝓤 (sep 𝓤 (sem 𝓛 (Answer.own_val r (v ∷ []))) (sem 𝓛 (block_if_ok (token a) τ r))) (Answered Z 𝓛 at_mem run a τ v)
    told (Ok p) = qed 𝓛 (‵ (Answer.own_val (Ok p) (v ∷ [])) ∷ ‵ (fsep (room_for τ p) (token a τ p)) ∷ []) ∵
        peeks ! Answer _ (shows 𝓛 Answer) (Ok p) (v ∷ []) (λ is. drop ! $
        in_a_block ! p (λ z. fsep (room_for τ z) (token a τ z)) (fst∗ 𝓤 (never 𝓤) (sem 𝓛 (token a τ null_ptr))) (λ b o e.
        show ! Told (true, (b, o)) $ check ! (val_ok p v is ∙ ap (λ (z : Ptr). live 0 (of_list (ptr_val z ∷ []))) e) $ done !))
    told (Err e) = qed 𝓛 (‵ (Answer.own_val (Err e) (v ∷ [])) ∷ ‵ ftrue ∷ []) ∵
        peeks ! Answer _ (shows 𝓛 Answer) (Err e) (v ∷ []) (λ is. drop ! $ show ! Told (false, (0, 0)) $ check ! (val_err e v is) $ done !)

pub allocate_spec : {M : Type 1} → statement M
allocate_spec 𝓤 𝓛 𝓜 𝓡 wired =
    let c = f.clauses 𝓛 𝓜.mem 𝓡.returns in let W = walk_of 𝓛 f.ended stayed c in let 𝓣 = tables 𝓤 𝓛.H 𝓜 𝓡 𝓡.env in
    proved 𝓛 f.ended stayed c 𝓜 𝓡 (Goes-dropped 𝓛 1 (RefOf (0 ∷ []) tt (plain (λ _. G)) (λ _. tt)) yes (λ κs x w. refl), tt)
    f.Key.name code.function (code.unfolded 𝓤 𝓛.H 𝓜 𝓡 wired)
    (λ κs. (shr_vals, tt)) (λ κs. ((λ r vs s. s.0), tt)) (λ κs qs bounds a _ are.
    let κ = κs.0 in let q = qs.0 in let rb = a.0.ref_ptr.0 in let ro = a.0.ref_ptr.1 in
    let y : W.Ghost = ((κs, qs, bounds, a, (shr_vals a.0, tt)), tt) in
    qed 𝓛 (((‵ (flft κ q) ⊛ ‵ ftrue) ⊛ ‵ (owns (ShrRef (named 0) κ G ∷ []) a y.0.4)) ∷ ‵ ftrue ∷ []) ∵
    split ! $ split ! $ move ! (2 ∷ []) $ fsplit ! $ fsplit ! $ feq_l ! (λ _. keep ! (0 ∷ 2 ∷ []) $
    enter ! _ _ _ _ _ $ alloc_all ! (λ l. pass_all ! refl ((tt, tt), tt) $
    let En = env (code.function).locals l in
    let τ = bytes_type 16384 in
    let Gv = triple_of 𝓛 g.signature (g.spec 𝓛 𝓜.mem 𝓡.returns) in
    let z : Gv.Ghost = (((κ, tt), (q, tt), tt, (a.0, (16384, (1, tt))), (vptr rb ro ∷ [], (vint w64 16384 ∷ [], (vint w64 1 ∷ [], tt)))), τ) in
    let Fits = (capped (size τ) ≡ 16384) × (capped (align τ) ≡ 1) in
    use0 𝓛 (raw (fact 𝓤 Fits)) (fact_i 𝓤 Fits (emp 𝓤) (refl, refl)) $
    nothing ! $ flt_i ! 1 (2 ^ 64) (lit< tt) $ feq_i ! (List Val) (vint w64 1 ∷ []) (vint w64 1 ∷ []) refl $ fjoin ! $ fjoin ! $
    flt_i ! 16384 (2 ^ 64) (lit< tt) $ feq_i ! (List Val) (vint w64 16384 ∷ []) (vint w64 16384 ∷ []) refl $ fjoin ! $ fjoin ! $
    move ! (2 ∷ []) $ feq_i ! (List Val) (vptr rb ro ∷ []) (vptr rb ro ∷ []) refl $ fjoin ! $ move ! (0 ∷ 1 ∷ []) $ fjoin ! $
    move ! (2 ∷ []) $ nothing ! $ move ! (1 ∷ 0 ∷ []) $ join ! $ join ! $ use2 𝓛 (raw (Gv.pre z)) (id⊢ 𝓤 _) $
    calls_at ! (framed 𝓤 𝓛.H 𝓜 𝓣) Gv (met 𝓤 𝓛 𝓜 𝓡 (code.calls-std_heap::GlobalAllocator::allocate 𝓡.env wired)) z
    (and_then ! (get ! refl) (and_then ! (block_size !) (and_then ! (lit ! tt) (no_more !)))) (λ v.
    use1 𝓛 (later (some (λ (r : Answer.Denot). ((‵ (flft κ q) ⊛ ‵ ftrue) ⊛ ‵ (Answer.own_val r (v ∷ []))) ⊛ some (λ (ws : Unit {0} × (Unit {0} × (Unit {0} × Unit {0}))). ‵ (fsep ftrue (fsep ftrue (fsep ftrue ftrue))) ⊛ ‵ (block_if_ok (token a.0.now) τ r))))) (id⊢ 𝓤 _) $
    await ! tt $ pick ! (λ r. split ! $ move ! (1 ∷ []) $ pick ! (λ ws. split ! $ drop ! $ move ! (1 ∷ []) $ split ! $ split ! $ move ! (2 ∷ 3 ∷ []) $
    use2 𝓛 (raw (Answered Z 𝓛 𝓜.mem 𝓡.returns a.0.now τ v)) (told 𝓛 𝓜.mem 𝓡.returns a.0.now τ v r) $
    let both : Body = head (after 1 (code.function).body) in
    let Then : After 𝓤 𝓛.H = any_q (after_seq 𝓤 𝓛.H (Wp 𝓤 𝓛.H 𝓣.C 𝓣.Λ En (after 2 (code.function).body) (at_return 𝓤 𝓛.H En (W.post y))) (at_return 𝓤 𝓛.H En (W.post y))) in
    -- [what was answered; the token of κ]
    answers Z ! 𝓜.mem 𝓡.returns a.0.now τ v
    (λ b o e.
    let p : Ptr = block_ptr b o in let base : B.Denot = record { at = p } in let memory : R.Denot = record { mark = record {}; at = p; bytes = []; room = 16384; alloc = a.0.now } in
    let typed : Good (layout Two) (pair p) = (tt, ((tt, tt), ((tt, tt), tt))) in let ok = first_Good (layout Two) (pair p) typed in let here : o ≡ zero + o = omega arith in
    lands_as ! e refl (Answer-typed true b o) $ first ! $ switches_on ! (get_tag ! (vrt ! refl (fld ! refl (stop !))) (whole !)) $ exec ! 𝓣.C 𝓣.Λ En (arm_body 0 both) Then $
    sets ! (of_opd ! (get_in ! (vrt ! refl (fld ! refl (stop !))) (in_variant ! 0 0 refl refl (whole !)))) refl (tt, tt) $
    sets ! (agg ! (and_then ! (get ! refl) (no_more !))) refl (word-Good [] p) $
    sets ! (agg ! (no_more !)) refl (tt, tt) $ sets ! (agg ! (and_then ! (get ! refl) (no_more !))) refl (tt, (tt, tt)) $
    sets ! (agg ! (and_then ! (get ! refl) (and_then ! (get ! refl) (no_more !)))) refl typed $
    sets_last ! (agg ! (and_then ! (lit ! tt) (and_then ! (get ! refl) (no_more !)))) refl ok $
    exec ! 𝓣.C 𝓣.Λ En (after 2 (code.function).body) (at_ret En (W.post y)) $ sets ! (of_opd ! (get ! refl)) refl ok $
    rewrite ! 0 (λ (k : ℕ). ‵ (froom τ b k)) here refl $ fjoin ! $ nothing ! $ fjoin ! $ use0 𝓛 (‵ ((Struct (shape (M-type.the_type G ghosts))).own_val (tt, tt) (mark ∷ []))) (mark_of 𝓛) $ fjoin ! $
    use0 𝓛 (‵ (B.own_val base (word p ∷ []))) (base_of 𝓛 p) $ use2 𝓛 (‵ (Two.own_val (base, memory) (pair p ∷ []))) (two_of 𝓛 base memory p) $
    use1 𝓛 (‵ (Out.own_val (Ok (base, memory)) (live 0 (vcons (pair p) vnil) ∷ []))) (ok_of 𝓛 Two AE.the_row (base, memory) (pair p)) $
    returns ! (look_at ! 0 refl) $ free_all ! refl $ keep ! (1 ∷ 0 ∷ []) $
    suffices ! _ (ends_at 𝓛 f.ended stayed c y (live 0 (vcons (pair p) vnil)) (Ok (base, memory)) (tt, tt) (tt, tt)) $ says ! (refl, refl, refl) $
    nothing ! $ move ! (1 ∷ 0 ∷ []) $ join ! $ frame ! $ nothing ! $ nothing ! $ fjoin ! $ done !)
    (λ e.
    let none : Val = live 1 (vcons (vstruct vnil) vnil) in
    lands_as ! e refl (Answer-typed false 0 0) $ first ! $ switches_on ! (get_tag ! (vrt ! refl (fld ! refl (stop !))) (whole !)) $ exec ! 𝓣.C 𝓣.Λ En (arm_body 1 both) Then $
    sets ! (of_opd ! (get_in ! (vrt ! refl (fld ! refl (stop !))) (in_variant ! 1 0 refl refl (whole !)))) refl (tt, tt) $
    sets_last ! (agg ! (and_then ! (lit ! tt) (and_then ! (get ! refl) (no_more !)))) refl (tt, (record { fits = lit< tt }, (tt, tt))) $
    exec ! 𝓣.C 𝓣.Λ En (after 2 (code.function).body) (at_ret En (W.post y)) $ sets ! (of_opd ! (get ! refl)) refl (tt, (record { fits = lit< tt }, (tt, tt))) $
    owned ! (Struct (Declared.shape AE.the_type)) (Is (Struct (Declared.shape AE.the_type))) (Struct-Makes 𝓛 (Declared.shape AE.the_type) tt) tt (vstruct vnil ∷ []) (tt, (refl, tt)) $
    use1 𝓛 (‵ (Out.own_val (Err (record {})) (none ∷ []))) (err_of 𝓛 Two AE.the_row (record {}) (vstruct vnil)) $
    returns ! (look_at ! 0 refl) $ free_all ! refl $ keep ! (1 ∷ 0 ∷ []) $
    suffices ! _ (ends_at 𝓛 f.ended stayed c y none (Err (record {})) (tt, tt) (tt, tt)) $ says ! tt $
    nothing ! $ move ! (1 ∷ 0 ∷ []) $ join ! $ frame ! $ nothing ! $ nothing ! $ fjoin ! $ done !)))))))
