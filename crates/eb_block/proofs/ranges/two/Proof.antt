-- `two` makes a slice of each range.
use Rattle.eb_block.proofs.Steps.{◌+◌, List, [], ◌∷◌, length, take, refl, sym, arith, GName, Lft, proved, flft, ftrue, named, Val, fact, tables, ‵, raw, ◌⊛◌, some, later, await, pick, at_ret, ◌$◌, ◌∵◌, !, qed, done, move, keep, use2, split, split3, join, fsplit, fjoin, fpack, feq_i, suffices, frame, enter, of_opd, stop, fld, bin, and_then, no_more, first, blocks, exec, returns, alloc_all, pass_all, free_all, look_at, get, sets, sets_last, env, whole, sub, agg, u8, usize, uint_vals, uint_Tells, owns, plain, nothing, heard, yes, Stays, walk_of, says, stay_dropped, Goes-dropped, ends_at, after, mem}
use mir.Val.{vstruct, vcons, vnil}
use types.Run.{addr, hop, from}
use types.ByLocal.{look_in_at}
use types.SemTy.{Arr}
use types.Follow.{after₂}
use denote.Exit.{no}
use denote.Follow.{both_by}
use denote.RattleType.{RattleType, Valss}
use denote.Signature.{mut_slice_of}
use denote.Slice.{MutSlice, Room, slice_val, mut_slice_vals, mut_slice_Tells}
use denote.Struct.Declared.{shape}
use denote.Struct.Struct.{within}
use denote.Struct.Tuple.{tuple_type}
use denote.Triple.Walked.{Goes-spent_slice}
use lib.ListN.{drop as past}
use Rattle.eb_block.specs.Bytes.{Apart}
use Rattle.eb_block.proofs.TwoRanges.{one, other, G, long_x, long_y, lends_both}
use Rattle.eb_block.specs.contracts.ranges.two as f
use Rattle.eb_block.proofs.ranges.two.Statement.{statement}
use Rattle.eb_block.proofs.ranges.two.Code as code

abbrev stayed : Stays f.ended.signature.params f.ended.kept
stayed = (stay_dropped (mut_slice_of (0 ∷ []) tt (plain (λ _. u8))) no, (stay_dropped _ yes, (stay_dropped _ yes, (stay_dropped _ yes, (stay_dropped _ yes, tt)))))

abbrev Slices : Lft → List RattleType
Slices κ = MutSlice (named 0) κ u8 ∷ MutSlice (named 0) κ u8 ∷ []

pub two_spec : {M : Type 1} → statement M
unfolding both_by
two_spec 𝓤 𝓛 𝓜 𝓡 wired =
    let cl = f.clauses 𝓛 𝓜.mem 𝓡.returns in let W = walk_of 𝓛 f.ended stayed cl in let 𝓣 = tables 𝓤 𝓛.H 𝓜 𝓡 𝓡.env in
    let counts = Goes-dropped 𝓛 1 (plain (λ _. usize)) yes (λ κs x w. refl) in
    proved 𝓛 f.ended stayed cl 𝓜 𝓡 (Goes-spent_slice 𝓛 1 (0 ∷ []) tt (plain (λ _. u8)), (counts, (counts, (counts, (counts, tt)))))
    f.Key.name code.function (code.unfolded 𝓤 𝓛.H 𝓜 𝓡 wired)
    (λ κs. (mut_slice_vals, (uint_vals _, (uint_vals _, (uint_vals _, (uint_vals _, tt)))))) (λ κs. (mut_slice_Tells (named 0) κs.0 u8, (uint_Tells _, (uint_Tells _, (uint_Tells _, (uint_Tells _, tt)))))) (λ κs qs bounds a _ are.
    let κ = κs.0 in let q = qs.0 in let b = a.0.ref_ptr.0 in let o = a.0.ref_ptr.1 in let γ = a.0.ghost_name in let bs = a.0.now in
    let c = a.1.0 in let lc = a.1.1.0 in let d = a.1.1.1.0 in let ld = a.1.1.1.1.0 in
    let y : W.Ghost = ((κs, qs, bounds, a, (mut_slice_vals a.0, (uint_vals _ c, (uint_vals _ lc, (uint_vals _ d, (uint_vals _ ld, tt)))))), tt) in
    let Asks = Apart (length bs) c lc d ld in let room : Room u8 (length bs) = are.0.0.1 in
    let fc = are.1.1.0.1 in let fd = are.1.1.1.1.0.1 in
    qed 𝓛 (((‵ (flft κ q) ⊛ ‵ ftrue) ⊛ ‵ (owns (MutSlice (named 0) κ u8 ∷ usize ∷ usize ∷ usize ∷ usize ∷ []) a y.0.4)) ∷ raw (fact 𝓤 Asks) ∷ []) ∵
    move ! (1 ∷ []) $ heard ! Asks (λ asked. split ! $
    enter ! _ _ _ _ _ $ alloc_all ! (λ l. pass_all ! refl ((tt, (tt, (record { fits = room.0 }, tt))), ((tt, record { fits = are.1.0.1 }), ((tt, record { fits = fc }), ((tt, record { fits = are.1.1.1.0.1 }), ((tt, record { fits = fd }), tt))))) $
    let En = env (code.function).locals l in
    let lx = long_x 𝓛 (named 0) κ q b o γ bs c lc d ld asked in let ly = long_y 𝓛 (named 0) κ q b o γ bs c lc d ld asked in
    let rx : Room u8 (length (take lc (past c bs))) = (omega (arith, lx, asked.first, room.0), omega (arith, lx, asked.first, room.1)) in
    let ry : Room u8 (length (take ld (past d bs))) = (omega (arith, ly, asked.second, room.0), omega (arith, ly, asked.second, room.1)) in
    let v : Val = vstruct (vcons (slice_val (b, c + o) lc) (vcons (slice_val (b, d + o) ld) vnil)) in
    sets ! (addr ! (from ! (fld ! refl (hop ! (look_in_at ! 1 (sub ! 0 refl (whole !))) (stop !))))) refl (tt, tt) $
    first ! $ blocks ! $
    sets ! (bin ! (get ! refl) (get ! refl) tt) refl (tt, tt) $ sets ! (bin ! (get ! refl) (get ! refl) tt) refl (tt, tt) $
    sets ! (agg ! (and_then ! (get ! refl) (and_then ! (get ! refl) (no_more !)))) refl (tt, (tt, (record { fits = fc }, tt))) $
    sets ! (agg ! (and_then ! (get ! refl) (and_then ! (get ! refl) (no_more !)))) refl (tt, (tt, (record { fits = fd }, tt))) $
    sets_last ! (agg ! (and_then ! (get ! refl) (and_then ! (get ! refl) (no_more !)))) refl (tt, ((tt, (record { fits = fc }, tt)), ((tt, (record { fits = fd }, tt)), tt))) $
    exec ! 𝓣.C 𝓣.Λ En (after 2 (code.function).body) (at_ret _ (W.post y)) $
    sets ! (of_opd ! (get ! refl)) refl (tt, ((tt, (record { fits = fc }, tt)), ((tt, (record { fits = fd }, tt)), tt))) $
    move ! (1 ∷ []) $ fsplit ! $ move ! (2 ∷ []) $ split ! $ move ! (2 ∷ 0 ∷ []) $
    -- [the slice; the token of its lifetime]
    use2 𝓛 (later (some (λ (γs : GName × GName). ‵ ((MutSlice (named 0) κ u8).own_val (one 𝓛 (named 0) κ q b o γ bs c lc d ld asked γs) (slice_val (b, c + o) (length (take lc (past c bs))) ∷ []))
    ⊛ ‵ ((MutSlice (named 0) κ u8).own_val (other 𝓛 (named 0) κ q b o γ bs c lc d ld asked γs) (slice_val (b, d + o) (length (take ld (past d bs))) ∷ [])) ⊛ ‵ (flft κ q)
    ⊛ ‵ (after₂ (Arr (mem u8) 0) (Arr (mem u8) 0) (Arr (mem u8) 0) γ γs.0 γs.1 (G 𝓛 (named 0) κ q b o γ bs c lc d ld asked)))))
    (lends_both 𝓛 (named 0) κ q b o γ bs c lc d ld asked rx ry (mut_slice_vals a.0)) $ await ! tt $ pick ! (λ γs. split3 ! $
    let r₁ = one 𝓛 (named 0) κ q b o γ bs c lc d ld asked γs in let r₂ = other 𝓛 (named 0) κ q b o γ bs c lc d ld asked γs in
    nothing ! $ move ! (2 ∷ 0 ∷ []) $ fjoin ! $ move ! (1 ∷ 0 ∷ []) $ fjoin ! $
    feq_i ! (List Val) (v ∷ []) (vstruct (vcons (slice_val (b, c + o) (length (take lc (past c bs)))) (vcons (slice_val (b, d + o) (length (take ld (past d bs)))) vnil)) ∷ [])
    (λ k. vstruct (vcons (slice_val (b, c + o) (sym lx k)) (vcons (slice_val (b, d + o) (sym ly k)) vnil)) ∷ []) $ fjoin ! $
    fpack ! (Valss (Slices κ)) (within (shape (tuple_type (Slices κ))) (r₁, (r₂, tt)) (v ∷ [])) (slice_val (b, c + o) (length (take lc (past c bs))) ∷ [], (slice_val (b, d + o) (length (take ld (past d bs))) ∷ [], tt)) $
    move ! (1 ∷ []) $ split ! $ returns ! (look_at ! 0 refl) $ free_all ! refl $ keep ! (2 ∷ 0 ∷ 1 ∷ []) $
    suffices ! _ (ends_at 𝓛 f.ended stayed cl y v (r₁, r₂) (tt, (tt, (tt, (tt, (tt, tt))))) (tt, (tt, (tt, (tt, (tt, tt)))))) $
    nothing ! $ nothing ! $ fjoin ! $ nothing ! $ fjoin ! $ nothing ! $ fjoin ! $ nothing ! $ fjoin ! $ nothing ! $ fjoin ! $ join ! $ nothing ! $ move ! (2 ∷ 0 ∷ []) $ join ! $ join ! $ frame ! $
    says ! (refl, refl, lx, ly) $ done !))))
