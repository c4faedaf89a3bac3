-- `slice` shows the bytes of a range.
use Rattle.eb_block.proofs.Steps.{◌≡◌, ℕ, ◌+◌, ◌*◌, ◌≤◌, ◌^◌, List, [], ◌∷◌, length, take, refl, sym, ap, ◌∙◌, arith, proved, full_share, id⊢, never, fat, flft, ftrue, named, Val, fact, tables, ‵, raw, ◌⊛◌, at_ret, ◌$◌, ◌∵◌, !, qed, done, move, keep, drop, use1, split, join, fsplit, fjoin, feq_i, feq_l, flt_i, rewrite, suffices, frame, enter, of_opd, stop, fld, bin, and_then, no_more, first, blocks, exec, returns, alloc_all, pass_all, free_all, look_at, get, get_in, sets, sets_last, take_at, give_at, env, whole, sub, agg, u8, usize, uint_vals, uint_Tells, Ptr, in_a_block, ShrRef, RefOf, shr_vals, owns, plain, nothing, heard, yes, Stays, walk_of, says, stay_dropped, Goes-dropped, ends_at, after, memory_lent, R}
use denote.Param.{layout}
use denote.Opens.{hide, unhide}
use denote.Slice.{slice_val, elements_shared}
use lib.ListN.{drop as past, length-take, length-drop}
use Rattle.std_alloc.proofs.RcSteps.{word, word-Good}
use Rattle.eb_block.proofs.Parts.{range_seen}
use Rattle.eb_block.specs.contracts.memory.Memory+Global.slice as f
use Rattle.eb_block.proofs.memory.Memory+Global.slice.Statement.{statement}
use Rattle.eb_block.proofs.memory.Memory+Global.slice.Code as code
use Rattle.eb_block.specs.contracts.memory.Base.{the_row as B}
use Rattle.eb_block.proofs.memory.Base.TheLaws.{lowers as base}

abbrev stayed : Stays f.ended.signature.params f.ended.kept
stayed = (stay_dropped _ yes, (stay_dropped _ yes, (stay_dropped _ yes, (stay_dropped _ yes, tt))))

pub slice_spec : {M : Type 1} → statement M
slice_spec 𝓤 𝓛 𝓜 𝓡 wired =
    let c = f.clauses 𝓛 𝓜.mem 𝓡.returns in let W = walk_of 𝓛 f.ended stayed c in let 𝓣 = tables 𝓤 𝓛.H 𝓜 𝓡 𝓡.env in
    let goes = Goes-dropped 𝓛 1 (plain (λ _. B)) yes (λ κs x w. refl) in let counts = Goes-dropped 𝓛 1 (plain (λ _. usize)) yes (λ κs x w. refl) in
    proved 𝓛 f.ended stayed c 𝓜 𝓡 (Goes-dropped 𝓛 1 (RefOf (0 ∷ []) tt (plain (λ _. R)) (λ _. tt)) yes (λ κs x w. refl), (goes, (counts, (counts, tt))))
    f.Key.name code.function (code.unfolded 𝓤 𝓛.H 𝓜 𝓡 wired)
    (λ κs. (shr_vals, ((λ d. base.lowered d ∷ []), (uint_vals _, (uint_vals _, tt))))) (λ κs. ((λ r vs s. s.0), (base.val_is, (uint_Tells _, (uint_Tells _, tt))))) (λ κs qs bounds a _ are.
    let κ = κs.0 in let q = qs.0 in let rb = a.0.ref_ptr.0 in let ro = a.0.ref_ptr.1 in let d = a.0.now in let p = a.1.0.at in let off = a.1.1.0 in let len = a.1.1.1.0 in
    let y : W.Ghost = ((κs, qs, bounds, a, (shr_vals a.0, (base.lowered a.1.0 ∷ [], (uint_vals _ off, (uint_vals _ len, tt))))), tt) in
    let Asks = (p ≡ d.at) × (off + len ≤ length d.bytes) × (length d.bytes ≤ 16384) in
    qed 𝓛 (((‵ (flft κ q) ⊛ ‵ ftrue) ⊛ ‵ (owns (ShrRef (named 0) κ R ∷ B ∷ usize ∷ usize ∷ []) a y.0.4)) ∷ raw (fact 𝓤 Asks) ∷ []) ∵
    move ! (1 ∷ []) $ heard ! Asks (λ asked.
    split ! $ split ! $ move ! (2 ∷ []) $ fsplit ! $ fsplit ! $ feq_l ! (λ _. keep ! (0 ∷ 2 ∷ []) $
    enter ! _ _ _ _ _ $ alloc_all ! (λ l. pass_all ! refl ((tt, tt), (word-Good [] p, ((tt, record { fits = are.1.1.0.1 }), ((tt, record { fits = are.1.1.1.0.1 }), tt)))) $
    let En = env (code.function).locals l in
    unhide ! $ fsplit ! $ drop ! $ in_a_block ! d.at (λ z. memory_lent z d.bytes κ) (id⊢ 𝓤 (never 𝓤)) (λ b o e.
    take_at ! 2 $ rewrite ! 0 (λ (z : Ptr). ‵ (fat full_share (layout B) (l 2) 0 (word z))) (asked.0 ∙ e) refl $ give_at ! 2 $
    let xs = take len (past off d.bytes) in let here : ℕ × ℕ = (b, off + o) in
    let long : length xs ≡ len = omega (arith, length-take len (past off d.bytes), length-drop off d.bytes, asked.1) in
    first ! $ blocks ! $
    sets ! (bin ! (get_in ! (fld ! refl (stop !)) (sub ! 0 refl (whole !))) (get ! refl) tt) refl (tt, tt) $
    use1 𝓛 (‵ (elements_shared u8 xs b (off + o) κ)) (range_seen 𝓛 b κ off len o d.bytes) $ hide ! $
    sets_last ! (agg ! (and_then ! (get ! refl) (and_then ! (get ! refl) (no_more !)))) refl (tt, (tt, (record { fits = are.1.1.1.0.1 }, tt))) $
    exec ! 𝓣.C 𝓣.Λ En (after 1 (code.function).body) (at_ret _ (W.post y)) $ sets ! (of_opd ! (get ! refl)) refl (tt, (tt, (record { fits = are.1.1.1.0.1 }, tt))) $
    flt_i ! (length xs * 1) (2 ^ 63) (omega (arith, long, asked.1, asked.2)) $ flt_i ! (length xs) (2 ^ 64) (omega (arith, long, asked.1, asked.2)) $ fjoin ! $
    feq_i ! (List Val) (slice_val here len ∷ []) (slice_val here (length xs) ∷ []) (ap (λ k. slice_val here k ∷ []) (sym long)) $ fjoin ! $ fjoin ! $
    returns ! (look_at ! 0 refl) $ free_all ! refl $ keep ! (1 ∷ 0 ∷ []) $
    suffices ! _ (ends_at 𝓛 f.ended stayed c y (slice_val here len) (record { ref_ptr = here; now = xs }) (tt, (tt, (tt, (tt, tt)))) (tt, (tt, (tt, (tt, tt))))) $ says ! refl $
    nothing ! $ move ! (1 ∷ 0 ∷ []) $ join ! $ frame ! $ nothing ! $ nothing ! $ fjoin ! $ nothing ! $ fjoin ! $ nothing ! $ fjoin ! $ nothing ! $ fjoin ! $ done !)))))
