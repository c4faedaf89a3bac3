-- `push` writes into the first byte of the room.
use Rattle.eb_block.proofs.Steps.{◌≡◌, ℕ, suc, ◌+◌, ◌-◌, ◌<◌, [], ◌∷◌, ◌++◌, length, refl, sym, ◌∙◌, arith, w8, ty_int, proved, full_share, id⊢, never, fat, froom, flft, ftrue, named, vunit, fact, tables, ‵, raw, ◌⊛◌, at_ret, ◌$◌, ◌∵◌, !, qed, done, move, keep, use1, use2, split, join, fsplit, fsplit3, fjoin, fjoin3, feq_i, rewrite, suffices, frame, group, enter, of_opd, unit_lit, init, stop, fld, bin, assigns_last, first, blocks, exec, returns, alloc_all, pass_all, free_all, look_at, get, get_in, through, sets, take_at, give_at, env, whole, sub, u8, usize, cells, mem, part_at, uint_in, uint_vals, uint_Tells, Ptr, in_a_block, MutRef, mut_vals, mut_Tells, owns, plain, nothing, opens, closes, heard, yes, Stays, walk_of, says, stay_dropped, stay_ref, Goes-dropped, Goes-ref, ends_at, after, R, token}
use denote.Param.{layout}
use Rattle.std.proofs.Common.{length-append}
use Rattle.std_alloc.proofs.RcSteps.{word, word-Good}
use Rattle.eb_block.proofs.Parts.{bytes_join}
use Rattle.eb_block.specs.Memory.{bytes_type, memory_owned}
use Rattle.eb_block.specs.contracts.memory.Memory+Global.push as f
use Rattle.eb_block.proofs.memory.Memory+Global.push.Statement.{statement}
use Rattle.eb_block.proofs.memory.Memory+Global.push.Code as code
use Rattle.eb_block.specs.contracts.memory.Base.{the_row as B}
use Rattle.eb_block.proofs.memory.Base.TheLaws.{lowers as base}

abbrev stayed : Stays f.ended.signature.params f.ended.kept
stayed = (stay_ref (0 ∷ []) tt (plain (λ _. R)), (stay_dropped _ yes, (stay_dropped _ yes, (stay_dropped _ yes, tt))))

pub push_spec : {M : Type 1} → statement M
push_spec 𝓤 𝓛 𝓜 𝓡 wired =
    let c = f.clauses 𝓛 𝓜.mem 𝓡.returns in let W = walk_of 𝓛 f.ended stayed c in let 𝓣 = tables 𝓤 𝓛.H 𝓜 𝓡 𝓡.env in
    let goes = Goes-dropped 𝓛 1 (plain (λ _. B)) yes (λ κs x w. refl) in let counts = Goes-dropped 𝓛 1 (plain (λ _. usize)) yes (λ κs x w. refl) in let bytes = Goes-dropped 𝓛 1 (plain (λ _. u8)) yes (λ κs x w. refl) in
    proved 𝓛 f.ended stayed c 𝓜 𝓡 (Goes-ref 𝓛 1 0 tt (plain (λ _. R)), (goes, (counts, (bytes, tt))))
    f.Key.name code.function (code.unfolded 𝓤 𝓛.H 𝓜 𝓡 wired)
    (λ κs. (mut_vals, ((λ d. base.lowered d ∷ []), (uint_vals _, (uint_vals w8, tt))))) (λ κs. (mut_Tells (named 0) κs.0 R, (base.val_is, (uint_Tells _, (uint_Tells w8, tt))))) (λ κs qs bounds a _ are.
    let rb = a.0.ref_ptr.0 in let ro = a.0.ref_ptr.1 in let d = a.0.now in let p = a.1.0.at in let index = a.1.1.0 in let byte = a.1.1.1.0 in let vs = mut_vals a.0 in
    let y : W.Ghost = ((κs, qs, bounds, a, (vs, (base.lowered a.1.0 ∷ [], (uint_vals _ index, (uint_vals w8 byte, tt))))), tt) in
    let Asks = (p ≡ d.at) × (index ≡ length d.bytes) × (0 < d.room) in
    qed 𝓛 (((‵ (flft κs.0 qs.0) ⊛ ‵ ftrue) ⊛ ‵ (owns (MutRef (named 0) κs.0 R ∷ B ∷ usize ∷ u8 ∷ []) a y.0.4)) ∷ raw (fact 𝓤 Asks) ∷ []) ∵
    move ! (1 ∷ []) $ heard ! Asks (λ asked.
    split ! $ split ! $ move ! (2 ∷ []) $ fsplit ! $ keep ! (0 ∷ 2 ∷ []) $
    enter ! _ _ _ _ _ $ alloc_all ! (λ l. pass_all ! refl ((tt, tt), (word-Good [] p, ((tt, record { fits = are.1.1.0.1 }), ((tt, record { fits = are.1.1.1.0.1 }), tt)))) $
    let En = env (code.function).locals l in
    fsplit3 ! $ move ! (1 ∷ 2 ∷ 3 ∷ []) $ opens ! tt R {h = d} rb ro (λ us. move ! (1 ∷ []) $ fsplit ! $ move ! (1 ∷ []) $
    in_a_block ! d.at (λ z. memory_owned (token d.alloc) z d.bytes d.room) (id⊢ 𝓤 (never 𝓤)) (λ b o e.
    let place = length d.bytes + o in let more : d.room ≡ suc (d.room - 1) = omega (arith, asked.2) in let on : index + o ≡ place = omega (arith, asked.1) in
    take_at ! 2 $ rewrite ! 0 (λ (z : Ptr). ‵ (fat full_share (layout B) (l 2) 0 (word z))) (asked.0 ∙ e) refl $ give_at ! 2 $
    fsplit3 ! $ move ! (1 ∷ []) $ rewrite ! 0 (λ (k : ℕ). ‵ (froom (bytes_type k) b place)) more refl $
    use1 𝓛 (‵ (froom (ty_int w8) b place) ⊛ ‵ (froom (bytes_type (d.room - 1)) b (place + 1))) (𝓛.laws.room_uncons (ty_int w8) (d.room - 1) b place) $ split ! $
    rewrite ! 0 (λ (k : ℕ). ‵ (froom (ty_int w8) b k)) (sym on) refl $
    -- [the room; the rest of it; the bytes; the right to free; the fields; the owner's cell; its open borrow]
    first ! $ blocks ! $
    sets ! (bin ! (get_in ! (fld ! refl (stop !)) (sub ! 0 refl (whole !))) (get ! refl) tt) refl (tt, tt) $
    assigns_last ! (of_opd ! (get ! refl)) (through ! refl (stop !)) (init ! 0 refl (tt, record { fits = are.1.1.1.0.1 })) $
    exec ! 𝓣.C 𝓣.Λ En (after 1 (code.function).body) (at_ret _ (W.post y)) $ sets ! (of_opd ! (unit_lit !)) refl (tt, tt) $
    let bytes = d.bytes ++ byte ∷ [] in let end : place + 1 ≡ length bytes + o = omega (arith, length-append d.bytes (byte ∷ [])) in
    use1 𝓛 (‵ (part_at u8 full_share byte b (index + o))) (uint_in 𝓛 full_share w8 byte b (index + o)) $
    rewrite ! 0 (λ (k : ℕ). ‵ (part_at u8 full_share byte b k)) on refl $ nothing ! $ move ! (1 ∷ 0 ∷ []) $ fjoin ! $
    move ! (2 ∷ 0 ∷ []) $ use2 𝓛 (‵ (cells (mem u8) bytes b o)) (bytes_join 𝓛 b o d.bytes (byte ∷ [])) $
    rewrite ! 1 (λ (k : ℕ). ‵ (froom (bytes_type (d.room - 1)) b k)) end refl $ fjoin3 ! $
    rewrite ! 0 (λ (z : Ptr). ‵ (memory_owned (token d.alloc) z bytes (d.room - 1))) (sym e) refl $
    move ! (1 ∷ []) $ fjoin ! $ move ! (1 ∷ []) $ closes ! tt R (record d { bytes = bytes; room = d.room - 1 }) us rb ro $
    returns ! (look_at ! 0 refl) $ free_all ! refl $ move ! (3 ∷ []) $
    suffices ! _ (ends_at 𝓛 f.ended stayed c y vunit tt (record d { bytes = bytes; room = d.room - 1 }, (tt, (tt, (tt, tt)))) (tt, (tt, (tt, (tt, tt))))) $ says ! (refl, refl, refl) $
    group ! 3 $ nothing ! $ nothing ! $ join ! $ nothing ! $ join ! $ nothing ! $ join ! $ move ! (1 ∷ 0 ∷ []) $ join ! $ nothing ! $ move ! (2 ∷ 0 ∷ []) $ join ! $ frame ! $ frame ! $
    feq_i ! _ (vunit ∷ []) _ refl $ done !)))))
