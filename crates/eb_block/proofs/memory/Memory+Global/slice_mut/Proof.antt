-- `slice_mut` lends the bytes of a range, and the memory follows them.
use Rattle.eb_block.proofs.Steps.{◌≡◌, ℕ, ◌+◌, ◌≤◌, List, [], ◌∷◌, length, take, refl, sym, ◌∙◌, arith, Ura, GName, Fml, Logic, ent, sep, sem, SProp, proved, full_share, id⊢, never, fsep, fat, flft, ftrue, named, Val, fact, tables, ‵, raw, ◌⊛◌, some, later, await, pick, at_ret, ◌$◌, ◌∵◌, !, qed, done, move, keep, use1, use2, split, join, fsplit, fsplit3, fjoin, fpack, rewrite, suffices, frame, group, enter, of_opd, stop, fld, bin, and_then, no_more, first, blocks, exec, returns, alloc_all, pass_all, free_all, look_at, get, get_in, sets, sets_last, take_at, give_at, env, whole, sub, agg, cells, mem, cell_at, u8, usize, uint_vals, uint_Tells, Ptr, block_ptr, in_a_block, MutBor, MutRef, mut_vals, mut_Tells, owns, plain, nothing, opens, heard, yes, Stays, walk_of, says, stay_dropped, Goes-dropped, ends_at, after, memory_owned, written, rewritten, Global, ghosts, R, token}
use denote.Exit.{no}
use denote.Param.{layout}
use denote.Array.{Array}
use denote.Memory.{part_of}
use denote.Slice.{MutSlice, Room, slice_val}
use denote.Follow.{follows}
use denote.FollowSlice.{Elements, lends_Elements}
use denote.Signature.{mut_ref_to}
use denote.Triple.Walked.{Goes-spent_ref}
use lib.ListN.{drop as past, length-take, length-drop}
use lib.Seq.{take_at as take_front}
use Rattle.std.specs.List.{refill}
use Rattle.std_alloc.proofs.RcSteps.{word, word-Good}
use Rattle.eb_block.proofs.Parts.{Around, range_out, range_in}
use Rattle.eb_block.specs.Lends.{with_bytes}
use Rattle.eb_block.specs.declared.memory.Memory.{Memory}
use Rattle.eb_block.specs.contracts.memory.Memory+Global.slice_mut as f
use Rattle.eb_block.proofs.memory.Memory+Global.slice_mut.Statement.{statement}
use Rattle.eb_block.proofs.memory.Memory+Global.slice_mut.Code as code
use Rattle.eb_block.specs.contracts.memory.Memory as M-type
use Rattle.std_heap.specs.contracts.Global.{the_row as G}
use Rattle.eb_block.specs.contracts.memory.Base.{the_row as B}
use Rattle.eb_block.proofs.memory.Base.TheLaws.{lowers as base}
use denote.Struct.Owning.{to, shape}
use denote.Struct.Struct.{Struct}

abbrev stayed : Stays f.ended.signature.params f.ended.kept
stayed = (stay_dropped (mut_ref_to (0 ∷ []) tt (plain (λ _. R))) no, (stay_dropped _ yes, (stay_dropped _ yes, (stay_dropped _ yes, tt))))

-- the data fields of the owner
abbrev Fields : Memory Global → List Val → Fml
Fields d vs = (Struct (shape (M-type.the_type G ghosts))).own_val (to (M-type.the_type G ghosts) d) vs

module _ {M : Type 1} {𝓤 : Ura M} (𝓛 : Logic 𝓤) (rb ro b o off len : ℕ) (d : Memory Global) (vs : List Val) where
  abbrev pub new : List ℕ → Memory Global
  new ws = with_bytes d (rewritten d.bytes off len ws)

  -- all but the range
  abbrev pub Rest : Fml
  Rest = fsep (Around 𝓛 (token d.alloc) b o d.bytes off len d.room) (fsep (Fields d vs) (cell_at full_share R.mir vs rb ro))

  pub back : d.at ≡ block_ptr b o → off + len ≤ length d.bytes → (ws : List ℕ) → length ws ≡ len
      → ent 𝓤 (sep 𝓤 (sem 𝓛 (cells (mem u8) ws b (off + o))) (sem 𝓛 Rest)) (sem 𝓛 ((mem R).own_at (new ws) rb ro))
  unfolding part_of
  back e within ws long =
      let old = take len (past off d.bytes) in
      let all : refill len old ws ≡ ws = take_front ws (past (length ws) old) len long in
      qed 𝓛 (‵ (cells (mem u8) ws b (off + o)) ∷ ‵ Rest ∷ []) ∵ move ! (1 ∷ []) $ fsplit ! $ move ! (2 ∷ 0 ∷ []) $
      use2 𝓛 (‵ (memory_owned (token d.alloc) (block_ptr b o) (written d.bytes off ws) d.room)) (range_in 𝓛 (token d.alloc) b o d.bytes off len d.room within ws long) $
      rewrite ! 0 (λ (l : List ℕ). ‵ (memory_owned (token d.alloc) (block_ptr b o) (written d.bytes off l) d.room)) (sym all) refl $
      rewrite ! 0 (λ (z : Ptr). ‵ (memory_owned (token d.alloc) z (new ws).bytes d.room)) (sym e) refl $
      move ! (1 ∷ []) $ fsplit ! $ move ! (0 ∷ 2 ∷ []) $ fjoin ! $ move ! (1 ∷ 0 ∷ []) $ fjoin ! $
      fpack ! (List Val) (λ us. fsep (cell_at full_share R.mir us rb ro) (R.own_val (new ws) us)) vs $ done !

pub slice_mut_spec : {M : Type 1} → statement M
slice_mut_spec 𝓤 𝓛 𝓜 𝓡 wired =
    let c = f.clauses 𝓛 𝓜.mem 𝓡.returns in let W = walk_of 𝓛 f.ended stayed c in let 𝓣 = tables 𝓤 𝓛.H 𝓜 𝓡 𝓡.env in
    let goes = Goes-dropped 𝓛 1 (plain (λ _. B)) yes (λ κs x w. refl) in let counts = Goes-dropped 𝓛 1 (plain (λ _. usize)) yes (λ κs x w. refl) in
    proved 𝓛 f.ended stayed c 𝓜 𝓡 (Goes-spent_ref 𝓛 1 (0 ∷ []) tt (plain (λ _. R)), (goes, (counts, (counts, tt))))
    f.Key.name code.function (code.unfolded 𝓤 𝓛.H 𝓜 𝓡 wired)
    (λ κs. (mut_vals, ((λ d. base.lowered d ∷ []), (uint_vals _, (uint_vals _, tt))))) (λ κs. (mut_Tells (named 0) κs.0 R, (base.val_is, (uint_Tells _, (uint_Tells _, tt))))) (λ κs qs bounds a _ are.
    let κ = κs.0 in let q = qs.0 in let rb = a.0.ref_ptr.0 in let ro = a.0.ref_ptr.1 in let γ = a.0.ghost_name in let d = a.0.now in let p = a.1.0.at in let off = a.1.1.0 in let len = a.1.1.1.0 in
    let y : W.Ghost = ((κs, qs, bounds, a, (mut_vals a.0, (base.lowered a.1.0 ∷ [], (uint_vals _ off, (uint_vals _ len, tt))))), tt) in
    let Asks = (p ≡ d.at) × (off + len ≤ length d.bytes) × (length d.bytes ≤ 16384) in
    qed 𝓛 (((‵ (flft κ q) ⊛ ‵ ftrue) ⊛ ‵ (owns (MutRef (named 0) κ R ∷ B ∷ usize ∷ usize ∷ []) a y.0.4)) ∷ raw (fact 𝓤 Asks) ∷ []) ∵
    move ! (1 ∷ []) $ heard ! Asks (λ asked.
    split ! $ split ! $ move ! (2 ∷ []) $ fsplit ! $ keep ! (0 ∷ 2 ∷ []) $
    enter ! _ _ _ _ _ $ alloc_all ! (λ l. pass_all ! refl ((tt, tt), (word-Good [] p, ((tt, record { fits = are.1.1.0.1 }), ((tt, record { fits = are.1.1.1.0.1 }), tt)))) $
    let En = env (code.function).locals l in
    fsplit3 ! $ move ! (1 ∷ 2 ∷ 3 ∷ []) $ opens ! tt R {h = d} rb ro (λ us. move ! (1 ∷ []) $ fsplit ! $ move ! (1 ∷ []) $
    in_a_block ! d.at (λ z. memory_owned (token d.alloc) z d.bytes d.room) (id⊢ 𝓤 (never 𝓤)) (λ b o e.
    take_at ! 2 $ rewrite ! 0 (λ (z : Ptr). ‵ (fat full_share (layout B) (l 2) 0 (word z))) (asked.0 ∙ e) refl $ give_at ! 2 $
    first ! $ blocks ! $
    sets ! (bin ! (get_in ! (fld ! refl (stop !)) (sub ! 0 refl (whole !))) (get ! refl) tt) refl (tt, tt) $
    let xs = take len (past off d.bytes) in let code' = R.coded.code d in
    let long : length xs ≡ len = omega (arith, length-take len (past off d.bytes), length-drop off d.bytes, asked.1) in
    let room : Room u8 (length xs) = (omega (arith, long, asked.1, asked.2), omega (arith, long, asked.1, asked.2)) in
    let F : List ℕ → Memory Global = new 𝓛 rb ro b o off len d us in
    let way : (ws : List ℕ) → length ws ≡ length xs → ent 𝓤 (sep 𝓤 (sem 𝓛 (cells (mem u8) ws b (off + o))) (sem 𝓛 (Rest 𝓛 rb ro b o off len d us))) (sem 𝓛 ((mem R).own_at (F ws) rb ro)) = λ ws same. back 𝓛 rb ro b o off len d us e asked.1 ws (same ∙ long) in
    let Left : SProp 𝓤 = sem 𝓛 (Rest 𝓛 rb ro b o off len d us) in
    use1 𝓛 (‵ (cells (mem u8) xs b (off + o)) ⊛ ‵ (Around 𝓛 (token d.alloc) b o d.bytes off len d.room)) (range_out 𝓛 (token d.alloc) b o d.bytes off len d.room asked.1) $ split ! $
    sets_last ! (agg ! (and_then ! (get ! refl) (and_then ! (get ! refl) (no_more !)))) refl (tt, (tt, (record { fits = are.1.1.1.0.1 }, tt))) $
    exec ! 𝓣.C 𝓣.Λ En (after 1 (code.function).body) (at_ret _ (W.post y)) $ sets ! (of_opd ! (get ! refl)) refl (tt, (tt, (record { fits = are.1.1.1.0.1 }, tt))) $
    -- [the range; what is around it; the fields; the owner's cell; its open borrow]
    move ! (2 ∷ 3 ∷ []) $ fjoin ! $ move ! (2 ∷ 0 ∷ []) $ fjoin ! $ move ! (2 ∷ 3 ∷ 4 ∷ 1 ∷ 0 ∷ []) $ group ! 5 $
    use1 𝓛 (later (some (λ (δ : GName). raw (Elements 𝓛 R u8 F (named 0) κ q rb ro b (off + o) γ xs room Left way δ))))
    (lends_Elements 𝓛 R u8 F (named 0) κ q rb ro b (off + o) γ xs room Left way code' code') $ await ! tt $ pick ! (λ δ.
    let r : MutBor (List ℕ) = record { ref_ptr = (b, off + o); ghost_name = δ; now = xs } in
    returns ! (look_at ! 0 refl) $ free_all ! refl $ keep ! (0 ∷ []) $
    use1 𝓛 (‵ ((MutSlice (named 0) κ u8).own_val r (slice_val (b, off + o) (length xs) ∷ [])) ⊛ ‵ (flft κ q) ⊛ ‵ (follows R (Array u8 0) γ δ F)) (id⊢ 𝓤 _) $ split ! $ move ! (1 ∷ []) $ split ! $ move ! (2 ∷ []) $
    rewrite ! 0 (λ (k : ℕ). ‵ ((MutSlice (named 0) κ u8).own_val r (slice_val (b, off + o) k ∷ []))) long refl $
    suffices ! _ (ends_at 𝓛 f.ended stayed c y (slice_val (b, off + o) len) r (tt, (tt, (tt, (tt, tt)))) (tt, (tt, (tt, (tt, tt))))) $
    nothing ! $ nothing ! $ fjoin ! $ nothing ! $ fjoin ! $ nothing ! $ fjoin ! $ nothing ! $ fjoin ! $ join ! $ nothing ! $ move ! (2 ∷ 0 ∷ []) $ join ! $ join ! $ frame ! $ says ! refl $ done !))))))
