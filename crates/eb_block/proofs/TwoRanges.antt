-- A borrow of bytes is cut into two borrows of ranges of them, and the whole follows both.
use Rattle.eb_block.proofs.Steps.{◌≡◌, ℕ, ◌+◌, ◌-◌, ◌≤◌, List, [], ◌∷◌, ◌++◌, length, take, refl, sym, ap, ◌∙◌, arith, Ura, Logic, ent, sep, sem, SProp, Fml, Lft, GName, Share, fsep, flft, fobs, fbor, ‵, raw, ◌⊛◌, some, later, await, pick, ◌$◌, ◌∵◌, !, qed, by, done, move, drop, use1, use2, split, split3, fsplit, fsplit3, fjoin, feq_i, feq_l, rewrite, group, cells, mem, u8, MutBor, written, rewritten}
use lib.ListN.{drop as past, length-take, length-drop}
use mathlib.Core.Logic.{inl, inr}
use base.Logic.{ex}
use base.Stored.{coded_list}
use mir.Syntax.{Lifetime}
use mir.Val.{Val}
use types.Kit.{updating, now as at_once, show}
use types.SemTy.{SemTy, Arr, Body}
use types.Mut.{open_ref}
use types.Follow.{after₂, takes_two}
use denote.Slice.{MutSlice, Room, slice_val}
use denote.FollowSlice.{heres_id, slice_of}
use Rattle.eb_block.specs.Bytes.{Apart}
use Rattle.eb_block.proofs.Parts.{bytes_cut, bytes_join}
use Rattle.eb_block.proofs.Written.{written_behind, written_far, refilled, cut_in_five, length-written}

module _ {M : Type 1} {𝓤 : Ura M} (𝓛 : Logic 𝓤) (b o : ℕ) (p x m y e : List ℕ) where
  abbrev Cs : List ℕ → ℕ → Fml
  Cs xs k = cells (mem u8) xs b k

  -- where the two parts lie, and all but them
  abbrev at_x : ℕ
  at_x = length p + o

  abbrev at_m : ℕ
  at_m = length x + at_x

  abbrev at_y : ℕ
  at_y = length m + at_m

  abbrev pub Rest₃ : Fml
  Rest₃ = fsep (Cs p o) (fsep (Cs m at_m) (Cs e (length y + at_y)))

  pub cut₂ : ent 𝓤 (sem 𝓛 (Cs (p ++ (x ++ (m ++ (y ++ e)))) o)) (sep 𝓤 (sem 𝓛 (Cs x at_x)) (sep 𝓤 (sem 𝓛 (Cs y at_y)) (sem 𝓛 Rest₃)))
  cut₂ = qed 𝓛 (‵ (Cs (p ++ (x ++ (m ++ (y ++ e)))) o) ∷ []) ∵
      use1 𝓛 (‵ (Cs p o) ⊛ ‵ (Cs (x ++ (m ++ (y ++ e))) at_x)) (bytes_cut 𝓛 b o p (x ++ (m ++ (y ++ e)))) $ split ! $ move ! (1 ∷ []) $
      use1 𝓛 (‵ (Cs x at_x) ⊛ ‵ (Cs (m ++ (y ++ e)) at_m)) (bytes_cut 𝓛 b at_x x (m ++ (y ++ e))) $ split ! $ move ! (1 ∷ []) $
      use1 𝓛 (‵ (Cs m at_m) ⊛ ‵ (Cs (y ++ e) at_y)) (bytes_cut 𝓛 b at_m m (y ++ e)) $ split ! $ move ! (1 ∷ []) $
      use1 𝓛 (‵ (Cs y at_y) ⊛ ‵ (Cs e (length y + at_y))) (bytes_cut 𝓛 b at_y y e) $ split ! $
      -- [y; e; m; x; p]
      move ! (2 ∷ 1 ∷ []) $ fjoin ! $ move ! (3 ∷ 0 ∷ []) $ fjoin ! $ move ! (2 ∷ 1 ∷ 0 ∷ []) $ done !

  pub join₂ : (ws zs : List ℕ) → length ws ≡ length x → length zs ≡ length y
      → ent 𝓤 (sep 𝓤 (sem 𝓛 (Cs ws at_x)) (sep 𝓤 (sem 𝓛 (Cs zs at_y)) (sem 𝓛 Rest₃))) (sem 𝓛 (Cs (p ++ (ws ++ (m ++ (zs ++ e)))) o))
  join₂ ws zs lw lz = qed 𝓛 (‵ (Cs ws at_x) ∷ ‵ (Cs zs at_y) ∷ ‵ Rest₃ ∷ []) ∵ move ! (2 ∷ []) $ fsplit3 ! $
      -- [p; m; e; ws; zs]
      move ! (4 ∷ 2 ∷ []) $ rewrite ! 1 (λ (k : ℕ). ‵ (Cs e (k + at_y))) (sym lz) refl $ use2 𝓛 (‵ (Cs (zs ++ e) at_y)) (bytes_join 𝓛 b at_y zs e) $
      move ! (2 ∷ 0 ∷ []) $ use2 𝓛 (‵ (Cs (m ++ (zs ++ e)) at_m)) (bytes_join 𝓛 b at_m m (zs ++ e)) $
      rewrite ! 0 (λ (k : ℕ). ‵ (Cs (m ++ (zs ++ e)) (k + at_x))) (sym lw) refl $
      move ! (2 ∷ 0 ∷ []) $ use2 𝓛 (‵ (Cs (ws ++ (m ++ (zs ++ e))) at_x)) (bytes_join 𝓛 b at_x ws (m ++ (zs ++ e))) $
      move ! (1 ∷ 0 ∷ []) $ by ! (bytes_join 𝓛 b o p (ws ++ (m ++ (zs ++ e))))

module _ {M : Type 1} {𝓤 : Ura M} (𝓛 : Logic 𝓤) (b o : ℕ) (bs : List ℕ) (c lc d ld : ℕ) where
  abbrev F : List ℕ → List ℕ → List ℕ
  F ws zs = rewritten (rewritten bs c lc ws) d ld zs

  -- the two ranges come out, and go back with other bytes
  pub record Cuts : Type 1 where
    pub rest : Fml
    pub out : ent 𝓤 (sem 𝓛 (cells (mem u8) bs b o)) (sep 𝓤 (sem 𝓛 (cells (mem u8) (take lc (past c bs)) b (c + o))) (sep 𝓤 (sem 𝓛 (cells (mem u8) (take ld (past d bs)) b (d + o))) (sem 𝓛 rest)))
    pub back : (ws zs : List ℕ) → length ws ≡ lc → length zs ≡ ld → ent 𝓤 (sep 𝓤 (sem 𝓛 (cells (mem u8) ws b (c + o))) (sep 𝓤 (sem 𝓛 (cells (mem u8) zs b (d + o))) (sem 𝓛 rest))) (sem 𝓛 (cells (mem u8) (F ws zs) b o))

  abbrev X : List ℕ
  X = take lc (past c bs)

  abbrev Y : List ℕ
  Y = take ld (past d bs)

  plain : (ws zs : List ℕ) → length ws ≡ lc → length zs ≡ ld → F ws zs ≡ written (written bs c ws) d zs
  plain ws zs lw lz = (λ i. written (written bs c (refilled X ws lc lw i)) d (refilled (take ld (past d (rewritten bs c lc ws))) zs ld lz i))

  module _ (first : c + lc ≤ length bs) (second : d + ld ≤ length bs) where
    lx : length X ≡ lc
    lx = omega (arith, length-take lc (past c bs), length-drop c bs)

    ly : length Y ≡ ld
    ly = omega (arith, length-take ld (past d bs), length-drop d bs)

    forward : c + lc ≤ d → Cuts
    forward le =
        let p = take c bs in let m = take (d - (c + lc)) (past (c + lc) bs) in let e = past (d + ld) bs in
        let lp : length p ≡ c = omega (arith, length-take c bs) in
        let lm : length m ≡ d - (c + lc) = omega (arith, length-take (d - (c + lc)) (past (c + lc) bs), length-drop (c + lc) bs) in
        let five = cut_in_five bs c lc d ld le in
        let here : length p + o ≡ c + o = omega (arith, lp) in
        let there : length m + (length X + (length p + o)) ≡ d + o = omega (arith, lp, lm, lx) in
        record {
          rest = Rest₃ 𝓛 b o p X m Y e;
          out = qed 𝓛 (‵ (cells (mem u8) bs b o) ∷ []) ∵ rewrite ! 0 (λ (l : List ℕ). ‵ (cells (mem u8) l b o)) five refl $
              use1 𝓛 (‵ (cells (mem u8) X b (length p + o)) ⊛ ‵ (cells (mem u8) Y b (length m + (length X + (length p + o)))) ⊛ ‵ (Rest₃ 𝓛 b o p X m Y e)) (cut₂ 𝓛 b o p X m Y e) $ split3 ! $
              rewrite ! 0 (λ (k : ℕ). ‵ (cells (mem u8) X b k)) here refl $ rewrite ! 1 (λ (k : ℕ). ‵ (cells (mem u8) Y b k)) there refl $ done !;
          back = λ ws zs lw lz.
              let made : F ws zs ≡ p ++ (ws ++ (m ++ (zs ++ e))) = plain ws zs lw lz ∙ ap (λ l. written (written l c ws) d zs) five
              ∙ ap (λ l. written l d zs) (written_behind p X (m ++ (Y ++ e)) ws c lp (lw ∙ sym lx)) ∙ written_far p ws m Y e zs d (omega (arith, lp, lm, lw)) (lz ∙ sym ly) in
              qed 𝓛 (‵ (cells (mem u8) ws b (c + o)) ∷ ‵ (cells (mem u8) zs b (d + o)) ∷ ‵ (Rest₃ 𝓛 b o p X m Y e) ∷ []) ∵
              rewrite ! 0 (λ (k : ℕ). ‵ (cells (mem u8) ws b k)) (sym here) refl $ rewrite ! 1 (λ (k : ℕ). ‵ (cells (mem u8) zs b k)) (sym there) refl $ group ! 3 $
              use1 𝓛 (‵ (cells (mem u8) (p ++ (ws ++ (m ++ (zs ++ e)))) b o)) (join₂ 𝓛 b o p X m Y e ws zs (lw ∙ sym lx) (lz ∙ sym ly)) $
              rewrite ! 0 (λ (l : List ℕ). ‵ (cells (mem u8) l b o)) (sym made) refl $ done !;
        }

    backward : d + ld ≤ c → Cuts
    backward le =
        let p = take d bs in let m = take (c - (d + ld)) (past (d + ld) bs) in let e = past (c + lc) bs in
        let lp : length p ≡ d = omega (arith, length-take d bs) in
        let lm : length m ≡ c - (d + ld) = omega (arith, length-take (c - (d + ld)) (past (d + ld) bs), length-drop (d + ld) bs) in
        let five = cut_in_five bs d ld c lc le in
        let here : length p + o ≡ d + o = omega (arith, lp) in
        let there : length m + (length Y + (length p + o)) ≡ c + o = omega (arith, lp, lm, ly) in
        record {
          rest = Rest₃ 𝓛 b o p Y m X e;
          out = qed 𝓛 (‵ (cells (mem u8) bs b o) ∷ []) ∵ rewrite ! 0 (λ (l : List ℕ). ‵ (cells (mem u8) l b o)) five refl $
              use1 𝓛 (‵ (cells (mem u8) Y b (length p + o)) ⊛ ‵ (cells (mem u8) X b (length m + (length Y + (length p + o)))) ⊛ ‵ (Rest₃ 𝓛 b o p Y m X e)) (cut₂ 𝓛 b o p Y m X e) $ split3 ! $
              rewrite ! 0 (λ (k : ℕ). ‵ (cells (mem u8) Y b k)) here refl $ rewrite ! 1 (λ (k : ℕ). ‵ (cells (mem u8) X b k)) there refl $ move ! (1 ∷ 0 ∷ []) $ done !;
          back = λ ws zs lw lz.
              let made : F ws zs ≡ p ++ (zs ++ (m ++ (ws ++ e))) = plain ws zs lw lz ∙ ap (λ l. written (written l c ws) d zs) five
              ∙ ap (λ l. written l d zs) (written_far p Y m X e ws c (omega (arith, lp, lm, ly)) (lw ∙ sym lx)) ∙ written_behind p Y (m ++ (ws ++ e)) zs d lp (lz ∙ sym ly) in
              qed 𝓛 (‵ (cells (mem u8) ws b (c + o)) ∷ ‵ (cells (mem u8) zs b (d + o)) ∷ ‵ (Rest₃ 𝓛 b o p Y m X e) ∷ []) ∵ move ! (1 ∷ 0 ∷ []) $
              rewrite ! 0 (λ (k : ℕ). ‵ (cells (mem u8) zs b k)) (sym here) refl $ rewrite ! 1 (λ (k : ℕ). ‵ (cells (mem u8) ws b k)) (sym there) refl $ group ! 3 $
              use1 𝓛 (‵ (cells (mem u8) (p ++ (zs ++ (m ++ (ws ++ e)))) b o)) (join₂ 𝓛 b o p Y m X e zs ws (lz ∙ sym ly) (lw ∙ sym lx)) $
              rewrite ! 0 (λ (l : List ℕ). ‵ (cells (mem u8) l b o)) (sym made) refl $ done !;
        }

  pub cuts : Apart (length bs) c lc d ld → Cuts
  cuts h = elim h.apart [ inl le ↦ forward h.first h.second le | inr le ↦ backward h.first h.second le ]

module _ {M : Type 1} {𝓤 : Ura M} (𝓛 : Logic 𝓤) (ℓ : Lifetime) (κ : Lft) (q : Share) (b o : ℕ) (γ : GName) (bs : List ℕ) (c lc d ld : ℕ) (h : Apart (length bs) c lc d ld) where
  open 𝓛 use {H, A}

  abbrev L : ℕ → SemTy
  L n = Arr (mem u8) n

  abbrev pub xs : List ℕ
  xs = take lc (past c bs)

  abbrev pub ys : List ℕ
  ys = take ld (past d bs)

  abbrev pub G : List ℕ → List ℕ → List ℕ
  G ws zs = rewritten (rewritten bs c lc ws) d ld zs

  pub long_x : length xs ≡ lc
  long_x = omega (arith, length-take lc (past c bs), length-drop c bs, h.first)

  pub long_y : length ys ≡ ld
  long_y = omega (arith, length-take ld (past d bs), length-drop d bs, h.second)

  abbrev Left : SProp 𝓤
  Left = sem 𝓛 (cuts 𝓛 b o bs c lc d ld h).rest

  long_G : (ws zs : List ℕ) → length ws ≡ lc → length zs ≡ ld → length (G ws zs) ≡ length bs
  long_G ws zs lw lz =
      let first : length (written bs c ws) ≡ length bs = length-written bs ws c (omega (arith, h.first)) in
      ap length (plain 𝓛 b o bs c lc d ld ws zs lw lz) ∙ length-written (written bs c ws) zs d (omega (arith, h.second, first)) ∙ first

  mend : (ws zs : List ℕ) → ent 𝓤 (sep 𝓤 (sem 𝓛 ((L (length xs)).own_at ws b (c + o))) (sep 𝓤 (sem 𝓛 ((L (length ys)).own_at zs b (d + o))) Left)) (sem 𝓛 ((L (length bs)).own_at (G ws zs) b o))
  mend ws zs = qed 𝓛 (‵ ((L (length xs)).own_at ws b (c + o)) ∷ ‵ ((L (length ys)).own_at zs b (d + o)) ∷ raw Left ∷ []) ∵ fsplit ! $ feq_l ! (λ e. move ! (1 ∷ []) $ fsplit ! $ feq_l ! (λ e'.
      move ! (1 ∷ 0 ∷ []) $ group ! 3 $ use1 𝓛 (‵ (cells (mem u8) (G ws zs) b o)) ((cuts 𝓛 b o bs c lc d ld h).back ws zs (e ∙ long_x) (e' ∙ long_y)) $
      feq_i ! ℕ (length (G ws zs)) (length bs) (long_G ws zs (e ∙ long_x) (e' ∙ long_y)) $ fjoin ! $ done !))

  abbrev pub one : GName × GName → MutBor (List ℕ)
  one γs = record { ref_ptr = (b, c + o); ghost_name = γs.0; now = xs }

  abbrev pub other : GName × GName → MutBor (List ℕ)
  other γs = record { ref_ptr = (b, d + o); ghost_name = γs.1; now = ys }

  abbrev pub Both : GName × GName → SProp 𝓤
  Both γs = sep 𝓤 (sem 𝓛 ((MutSlice ℓ κ u8).own_val (one γs) (slice_val (b, c + o) (length xs) ∷ [])))
      (sep 𝓤 (sem 𝓛 ((MutSlice ℓ κ u8).own_val (other γs) (slice_val (b, d + o) (length ys) ∷ []))) (sep 𝓤 (A.lft κ q) (sem 𝓛 (after₂ (L 0) (L 0) (L 0) γ γs.0 γs.1 G))))

  pub lends_both : Room u8 (length xs) → Room u8 (length ys) → (vs : List Val)
      → ent 𝓤 (sep 𝓤 (sem 𝓛 ((MutSlice ℓ κ u8).own_val (record { ref_ptr = (b, o); ghost_name = γ; now = bs }) vs)) (A.lft κ q)) (H.⇛ (ex 𝓤 Both))
  lends_both r₁ r₂ vs =
      let code = (coded_list u8.coded).code in
      qed 𝓛 (‵ ((MutSlice ℓ κ u8).own_val (record { ref_ptr = (b, o); ghost_name = γ; now = bs }) vs) ∷ ‵ (flft κ q) ∷ []) ∵ updating ! $ fsplit3 ! $ drop ! $
      rewrite ! 0 (λ (l : List ℕ). ‵ (fobs γ (code l))) (heres_id u8 bs) refl $ open_ref ! tt (L (length bs)) {b = b} {o = o} $ fsplit ! $ drop ! $
      use1 𝓛 (‵ (cells (mem u8) xs b (c + o)) ⊛ ‵ (cells (mem u8) ys b (d + o)) ⊛ raw Left) ((cuts 𝓛 b o bs c lc d ld h).out) $ split3 ! $
      feq_i ! ℕ (length xs) (length xs) refl $ fjoin ! $ move ! (1 ∷ []) $ feq_i ! ℕ (length ys) (length ys) refl $ fjoin ! $ move ! (3 ∷ 4 ∷ 5 ∷ 1 ∷ 0 ∷ 2 ∷ []) $ group ! 6 $
      use1 𝓛 (later (some (λ (γs : GName × GName). (‵ (fobs γs.0 (code xs)) ⊛ ‵ (fbor κ (Body (L (length xs)) b (c + o) γs.0))) ⊛ (‵ (fobs γs.1 (code ys)) ⊛ ‵ (fbor κ (Body (L (length ys)) b (d + o) γs.1)))
      ⊛ ‵ (flft κ q) ⊛ ‵ (after₂ (L 0) (L 0) (L 0) γ γs.0 γs.1 G))))
      (takes_two 𝓛 (L (length bs)) (L (length xs)) (L (length ys)) G κ q b o b (c + o) b (d + o) γ Left mend (code bs) (code bs) xs ys) $ await ! tt $ pick ! (λ γs. split3 ! $
      use1 𝓛 (‵ ((MutSlice ℓ κ u8).own_val (one γs) (slice_val (b, c + o) (length xs) ∷ []))) (slice_of 𝓛 u8 ℓ κ b (c + o) γs.0 xs r₁) $ move ! (1 ∷ []) $
      use1 𝓛 (‵ ((MutSlice ℓ κ u8).own_val (other γs) (slice_val (b, d + o) (length ys) ∷ []))) (slice_of 𝓛 u8 ℓ κ b (d + o) γs.1 ys r₂) $ move ! (1 ∷ 0 ∷ []) $ at_once ! $ show ! Both γs $ done !)
