-- Bytes side by side are cut and joined, and room becomes a byte and a byte room.
use Rattle.eb_block.proofs.Steps.{◌≡◌, ℕ, zero, suc, ◌+◌, List, [], ◌∷◌, ◌++◌, length, refl, sym, ap, ◌∙◌, arith, Ura, full_share, ent, sep, froom, ty_int, w8, vint, Logic, sem, ‵, ◌⊛◌, ◌$◌, ◌∵◌, !, qed, by, move, use1, use2, split, fsplit, fjoin, rewrite, drop, done, cells, mem, u8, uint_out, fat, Item, length-append}
use Rattle.eb_block.proofs.Steps.{◌≤◌, lit<, Fml, Lft, fsep, take, w64, Env, memory_owned, Ptr, block_ptr, written, fjoin3, fsplit3}
use base.Logic.{via, mono_r, guard_i}
use lib.ListN.{drop as past, length-take, length-drop, take-append-drop}
use Rattle.std.proofs.Common.{drop-drop}
use mir.Syntax.{Ty, int_big}
use mir.Val.{Fits}
use types.Kit.{keep}
use types.Run.{Opd}
use denote.Memory.{shared_of}
use denote.Slice.{elements_shared}
use borrow.Table.Elements.{at, at_byte, cut_app, join_app}
use Rattle.eb_block.specs.Memory.{bytes_type}

module _ {M : Type 1} {𝓤 : Ura M} (𝓛 : Logic 𝓤) (b o : ℕ) where
  open 𝓛 use {H}

  -- the bytes xs, and ys behind them
  pub bytes_cut : (xs ys : List ℕ) → ent 𝓤 (sem 𝓛 (cells (mem u8) (xs ++ ys) b o)) (sep 𝓤 (sem 𝓛 (cells (mem u8) xs b o)) (sem 𝓛 (cells (mem u8) ys b (length xs + o))))
  bytes_cut xs ys = qed 𝓛 (‵ (cells (mem u8) (xs ++ ys) b o) ∷ []) ∵
      use1 𝓛 (‵ (cells (mem u8) xs b o) ⊛ ‵ (cells (mem u8) ys b (at o (mem u8).size (length xs)))) (cut_app 𝓛 (mem u8) xs ys b o) $ split ! $
      rewrite ! 1 (λ (k : ℕ). ‵ (cells (mem u8) ys b k)) (at_byte o (length xs)) refl $ done !

  pub bytes_join : (xs ys : List ℕ) → ent 𝓤 (sep 𝓤 (sem 𝓛 (cells (mem u8) xs b o)) (sem 𝓛 (cells (mem u8) ys b (length xs + o)))) (sem 𝓛 (cells (mem u8) (xs ++ ys) b o))
  bytes_join xs ys = qed 𝓛 (‵ (cells (mem u8) xs b o) ∷ ‵ (cells (mem u8) ys b (length xs + o)) ∷ []) ∵
      rewrite ! 1 (λ (k : ℕ). ‵ (cells (mem u8) ys b k)) (sym (at_byte o (length xs))) refl $ by ! (join_app 𝓛 (mem u8) xs ys b o)

module _ {M : Type 1} {𝓤 : Ura M} (𝓛 : Logic 𝓤) (b : ℕ) where
  open 𝓛 use {H}

  -- what held bytes, with the room behind them, is room again
  pub bytes_room : (xs : List ℕ) (room all o : ℕ) → length xs + room ≡ all → ent 𝓤 (sep 𝓤 (sem 𝓛 (cells (mem u8) xs b o)) (H.room (bytes_type room) b (length xs + o))) (H.room (bytes_type all) b o)
  bytes_room [] room all o e = let same : room ≡ all = omega (arith, e) in let here : zero + o ≡ o = omega arith in
      qed 𝓛 (‵ (cells (mem u8) [] b o) ∷ ‵ (froom (bytes_type room) b (zero + o)) ∷ []) ∵ drop ! $
      rewrite ! 0 (λ (k : ℕ). ‵ (froom (bytes_type k) b (zero + o))) same refl $ rewrite ! 0 (λ (k : ℕ). ‵ (froom (bytes_type all) b k)) here refl $ done !
  bytes_room (x ∷ xs) room zero o e = absurd (omega (arith, e))
  bytes_room (x ∷ xs) room (suc all) o e = let next : suc (length xs) + o ≡ length xs + (o + 1) = omega arith in
      qed 𝓛 (‵ (cells (mem u8) (x ∷ xs) b o) ∷ ‵ (froom (bytes_type room) b (suc (length xs) + o)) ∷ []) ∵ fsplit ! $
      use1 𝓛 (‵ (fat full_share (ty_int w8) b o (vint w8 x))) (uint_out 𝓛 full_share w8 x b o) $ use1 𝓛 (‵ (froom (ty_int w8) b o)) (𝓛.laws.at_room (ty_int w8) b o (vint w8 x)) $
      move ! (1 ∷ 2 ∷ []) $ rewrite ! 1 (λ (k : ℕ). ‵ (froom (bytes_type room) b k)) next refl $
      use2 𝓛 (‵ (froom (bytes_type all) b (o + 1))) (bytes_room xs room all (o + 1) (omega (arith, e))) $ move ! (1 ∷ 0 ∷ []) $
      by ! (𝓛.laws.room_cons (ty_int w8) all b o)

module _ {M : Type 1} {𝓤 : Ura M} (𝓛 : Logic 𝓤) (token : Ty → Ptr → Fml) (b o : ℕ) (bs : List ℕ) (off len room : ℕ) where
  -- all of a block's memory but the len bytes from off on
  abbrev pub Around : Fml
  Around = fsep (fsep (cells (mem u8) (take off bs) b o) (cells (mem u8) (past (off + len) bs) b (len + (off + o)))) (fsep (froom (bytes_type room) b (length bs + o)) (token (bytes_type 16384) (block_ptr b o)))

  pub range_out : off + len ≤ length bs → ent 𝓤 (sem 𝓛 (memory_owned token (block_ptr b o) bs room)) (sep 𝓤 (sem 𝓛 (cells (mem u8) (take len (past off bs)) b (off + o))) (sem 𝓛 Around))
  range_out within =
      let run = take len (past off bs) in let back = past (off + len) bs in
      let first : length (take off bs) ≡ off = omega (arith, length-take off bs) in
      let second : length run ≡ len = omega (arith, length-take len (past off bs), length-drop off bs) in
      let rest : past off bs ≡ run ++ back = sym (take-append-drop len (past off bs)) ∙ ap (λ l. run ++ l) (drop-drop len off bs) in
      let all : bs ≡ take off bs ++ (run ++ back) = sym (take-append-drop off bs) ∙ ap (λ l. take off bs ++ l) rest in
      qed 𝓛 (‵ (memory_owned token (block_ptr b o) bs room) ∷ []) ∵ fsplit ! $ rewrite ! 0 (λ (l : List ℕ). ‵ (cells (mem u8) l b o)) all refl $
      use1 𝓛 (‵ (cells (mem u8) (take off bs) b o) ⊛ ‵ (cells (mem u8) (run ++ back) b (length (take off bs) + o))) (bytes_cut 𝓛 b o (take off bs) (run ++ back)) $ split ! $
      rewrite ! 1 (λ (k : ℕ). ‵ (cells (mem u8) (run ++ back) b (k + o))) first refl $ move ! (1 ∷ []) $
      use1 𝓛 (‵ (cells (mem u8) run b (off + o)) ⊛ ‵ (cells (mem u8) back b (length run + (off + o)))) (bytes_cut 𝓛 b (off + o) run back) $ split ! $
      rewrite ! 1 (λ (k : ℕ). ‵ (cells (mem u8) back b (k + (off + o)))) second refl $
      move ! (2 ∷ 1 ∷ []) $ fjoin ! $ move ! (0 ∷ 2 ∷ []) $ fjoin ! $ move ! (1 ∷ []) $ done !

  pub range_in : off + len ≤ length bs → (ws : List ℕ) → length ws ≡ len → ent 𝓤 (sep 𝓤 (sem 𝓛 (cells (mem u8) ws b (off + o))) (sem 𝓛 Around)) (sem 𝓛 (memory_owned token (block_ptr b o) (written bs off ws) room))
  range_in within ws long =
      let back = past (off + len) bs in
      let first : length (take off bs) ≡ off = omega (arith, length-take off bs) in
      let same : written bs off ws ≡ take off bs ++ (ws ++ back) = ap (λ k. take off bs ++ (ws ++ past (off + k) bs)) long in
      let count : length bs ≡ length (written bs off ws) = omega (arith, ap length same, length-append (take off bs) (ws ++ back), length-append ws back, first, long, length-drop (off + len) bs) in
      qed 𝓛 (‵ (cells (mem u8) ws b (off + o)) ∷ ‵ Around ∷ []) ∵ move ! (1 ∷ []) $ fsplit3 ! $ fsplit ! $
      -- [the front; the back; the room; the right to free; the bytes]
      move ! (4 ∷ 1 ∷ []) $ rewrite ! 1 (λ (k : ℕ). ‵ (cells (mem u8) back b (k + (off + o)))) (sym long) refl $
      use2 𝓛 (‵ (cells (mem u8) (ws ++ back) b (off + o))) (bytes_join 𝓛 b (off + o) ws back) $
      rewrite ! 0 (λ (k : ℕ). ‵ (cells (mem u8) (ws ++ back) b (k + o))) (sym first) refl $ move ! (1 ∷ 0 ∷ []) $
      use2 𝓛 (‵ (cells (mem u8) (take off bs ++ (ws ++ back)) b o)) (bytes_join 𝓛 b o (take off bs) (ws ++ back)) $
      rewrite ! 0 (λ (l : List ℕ). ‵ (cells (mem u8) l b o)) (sym same) refl $
      rewrite ! 1 (λ (k : ℕ). ‵ (froom (bytes_type room) b (k + o))) count refl $ fjoin3 ! $ done !

module _ {M : Type 1} {𝓤 : Ura M} (𝓛 : Logic 𝓤) (b : ℕ) (κ : Lft) where
  abbrev Seen : List ℕ → ℕ → Fml
  Seen xs o = elements_shared u8 xs b o κ

  seen_past : (off o : ℕ) (xs : List ℕ) → ent 𝓤 (sem 𝓛 (Seen xs o)) (sem 𝓛 (Seen (past off xs) (off + o)))
  seen_past zero o xs = let here : o ≡ zero + o = omega arith in qed 𝓛 (‵ (Seen xs o) ∷ []) ∵ rewrite ! 0 (λ (k : ℕ). ‵ (Seen xs k)) here refl $ done !
  seen_past (suc off) o [] = qed 𝓛 (‵ (Seen [] o) ∷ []) ∵ done !
  seen_past (suc off) o (x ∷ xs) = let here : off + (o + 1) ≡ suc off + o = omega arith in
      qed 𝓛 (‵ (Seen (x ∷ xs) o) ∷ []) ∵ fsplit ! $ drop ! $ use1 𝓛 (‵ (Seen (past off xs) (off + (o + 1)))) (seen_past off (o + 1) xs) $
      rewrite ! 0 (λ (k : ℕ). ‵ (Seen (past off xs) k)) here refl $ done !

  seen_front : (len o : ℕ) (xs : List ℕ) → ent 𝓤 (sem 𝓛 (Seen xs o)) (sem 𝓛 (Seen (take len xs) o))
  seen_front zero o xs = qed 𝓛 (‵ (Seen xs o) ∷ []) ∵ keep ! [] $ done !
  seen_front (suc len) o [] = qed 𝓛 (‵ (Seen [] o) ∷ []) ∵ done !
  seen_front (suc len) o (x ∷ xs) = mono_r 𝓤 (sem 𝓛 (shared_of u8 x b o κ)) (seen_front len (o + 1) xs)

  -- a `&` to the bytes is one to the len bytes from off on
  pub range_seen : (off len o : ℕ) (xs : List ℕ) → ent 𝓤 (sem 𝓛 (Seen xs o)) (sem 𝓛 (Seen (take len (past off xs)) (off + o)))
  range_seen off len o xs = via 𝓤 (sem 𝓛 (Seen (past off xs) (off + o))) (seen_past off o xs) (seen_front len (off + o) (past off xs))

module _ {M : Type 1} {𝓤 : Ura M} {𝓛 : Logic 𝓤} {K : Type 0} {Γ : List (Item 𝓤)} {E : Env 𝓤 𝓛.H} where
  -- the size of a block, as a constant of the program
  pub block_size : K → Opd K 𝓛 Γ E (int_big w64 16384) (vint w64 16384)
  block_size t = record { go = λ Kt h. via 𝓤 (Kt (vint w64 16384)) h (guard_i 𝓤 (Fits w64 16384) (Kt (vint w64 16384)) (record { fits = lit< tt })) }
