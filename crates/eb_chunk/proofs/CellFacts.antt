-- A write into one cell of a block keeps all other cells.
use Rattle.std.proofs.Common.{◌≡◌, ◌≤◌, ◌<◌, ℕ, zero, suc, ◌+◌, ◌-◌, ◌*◌, List, [], ◌∷◌, ◌++◌, length, take, drop, get_or, set, refl, sym, ap, ◌∙◌, arith, length-append, length-take, length-drop, append_assoc, drop-drop, take-append-drop, inl, inr}
use Rattle.std.proofs.Math.Nat.{mul-le-mul_right, mul-add, suc-mul}
use Rattle.std.proofs.lemmas.List.{take_at, drop_at, take-append-le, drop-append-le}
use Rattle.std.specs.Prelude.{◌⊎◌}
use Rattle.eb_block.specs.Bytes.{written}
use Rattle.eb_schema.specs.Layouts.{total}
use Rattle.eb_chunk.specs.Cells.{part, cells_at, place_from}

pub part-same : (bs xs : List ℕ) (at : ℕ) → at + length xs ≤ length bs → part (written bs at xs) at (length xs) ≡ xs
part-same bs xs at within =
    let front : length (take at bs) ≡ at = omega (arith, length-take at bs) in let rest = drop (at + length xs) bs in
    ap (take (length xs)) (drop_at (take at bs) (xs ++ rest) at front) ∙ take_at xs rest (length xs) refl

-- what lies in the front p of a list doesn't depend on what follows
pub front-part : (p r : List ℕ) (i w : ℕ) → i + w ≤ length p → part (p ++ r) i w ≡ part p i w
front-part p r i w within =
    ap (take w) (drop-append-le i p r (omega arith)) ∙ take-append-le w (drop i p) r (omega (arith, length-drop i p))

pub part-below : (bs xs : List ℕ) (at i w : ℕ) → at ≤ length bs → i + w ≤ at → part (written bs at xs) i w ≡ part bs i w
part-below bs xs at i w within below =
    let front : length (take at bs) ≡ at = omega (arith, length-take at bs) in
    front-part (take at bs) (xs ++ drop (at + length xs) bs) i w (omega (arith, front))
    ∙ sym (front-part (take at bs) (drop at bs) i w (omega (arith, front))) ∙ ap (λ l. part l i w) (take-append-drop at bs)

pub part-above : (bs xs : List ℕ) (at i w : ℕ) → at + length xs ≤ length bs → at + length xs ≤ i → part (written bs at xs) i w ≡ part bs i w
part-above bs xs at i w within above =
    let end = at + length xs in let rest = drop end bs in
    let front : length (take at bs ++ xs) ≡ end = omega (arith, length-append (take at bs) xs, length-take at bs) in
    let more : end + (i - end) ≡ i = omega arith in
    let behind : drop end (written bs at xs) ≡ rest = ap (drop end) (sym (append_assoc (take at bs) xs rest)) ∙ drop_at (take at bs ++ xs) rest end front in
    let same : drop i (written bs at xs) ≡ drop i bs =
    ap (λ k. drop k (written bs at xs)) (sym more) ∙ sym (drop-drop (i - end) end (written bs at xs)) ∙ ap (drop (i - end)) behind
    ∙ drop-drop (i - end) end bs ∙ ap (λ k. drop k bs) more in
    ap (take w) same

-- a row's cell ends where its column does, or before
pub row_room : (r n w : ℕ) → r < n → r * w + w ≤ n * w
row_room r n w lt = omega (arith, suc-mul r w, mul-le-mul_right {m = suc r} {n = n} w (omega arith))

pub place-from : (ws : List ℕ) (n at c r : ℕ) → r < n → c < length ws → (at ≤ place_from ws n at c r) × (place_from ws n at c r + get_or ws c 0 ≤ at + n * total ws)
place-from [] n at c r rn lt = absurd (omega (arith, lt))
place-from (w ∷ ws) n at zero r rn lt = (omega arith, omega (arith, row_room r n w rn, mul-add n w (total ws)))
place-from (w ∷ ws) n at (suc c) r rn lt = let h = place-from ws n (at + n * w) c r rn (omega (arith, lt)) in (omega (arith, h.0), omega (arith, h.1, mul-add n w (total ws)))

cells-above : (ws : List ℕ) (n at : ℕ) (bs xs : List ℕ) (p k : ℕ) → p + length xs ≤ length bs → p + length xs ≤ at → cells_at ws n at (written bs p xs) k ≡ cells_at ws n at bs k
cells-above [] n at bs xs p k within above = refl
cells-above (w ∷ ws) n at bs xs p k within above =
    let head = part-above bs xs p (at + k * w) w within (omega (arith, above)) in let tail = cells-above ws n (at + n * w) bs xs p k within (omega (arith, above)) in
    (λ i. head i ∷ tail i)

-- the row's own cells: one is replaced
pub cells-same : (ws : List ℕ) (n at : ℕ) (bs xs : List ℕ) (c r : ℕ) → r < n → c < length ws → length xs ≡ get_or ws c 0 → at + n * total ws ≤ length bs
    → cells_at ws n at (written bs (place_from ws n at c r) xs) r ≡ set (cells_at ws n at bs r) c xs
cells-same [] n at bs xs c r rn lt long room = absurd (omega (arith, lt))
cells-same (w ∷ ws) n at bs xs zero r rn lt long room =
    let p = at + r * w in let end = row_room r n w rn in let sum = mul-add n w (total ws) in
    let within : p + length xs ≤ length bs = omega (arith, long, end, sum, room) in
    let head : part (written bs p xs) p w ≡ xs = ap (part (written bs p xs) p) (sym long) ∙ part-same bs xs p within in
    let tail = cells-above ws n (at + n * w) bs xs p r within (omega (arith, long, end)) in
    (λ i. head i ∷ tail i)
cells-same (w ∷ ws) n at bs xs (suc c) r rn lt long room =
    let p = place_from ws n (at + n * w) c r in let sum = mul-add n w (total ws) in let h = place-from ws n (at + n * w) c r rn (omega (arith, lt)) in
    let head = part-below bs xs p (at + r * w) w (omega (arith, h.1, sum, room)) (omega (arith, h.0, row_room r n w rn)) in
    let tail = cells-same ws n (at + n * w) bs xs c r rn (omega (arith, lt)) long (omega (arith, sum, room)) in
    (λ i. head i ∷ tail i)

-- the cells of another row stay
pub cells-other : (ws : List ℕ) (n at : ℕ) (bs xs : List ℕ) (c r k : ℕ) → r < n → k < n → (k < r) ⊎ (r < k) → c < length ws → length xs ≡ get_or ws c 0 → at + n * total ws ≤ length bs
    → cells_at ws n at (written bs (place_from ws n at c r) xs) k ≡ cells_at ws n at bs k
cells-other [] n at bs xs c r k rn kn other lt long room = refl
cells-other (w ∷ ws) n at bs xs zero r k rn kn other lt long room =
    let p = at + r * w in let end = row_room r n w rn in let sum = mul-add n w (total ws) in
    let within : p + length xs ≤ length bs = omega (arith, long, end, sum, room) in
    let head : part (written bs p xs) (at + k * w) w ≡ part bs (at + k * w) w = elim other [
      | inl less ↦ part-below bs xs p (at + k * w) w (omega (arith, within)) (omega (arith, row_room k r w less))
      | inr more ↦ part-above bs xs p (at + k * w) w within (omega (arith, long, row_room r k w more))
    ] in
    let tail = cells-above ws n (at + n * w) bs xs p k within (omega (arith, long, end)) in
    (λ i. head i ∷ tail i)
cells-other (w ∷ ws) n at bs xs (suc c) r k rn kn other lt long room =
    let p = place_from ws n (at + n * w) c r in let sum = mul-add n w (total ws) in let h = place-from ws n (at + n * w) c r rn (omega (arith, lt)) in
    let head = part-below bs xs p (at + k * w) w (omega (arith, h.1, sum, room)) (omega (arith, h.0, row_room k n w kn)) in
    let tail = cells-other ws n (at + n * w) bs xs c r k rn kn other (omega (arith, lt)) long (omega (arith, sum, room)) in
    (λ i. head i ∷ tail i)
