-- Facts on bytes of which a range was replaced.
use Rattle.std.proofs.Common.{◌≡◌, ℕ, zero, suc, ◌+◌, ◌-◌, ◌≤◌, List, [], ◌∷◌, ◌++◌, length, take, drop, replicate, refl, sym, ap, ◌∙◌, arith, length-take, length-drop, length-append, append-nil, append_assoc, drop-drop, take-append-drop}
use lib.ListN.{length-replicate}
use Rattle.std.proofs.lemmas.List.{take_all, drop_all, take_at, drop_at}
use Rattle.std.proofs.Math.Seq.{paste}
use Rattle.std.specs.List.{refill}
use Rattle.eb_block.specs.Bytes.{written, rewritten, zero_bytes}

-- n bytes written over all of as many are these bytes
pub all_written : (bs ws : List ℕ) (n : ℕ) → length bs ≡ n → length ws ≡ n → rewritten bs 0 n ws ≡ ws
all_written bs ws n all long =
    let same : refill n (take n bs) ws ≡ ws = take_at ws (drop (length ws) (take n bs)) n long in
    let none : drop (0 + length ws) bs ≡ [] = drop_all (0 + length ws) bs (omega arith) in
    let plain : written bs 0 ws ≡ ws = ap (λ l. ws ++ l) none ∙ append-nil ws in
    ap (λ l. written bs 0 l) same ∙ plain

pub zeros : (bs ws : List ℕ) → length bs ≡ 16384 → ws ≡ replicate (length (take 16384 bs)) 0 → rewritten bs 0 16384 ws ≡ zero_bytes
unfolding zero_bytes
zeros bs ws all e =
    let count : length (take 16384 bs) ≡ 16384 = omega (arith, length-take 16384 bs) in
    let is : ws ≡ replicate 16384 0 = e ∙ ap (λ n. replicate n 0) count in
    let long : length ws ≡ 16384 = ap length is ∙ length-replicate {A = ℕ} 16384 0 in
    all_written bs ws 16384 all long ∙ is

pub copied : (bs : List ℕ) (from to len : ℕ) → from + len ≤ length bs → paste bs to (drop from bs) (from + len - from) ≡ written bs to (take len (drop from bs))
copied bs from to len within =
    let n : from + len - from ≡ len = omega arith in
    let m : length (take len (drop from bs)) ≡ len = omega (arith, length-take len (drop from bs), length-drop from bs) in
    append_assoc (take to bs) (take (from + len - from) (drop from bs)) (drop (to + (from + len - from)) bs)
    ∙ (λ i. take to bs ++ (take (n i) (drop from bs) ++ drop (to + (n ∙ sym m) i) bs))

pub copied_in : (bs r ws : List ℕ) (from to len : ℕ) → length bs ≡ 16384 → r ≡ take 16384 bs → from + len ≤ 16384 → ws ≡ paste r to (drop from r) (from + len - from) → length ws ≡ length r
    → rewritten bs 0 16384 ws ≡ written bs to (take len (drop from bs))
copied_in bs r ws from to len all is within e count =
    let same : r ≡ bs = is ∙ take_all 16384 bs (omega arith) in
    all_written bs ws 16384 all (count ∙ ap length same ∙ all) ∙ e ∙ ap (λ l. paste l to (drop from l) (from + len - from)) same ∙ copied bs from to len (omega arith)

-- one zero more
pub more : (n x : ℕ) → replicate n x ++ x ∷ [] ≡ replicate (n + 1) x
more zero x = refl
more (suc n) x = let next : suc (n + 1) ≡ suc n + 1 = omega arith in ap (λ (l : List ℕ). x ∷ l) (more n x) ∙ ap (λ k. replicate k x) next

pub all_zeros : (bs : List ℕ) (n : ℕ) → bs ≡ replicate n 0 → n ≡ 16384 → bs ≡ zero_bytes
unfolding zero_bytes
all_zeros bs n e all = e ∙ ap (λ k. replicate k 0) all

pub zeros-length : length zero_bytes ≡ 16384
unfolding zero_bytes
zeros-length = length-replicate {A = ℕ} 16384 0

-- what lies behind the place i, as n bytes and those behind them
pub behind : (bs : List ℕ) (i n j : ℕ) → i + n ≡ j → drop i bs ≡ take n (drop i bs) ++ drop j bs
behind bs i n j e = sym (take-append-drop n (drop i bs)) ∙ ap (λ l. take n (drop i bs) ++ l) (drop-drop n i bs ∙ ap (λ k. drop k bs) e)

-- a write over x, which lies behind p
pub written_behind : (p x r ws : List ℕ) (at : ℕ) → length p ≡ at → length ws ≡ length x → written (p ++ (x ++ r)) at ws ≡ p ++ (ws ++ r)
written_behind p x r ws at front long =
    let count : length (p ++ x) ≡ at + length ws = omega (arith, length-append p x) in
    let rest : drop (at + length ws) (p ++ (x ++ r)) ≡ r = ap (drop (at + length ws)) (sym (append_assoc p x r)) ∙ drop_at (p ++ x) r (at + length ws) count in
    (λ i. take_at p (x ++ r) at front i ++ (ws ++ rest i))

-- and over y, which lies behind p, x and m
pub written_far : (p x m y e zs : List ℕ) (at : ℕ) → length p + (length x + length m) ≡ at → length zs ≡ length y → written (p ++ (x ++ (m ++ (y ++ e)))) at zs ≡ p ++ (x ++ (m ++ (zs ++ e)))
written_far p x m y e zs at front long =
    let grouped : (r : List ℕ) → p ++ (x ++ (m ++ r)) ≡ (p ++ (x ++ m)) ++ r = λ r. ap (λ l. p ++ l) (sym (append_assoc x m r)) ∙ sym (append_assoc p (x ++ m) r) in
    let count : length (p ++ (x ++ m)) ≡ at = omega (arith, length-append p (x ++ m), length-append x m) in
    ap (λ l. written l at zs) (grouped (y ++ e)) ∙ written_behind (p ++ (x ++ m)) y e zs at count long ∙ sym (grouped (zs ++ e))

pub refilled : (old ws : List ℕ) (n : ℕ) → length ws ≡ n → refill n old ws ≡ ws
refilled old ws n long = take_at ws (drop (length ws) old) n long

-- the bytes, cut at two ranges of which the first lies before the second
pub cut_in_five : (bs : List ℕ) (a la b lb : ℕ) → a + la ≤ b → bs ≡ take a bs ++ (take la (drop a bs) ++ (take (b - (a + la)) (drop (a + la) bs) ++ (take lb (drop b bs) ++ drop (b + lb) bs)))
cut_in_five bs a la b lb le =
    sym (take-append-drop a bs) ∙ ap (λ l. take a bs ++ l) (behind bs a la (a + la) refl
    ∙ ap (λ l. take la (drop a bs) ++ l) (behind bs (a + la) (b - (a + la)) b (omega arith)
    ∙ ap (λ l. take (b - (a + la)) (drop (a + la) bs) ++ l) (behind bs b lb (b + lb) refl)))

-- a write within the bytes keeps their number
pub length-written : (bs xs : List ℕ) (at : ℕ) → at + length xs ≤ length bs → length (written bs at xs) ≡ length bs
length-written bs xs at within = omega (arith, length-append (take at bs) (xs ++ drop (at + length xs) bs), length-append xs (drop (at + length xs) bs), length-take at bs, length-drop (at + length xs) bs)
