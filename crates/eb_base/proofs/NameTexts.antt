-- Names read back, and a text that is read is that of the name.
use Rattle.std.proofs.Common.{◌≡◌, ℕ, suc, Bool, true, false, cond, ◌==◌, subst, ◌+◌, ◌-◌, ◌<◌, ◌^◌, List, [], ◌∷◌, ◌++◌, length, take, drop, decimal, refl, ◌∙◌, ap, arith, add-one}
use Rattle.std.specs.Prelude.{Option, Some, None, option_map, option_and_then}
use Rattle.std.proofs.Math.Seq.{take-append_seam}
use Rattle.std.proofs.lemmas.Bool.Decides.{nat_tests}
use Rattle.std.proofs.lemmas.List.{take_rest}
use Rattle.std.proofs.lemmas.Fmt.{digits_decimal}
use Rattle.eb_base.specs.Digits.{point_in}
use Rattle.eb_base.specs.Names.{IsName, name_text, part, part_at, first_part, name_of}
use Rattle.eb_base.specs.declared.names.Name.{Name}
use Rattle.eb_base.proofs.Printed.{numerals, point_behind, drop_behind, number_below-decimal, decimal-number_below}

-- what a search for a point found, and the number before it
pub part_found : (text : List ℕ) (at n : ℕ) → Some at ≡ point_in text → Some n ≡ part (take at text) → Some (n, take (length text - (at + 1)) (drop (at + 1) text)) ≡ first_part text
part_found text at n found number =
    ap (λ rest. Some (n, rest)) (take_rest text (at + 1) ∙ ap (λ k. drop k text) (add-one at))
    ∙ ap (option_map (λ m. (m, drop (suc at) text))) number ∙ ap (part_at text) found

-- ---- a name that is printed

part-decimal : (n : ℕ) → n < 2 ^ 32 → part (decimal n) ≡ Some n
part-decimal n h = number_below-decimal (2 ^ 32) n h (omega arith)

first_part-decimal : (n : ℕ) (rest : List ℕ) → n < 2 ^ 32 → first_part (decimal n ++ 46 ∷ rest) ≡ Some (n, rest)
first_part-decimal n rest h =
    ap (part_at (decimal n ++ 46 ∷ rest)) (point_behind (decimal n) rest (digits_decimal numerals n (omega arith)))
    ∙ ap (λ t. option_map (λ m. (m, drop (suc (length (decimal n))) (decimal n ++ 46 ∷ rest))) (part t)) (take-append_seam (decimal n) (46 ∷ rest))
    ∙ ap (option_map (λ m. (m, drop (suc (length (decimal n))) (decimal n ++ 46 ∷ rest)))) (part-decimal n h)
    ∙ ap (λ t. Some (n, t)) (drop_behind (decimal n) rest)

pub name_of-name_text : (n : Name) → IsName n → name_of (name_text n) ≡ Some n
name_of-name_text n h =
    rw (
      first_part-decimal n.play (decimal n.scene ++ 46 ∷ (decimal n.object ++ 46 ∷ decimal n.extra)) h.play,
      first_part-decimal n.scene (decimal n.object ++ 46 ∷ decimal n.extra) h.scene,
      first_part-decimal n.object (decimal n.extra) h.object,
      part-decimal n.extra h.extra,
    )

-- ---- a text that is read

map_some : {X Y : Type 0} (f : X → Y) (o : Option X) (y : Y) → option_map f o ≡ Some y → (x : X) × (o ≡ Some x) × (f x ≡ y)
map_some f None y h = cc
map_some f (Some x) y h = (x, refl, cc)

then_some : {X Y : Type 0} (f : X → Option Y) (o : Option X) (y : Y) → option_and_then f o ≡ Some y → (x : X) × (o ≡ Some x) × (f x ≡ Some y)
then_some f None y h = cc
then_some f (Some x) y h = (x, refl, h)

same_number : (c d : ℕ) → (c == d) ≡ true → c ≡ d
same_number c d e = grind (arith, nat_tests)

point_first : (b : Bool) (c : ℕ) (cs : List ℕ) (at : ℕ) → ((k : ℕ) → point_in cs ≡ Some k → cs ≡ take k cs ++ 46 ∷ drop (suc k) cs) → (c == 46) ≡ b → cond b (Some 0) (option_map suc (point_in cs)) ≡ Some at → c ∷ cs ≡ take at (c ∷ cs) ++ 46 ∷ drop (suc at) (c ∷ cs)
point_first true c cs at later e h =
    let begin : 0 ≡ at = cc in
    subst (λ k. c ∷ cs ≡ take k (c ∷ cs) ++ 46 ∷ drop (suc k) (c ∷ cs)) begin (ap (λ d. d ∷ cs) (same_number c 46 e))
point_first false c cs at later e h =
    let found = map_some suc (point_in cs) at h in
    subst (λ k. c ∷ cs ≡ take k (c ∷ cs) ++ 46 ∷ drop (suc k) (c ∷ cs)) found.2 (ap (λ t. c ∷ t) (later found.0 found.1))

point_split : (text : List ℕ) (at : ℕ) → point_in text ≡ Some at → text ≡ take at text ++ 46 ∷ drop (suc at) text
point_split [] at h = cc
point_split (c ∷ cs) at h = point_first (c == 46) c cs at (point_split cs) refl h

part_exact : (text : List ℕ) (n : ℕ) → part text ≡ Some n → (text ≡ decimal n) × (n < 2 ^ 32)
part_exact text n h = decimal-number_below (2 ^ 32) text n (omega arith) h

part_at_exact : (text : List ℕ) (o : Option ℕ) (p : ℕ × List ℕ) → point_in text ≡ o → part_at text o ≡ Some p → (text ≡ decimal p.0 ++ 46 ∷ p.1) × (p.0 < 2 ^ 32)
part_at_exact text None p found h = cc
part_at_exact text (Some at) p found h =
    let number = map_some (λ n. (n, drop (suc at) text)) (part (take at text)) p h in
    let exact = part_exact (take at text) number.0 number.1 in
    subst (λ (q : ℕ × List ℕ). (text ≡ decimal q.0 ++ 46 ∷ q.1) × (q.0 < 2 ^ 32)) number.2
    (point_split text at found ∙ ap (λ t. t ++ 46 ∷ drop (suc at) text) exact.0, exact.1)

first_part_exact : (text : List ℕ) (p : ℕ × List ℕ) → first_part text ≡ Some p → (text ≡ decimal p.0 ++ 46 ∷ p.1) × (p.0 < 2 ^ 32)
first_part_exact text p h = part_at_exact text (point_in text) p refl h

pub name_text-name_of : (text : List ℕ) (n : Name) → name_of text ≡ Some n → (text ≡ name_text n) × IsName n
name_text-name_of text n h =
    let a = then_some _ (first_part text) n h in
    let b = then_some _ (first_part a.0.1) n a.2 in
    let c = then_some _ (first_part b.0.1) n b.2 in
    let d = map_some (λ e. record { play = a.0.0; scene = b.0.0; object = c.0.0; extra = e }) (part c.0.1) n c.2 in
    let ea = first_part_exact text a.0 a.1 in
    let eb = first_part_exact a.0.1 b.0 b.1 in
    let ec = first_part_exact b.0.1 c.0 c.1 in
    let ed = part_exact c.0.1 d.0 d.1 in
    let whole : text ≡ decimal a.0.0 ++ 46 ∷ (decimal b.0.0 ++ 46 ∷ (decimal c.0.0 ++ 46 ∷ decimal d.0)) =
    ea.0 ∙ ap (λ t. decimal a.0.0 ++ 46 ∷ t) (eb.0 ∙ ap (λ t. decimal b.0.0 ++ 46 ∷ t) (ec.0 ∙ ap (λ t. decimal c.0.0 ++ 46 ∷ t) ed.0)) in
    subst (λ (m : Name). (text ≡ name_text m) × IsName m) d.2 (whole, record { play = ea.1; scene = eb.1; object = ec.1; extra = ed.1 })
