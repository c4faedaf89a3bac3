-- The runs of an object, one baker after the other.
use Rattle.std.proofs.Common.{◌≡◌, ℕ, suc, ◌+◌, ◌-◌, ◌<◌, ◌≤◌, Bool, true, false, cond, List, [], ◌∷◌, ◌++◌, refl, sym, ◌∙◌, ap, append_assoc, append-nil, arith}
use Rattle.eb_scene.specs.Projects.{Content}
use Rattle.eb_rules.specs.Kept.{Kept}
use Rattle.eb_eval.specs.declared.ids.RunId.{RunId}
use Rattle.eb_eval.specs.Runs.{id_of, is_run, numbers_from, runs_by}

numbers_onward : (n most : ℕ) → n < most → numbers_from n (most - n) ≡ n ∷ numbers_from (n + 1) (most - (n + 1))
unfolding numbers_from
numbers_onward n most low = let e : most - n ≡ suc (most - (n + 1)) = omega arith in rw e refl

numbers_end : (n most : ℕ) → most ≤ n → numbers_from n (most - n) ≡ []
unfolding numbers_from
numbers_end n most past = let e : most - n ≡ 0 = omega arith in rw e refl

first_apart : {X : Type 0} (b : Bool) (x : X) (xs : List X) → cond b (x ∷ xs) xs ≡ cond b (x ∷ []) [] ++ xs
first_apart true x xs = refl
first_apart false x xs = refl

pub runs_onward : (rules : Kept) (g : Content) (s n : ℕ) (runs more whole : List RunId) (baker most : ℕ) → baker < most
    → runs ++ runs_by rules g s n (numbers_from baker (most - baker)) ≡ whole
    → more ≡ runs ++ runs_by rules g s n (baker ∷ [])
    → more ++ runs_by rules g s n (numbers_from (baker + 1) (most - (baker + 1))) ≡ whole
runs_onward rules g s n runs more whole baker most low so_far pushed =
    let rest : List RunId = runs_by rules g s n (numbers_from (baker + 1) (most - (baker + 1))) in
    ap (λ xs. xs ++ rest) pushed ∙ append_assoc runs (runs_by rules g s n (baker ∷ [])) rest
    ∙ ap (λ xs. runs ++ xs) (sym (ap (runs_by rules g s n) (numbers_onward baker most low) ∙ first_apart (is_run rules g (id_of s n baker)) (id_of s n baker) rest)) ∙ so_far

pub runs_end : (rules : Kept) (g : Content) (s n : ℕ) (runs whole : List RunId) (baker most : ℕ) → most ≤ baker
    → runs ++ runs_by rules g s n (numbers_from baker (most - baker)) ≡ whole → runs ≡ whole
runs_end rules g s n runs whole baker most past so_far =
    sym (append-nil runs) ∙ ap (λ xs. runs ++ xs) (sym (ap (runs_by rules g s n) (numbers_end baker most past))) ∙ so_far
