-- What is read one level deeper.
use Rattle.std.proofs.Common.{◌≡◌, ℕ, zero, suc, ◌-◌, ◌<◌, refl, ap, arith}
use Rattle.eb_rule_text.specs.declared.trees.Context.{Context}
use Rattle.eb_rule_text.specs.Reading.{unary, below, expression}
use Rattle.eb_rule_text.specs.Blocks.{inner, add, inner_add, one_stmt, stmt, inner_stmt}

pub below_is : (context : Context) (d : ℕ) → 0 < d → below context d ≡ unary context (d - 1)
below_is context zero some = absurd (omega arith)
below_is context (suc d) some = let e : d ≡ suc d - 1 = omega arith in ap (unary context) e

pub inner_is : (context : Context) (d : ℕ) → 0 < d → inner context d ≡ expression context (d - 1)
inner_is context zero some = absurd (omega arith)
inner_is context (suc d) some = let e : d ≡ suc d - 1 = omega arith in ap (expression context) e

pub inner_add_is : (context : Context) (d : ℕ) → 0 < d → inner_add context d ≡ add context (d - 1)
inner_add_is context zero some = absurd (omega arith)
inner_add_is context (suc d) some = let e : d ≡ suc d - 1 = omega arith in ap (add context) e

pub inner_stmt_is : (context : Context) (d : ℕ) → 0 < d → inner_stmt context d ≡ stmt context (d - 1)
inner_stmt_is context zero some = absurd (omega arith)
inner_stmt_is context (suc d) some = let e : d ≡ suc d - 1 = omega arith in ap (stmt context) e

pub stmt_is : (context : Context) (d : ℕ) → stmt context d ≡ one_stmt context d (inner_stmt context d)
stmt_is context zero = refl
stmt_is context (suc d) = refl
