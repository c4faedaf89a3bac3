-- The totals that are kept, under the fields that they are of.
use Rattle.std.proofs.Common.{◌≡◌, ℕ, Bool, true, false, cond, Option, Some, None, Less, Equal, Greater, refl, sym, ap, subst}
use Rattle.std.specs.Prelude.{IfSome}
use Rattle.std.specs.Ordering.{nat_cmp, is_eq}
use Rattle.std.specs.declared.cmp.Ordering.{Ordering}
use Rattle.std.specs.BTreeMap as tree
use Rattle.std.specs.BTreeMap.{BTreeMap, is_at}
use Rattle.std.proofs.lemmas.Map.Lookups.{exact_pairs, exact_unsigned}
use Rattle.eb_schema.specs.BakedEntities.{Entities}
use Rattle.eb_system.specs.declared.totals.SceneTotals.{SceneTotals}
use Rattle.eb_system.specs.declared.wanted.Summed.{Summed}
use Rattle.eb_system.specs.Tables.{AreTotals, AreKept, summed_cmp}

same_summed : (x y : Summed) → summed_cmp x y ≡ Equal → x ≡ y
same_summed x y h =
    ap (λ (p : ℕ × ℕ). record { kind = p.0; place = p.1 }) (exact_pairs nat_cmp nat_cmp exact_unsigned exact_unsigned (x.kind, x.place) (y.kind, y.place) h)

tied : (o : Ordering) → is_eq o ≡ true → o ≡ Equal
tied o h = elim o as (λ p. is_eq p ≡ true → p ≡ Equal) [ Less ↦ λ e. cc | Equal ↦ λ e. refl | Greater ↦ λ e. cc ] h

module _ (all : Entities) (x : Summed) (totals : SceneTotals) (are : AreTotals all x totals) where
  kept_where : (b : Bool) (y : Summed) (before : Option SceneTotals) → (b ≡ true → x ≡ y) → IfSome before (AreTotals all y) → IfSome (cond b (Some totals) before) (AreTotals all y)
  kept_where true y before same h = subst (λ z. AreTotals all z totals) (same refl) are
  kept_where false y before same h = h

  pub kept_more : (old new : BTreeMap Summed SceneTotals) → AreKept all old → ((y : Summed) → tree.get summed_cmp new y ≡ cond (is_at (summed_cmp x) y) (Some totals) (tree.get summed_cmp old y)) → AreKept all new
  kept_more old new kept put = λ y.
      subst (λ o. IfSome o (AreTotals all y)) (sym (put y)) (kept_where (is_at (summed_cmp x) y) y (tree.get summed_cmp old y) (λ e. same_summed x y (tied (summed_cmp x y) e)) (kept y))

pub kept_found : (all : Entities) (x : Summed) (o : Option SceneTotals) (totals : SceneTotals) → IfSome o (AreTotals all x) → o ≡ Some totals → AreTotals all x totals
kept_found all x None totals h is = cc
kept_found all x (Some found) totals h is = let same : found ≡ totals = cc in subst (λ t. AreTotals all x t) same h
