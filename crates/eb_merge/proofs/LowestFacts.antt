-- Of each type the component stands that is given first.
use Rattle.std.proofs.Common.{◌≡◌, ℕ, List, [], ◌∷◌, Bool, true, false, cond, nat_eq, Option, Some, None, refl, sym, ap, ◌∙◌, arith, fold, flat_map}
use Rattle.std.specs.Prelude.{option_map}
use Rattle.std.specs.Option.{option_or}
use Rattle.std.proofs.lemmas.Bool.Decides.{nat_tests}
use Rattle.std.proofs.lemmas.List.Folds.{find-append}
use Rattle.eb_schema.specs.declared.rows.Cell.{Cell}
use Rattle.eb_schema.specs.Rows.{cell_of}
use Rattle.eb_schema.proofs.RowLaws.{found_with}
use Rattle.eb_eval.specs.declared.outcomes.Output.{Output}
use Rattle.eb_merge.specs.declared.own_cells.Standing.{Standing}
use Rattle.eb_merge.specs.Standing.{kind_of, standing_at, given, with_gift}
use Rattle.eb_merge.specs.Objects.{IdRun, outputs_of, is_own, own_after_output, own_after_run, own_standing, own_cells, given_cells}
use Rattle.eb_merge.proofs.GiftFacts.{kind_found}

abbrev pub cell_at : List Standing → ℕ → Option Cell
cell_at xs k = option_map (λ x. x.cell) (standing_at xs k)

or_none : {X : Type 0} (o : Option X) → option_or o None ≡ o
or_none None = refl
or_none (Some x) = refl

or_or : {X : Type 0} (a b c : Option X) → option_or (option_or a b) c ≡ option_or a (option_or b c)
or_or None b c = refl
or_or (Some x) b c = refl

-- ---- one component

kind_given : (baker : ℕ) (c : Cell) (o : Option Standing) → ((x : Standing) → o ≡ Some x → kind_of x ≡ c.kind) → kind_of (given baker c o) ≡ c.kind
kind_given baker c None h = refl
kind_given baker c (Some x) h = h x refl

cell_given : (baker : ℕ) (c : Cell) (o : Option Standing) → Some (given baker c o).cell ≡ option_or (option_map (λ x. x.cell) o) (Some c)
cell_given baker c None = refl
cell_given baker c (Some x) = refl

gift_where : (b : Bool) (baker k : ℕ) (xs : List Standing) (c : Cell) → nat_eq c.kind k ≡ b
    → option_map (λ x. x.cell) (cond b (Some (given baker c (standing_at xs c.kind))) (standing_at xs k)) ≡ option_or (cell_at xs k) (cond b (Some c) None)
gift_where true baker k xs c is =
    let same : c.kind ≡ k = grind (arith, nat_tests) in
    cell_given baker c (standing_at xs c.kind) ∙ ap (λ j. option_or (cell_at xs j) (Some c)) same
gift_where false baker k xs c is = sym (or_none (cell_at xs k))

after_gift : (baker k : ℕ) (xs : List Standing) (c : Cell) → cell_at (with_gift baker xs c) k ≡ option_or (cell_at xs k) (cond (nat_eq c.kind k) (Some c) None)
after_gift baker k xs c =
    let one = given baker c (standing_at xs c.kind) in
    let kind : kind_of one ≡ c.kind = kind_given baker c (standing_at xs c.kind) (kind_found c.kind xs) in
    ap (option_map (λ x. x.cell)) (found_with kind_of one k xs ∙ ap (λ j. cond (nat_eq j k) (Some one) (standing_at xs k)) kind)
    ∙ gift_where (nat_eq c.kind k) baker k xs c refl

found_first : (b : Bool) (c : Cell) (rest : Option Cell) → option_or (cond b (Some c) None) rest ≡ cond b (Some c) rest
found_first true c rest = refl
found_first false c rest = refl

-- ---- a row, an output, a run

after_row : (baker k : ℕ) (xs : List Standing) (cs : List Cell) → cell_at (fold (with_gift baker) xs cs) k ≡ option_or (cell_at xs k) (cell_of cs k)
after_row baker k xs [] = sym (or_none (cell_at xs k))
after_row baker k xs (c ∷ cs) =
    after_row baker k (with_gift baker xs c) cs ∙ ap (λ o. option_or o (cell_of cs k)) (after_gift baker k xs c)
    ∙ or_or (cell_at xs k) (cond (nat_eq c.kind k) (Some c) None) (cell_of cs k)
    ∙ ap (option_or (cell_at xs k)) (found_first (nat_eq c.kind k) c (cell_of cs k))

output_where : (b : Bool) (baker k : ℕ) (xs : List Standing) (row : List Cell) → cell_at (cond b (fold (with_gift baker) xs row) xs) k ≡ option_or (cell_at xs k) (cell_of (cond b row []) k)
output_where true baker k xs row = after_row baker k xs row
output_where false baker k xs row = sym (or_none (cell_at xs k))

after_outputs : (baker k : ℕ) (xs : List Standing) (os : List Output) → cell_at (fold (own_after_output baker) xs os) k ≡ option_or (cell_at xs k) (cell_of (flat_map own_cells os) k)
after_outputs baker k xs [] = sym (or_none (cell_at xs k))
after_outputs baker k xs (o ∷ os) =
    after_outputs baker k (own_after_output baker xs o) os
    ∙ ap (λ c. option_or c (cell_of (flat_map own_cells os) k)) (output_where (is_own o) baker k xs o.row)
    ∙ or_or (cell_at xs k) (cell_of (own_cells o) k) (cell_of (flat_map own_cells os) k)
    ∙ ap (option_or (cell_at xs k)) (sym (find-append (λ c. nat_eq c.kind k) (own_cells o) (flat_map own_cells os)))

after_runs : (k : ℕ) (xs : List Standing) (rs : List IdRun) → cell_at (fold own_after_run xs rs) k ≡ option_or (cell_at xs k) (cell_of (given_cells rs) k)
after_runs k xs [] = sym (or_none (cell_at xs k))
after_runs k xs (r ∷ rs) =
    let here = flat_map own_cells (outputs_of r.1.outcome) in
    after_runs k (own_after_run xs r) rs
    ∙ ap (λ c. option_or c (cell_of (given_cells rs) k)) (after_outputs r.0.baker k xs (outputs_of r.1.outcome))
    ∙ or_or (cell_at xs k) (cell_of here k) (cell_of (given_cells rs) k)
    ∙ ap (option_or (cell_at xs k)) (sym (find-append (λ c. nat_eq c.kind k) here (given_cells rs)))

pub lowest : (runs : List IdRun) (kind : ℕ) → cell_at (own_standing runs) kind ≡ cell_of (given_cells runs) kind
lowest runs kind = after_runs kind [] runs
