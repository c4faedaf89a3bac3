use Rattle.std.proofs.Common.{ℕ, zero, ◌*◌, List, [], ◌∷◌, ◌++◌, map, ap, ◌∙◌, arith}
use Rattle.eb_schema.specs.declared.layouts.Column.{Column}
use Rattle.eb_schema.specs.Slots.{width}
use Rattle.eb_schema.specs.Layouts.{starts_from}
use Rattle.eb_schema.proofs.LayoutFacts.{starts_begin}
use Rattle.eb_schema.proofs.layouts.starts_for.Goals as goal

pub loop-column-init : goal.loop-column-init
loop-column-init c =
    let rows = c.args.rows in let cs = c.args.columns.now in
    let first = c.in_ok-push.ensures.ok ∙ ap (λ (l : List ℕ). l ++ zero ∷ []) c.new-list.ensures in
    let both = c.in_ok-push-2.ensures.ok ∙ ap (λ (l : List ℕ). l ++ (12 * rows) ∷ []) first in
    (ap (λ (l : List ℕ). l ++ starts_from rows (28 * rows) (map (λ (x : Column). width x.holds) cs)) both ∙ starts_begin cs rows c.requires.rows, omega (arith, c.requires.most))
