use Rattle.std.proofs.Common.{◌≡◌, ℤ, pos, Some, get_or, sym, ap, ◌∙◌}
use Rattle.std.specs.Int.{w64}
use Rattle.std.proofs.lemmas.Int.{to_z-of_z}
use Rattle.eb_file.specs.declared.images.Stored.TheVariants as stored
use Rattle.eb_file.proofs.Columns.{value_here}
use Rattle.eb_file.proofs.writing.number_at.Goals as goal

pub unreachable-requires-in_default-items : goal.unreachable-requires-in_default-items
unreachable-requires-in_default-items c =
    let here = value_here c.args.field c.args.row.now c.items.result.now c.cell-item.result c.items-2.result.now c.requires c.items.ensures c.cell-item.is c.items-2.ensures in
    c.in_default-items.not-Num _ here.1

pub returns : goal.returns
returns c =
    let here = value_here c.args.field c.args.row.now c.items.result.now c.cell-item.result c.items-2.result.now c.requires c.items.ensures c.cell-item.is c.items-2.ensures in
    let found : stored.Num (get_or c.requires.numbers c.args.field (pos 0)) ≡ stored.Num c.in-Num.number = sym here.1 ∙ c.in-Num.is in
    let number : get_or c.requires.numbers c.args.field (pos 0) ≡ c.in-Num.number = cc in
    let kept = to_z-of_z w64 _ (c.requires.range c.args.field (pos 0) c.requires.within) in
    rw (← number) (here.0 ∙ ap (λ (n : ℤ). Some (stored.Num n)) (sym kept))
