use Rattle.std.proofs.Common.{◌≡◌, ◌+◌, sym, ap, subst, ◌∙◌, arith, drop, Some}
use Rattle.std.specs.Prelude.{FitsSigned}
use Rattle.std.specs.Int.{w64, int_max, cast_signed}
use Rattle.std.proofs.Math.Facts.{to_z-of_z}
use Rattle.eb_chunk.specs.Columns.{numbers, greatest}
use Rattle.eb_chunk.proofs.ColumnFacts.{length-numbers, greatest_step, greatest_end, greatest_all, fits_max}
use Rattle.eb_chunk.proofs.views.greatest_in.Goals as goal

pub loop-row-init : goal.loop-row-init
loop-row-init c =
    let list = numbers c.args.width c.args.rows c.args.bytes.now in let same = to_z-of_z c.number_at-best.ensures.fits in
    (ap (λ b. greatest b (drop 1 list)) (same ∙ c.number_at-best.ensures.value), subst (FitsSigned w64) (sym same) c.number_at-best.ensures.fits)

pub loop-row-preserved : goal.loop-row-preserved
loop-row-preserved c =
    let list = numbers c.args.width c.args.rows c.args.bytes.now in let count = length-numbers c.args.width c.args.rows c.args.bytes.now in
    let best = cast_signed w64 c.loop-row.best-bits in let i = c.loop-row.row in
    let x = c.number_at.result in let is : c.max-best.result ≡ int_max best x = c.max-best.ensures.value ∙ ap (int_max best) (to_z-of_z c.number_at.ensures.fits) in
    let fits : FitsSigned w64 c.max-best.result = subst (FitsSigned w64) (sym is) (fits_max best x c.loop-row.invariant.1 c.number_at.ensures.fits) in
    let same = to_z-of_z fits in (
      ap (λ b. greatest b (drop (i + 1) list)) (same ∙ is ∙ ap (int_max best) c.number_at.ensures.value)
          ∙ sym (greatest_step list i best (omega (arith, count, c.loop-row-test.true))) ∙ c.loop-row.invariant.0,
      subst (FitsSigned w64) (sym same) fits,
    )

pub returns : goal.returns
returns c =
    let list = numbers c.args.width c.args.rows c.args.bytes.now in let count = length-numbers c.args.width c.args.rows c.args.bytes.now in
    greatest_all list (omega (arith, count, c.requires.some)) ∙ ap Some (sym c.loop-row.invariant.0 ∙ greatest_end list c.loop-row.row (cast_signed w64 c.loop-row.best-bits) (omega (arith, count, c.loop-row-test.false)))
