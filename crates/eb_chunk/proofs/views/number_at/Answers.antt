use Rattle.std.proofs.Common.{◌-◌, ◌*◌, length, take, drop, ap, ◌∙◌, arith, length-drop}
use Rattle.std.proofs.lemmas.List.{take_all}
use Rattle.std.proofs.Math.Facts.{to_z-of_z}
use Rattle.eb_chunk.specs.Columns.{number_of}
use Rattle.eb_chunk.proofs.ColumnFacts.{number_there}
use Rattle.eb_chunk.proofs.views.number_at.Goals as goal

pub returns-clause-value : goal.returns-clause-value
returns-clause-value c =
    let w = c.args.width in let bs = c.args.bytes.now in let at = c.args.row * w in
    to_z-of_z c.number.ensures.fits ∙ c.number.ensures.value ∙ ap (λ l. number_of w (take w l)) (take_all (length bs - at) (drop at bs) (omega (arith, length-drop at bs))) ∙ number_there w c.args.rows c.args.row bs c.requires.row
