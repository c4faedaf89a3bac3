use Rattle.std.proofs.Common.{◌≡◌, drop}
use Rattle.eb_scene.specs.Fits.{written}
use Rattle.eb_scene.proofs.fits.written.Given as goal

-- the name isn't among those before
abbrev pub invariant-loop-raw : goal.invariant-loop-raw
invariant-loop-raw l = written (drop l.raw-index l.raws) l.name ≡ written l.fn.raws l.fn.name
