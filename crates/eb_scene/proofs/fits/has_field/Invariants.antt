use Rattle.std.proofs.Common.{◌≡◌, drop}
use Rattle.eb_scene.specs.Fits.{has_field}
use Rattle.eb_scene.proofs.fits.has_field.Given as goal

-- the name isn't among those before
abbrev pub invariant-loop-field : goal.invariant-loop-field
invariant-loop-field l = has_field (drop l.field-index l.fields) l.name ≡ has_field l.fn.fields l.fn.name
