use Rattle.std.proofs.Common.{◌≡◌, drop}
use Rattle.eb_scene.specs.Fits.{after, values_from}
use Rattle.eb_scene.proofs.fits.values.Given as goal

-- the values so far, and then those of the fields that are left
abbrev pub invariant-loop-field : goal.invariant-loop-field
invariant-loop-field l = record {
  told : after l.values (values_from l.index (drop l.field-index l.fields) l.raws) ≡ values_from 0 l.fn.fields l.fn.raws;
  index : l.index ≡ l.field-index;
}
