use Rattle.std.proofs.Common.{◌≡◌, drop}
use Rattle.eb_scene.specs.Fits.{place_from}
use Rattle.eb_scene.proofs.fits.place_of.Given as goal

-- the name isn't among those before
abbrev pub invariant-loop-field : goal.invariant-loop-field
invariant-loop-field l = record {
  place : place_from l.index (drop l.field-index l.fields) l.name ≡ place_from 0 l.fn.fields l.fn.name;
  index : l.index ≡ l.field-index;
}
