use Rattle.std.proofs.Common.{◌≡◌, drop}
use Rattle.std.specs.Prelude.{not}
use Rattle.std.specs.List.{list_any}
use Rattle.eb_scene.specs.Fits.{has_field}
use Rattle.eb_scene.proofs.fits.has_unknown.Given as goal

-- all names before are those of fields
abbrev pub invariant-loop-raw : goal.invariant-loop-raw
invariant-loop-raw l = list_any (λ r. not (has_field l.fields r.name)) (drop l.raw-index l.raws) ≡ list_any (λ r. not (has_field l.fn.fields r.name)) l.fn.raws
