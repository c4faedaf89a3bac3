use Rattle.std.proofs.Common.{◌≡◌, drop}
use Rattle.eb_scene.specs.Trees.{without_all}
use Rattle.eb_scene.specs.Tables.{ListsChildren}
use Rattle.eb_scene.proofs.scenes.take_out_all.Given as goal

-- the others are still to be taken out
abbrev pub invariant-loop-number : goal.invariant-loop-number
invariant-loop-number l = record {
  objects : without_all l.objects (drop l.number-index l.gone) ≡ without_all l.fn.objects l.fn.gone;
  lists : ListsChildren l.objects l.below;
}
