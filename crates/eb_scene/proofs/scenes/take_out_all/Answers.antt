use Rattle.std.proofs.Common.{sym, ap, ◌∙◌}
use Rattle.std.proofs.lemmas.List.{drop_more}
use Rattle.eb_scene.specs.Trees.{without_all}
use Rattle.eb_scene.proofs.scenes.take_out_all.Goals as goal

pub loop-number-preserved : goal.loop-number-preserved
loop-number-preserved c = record {
  objects = rw c.take_out.ensures.objects
      (sym (ap (without_all c.loop-number.objects) (drop_more c.args.gone.now c.loop-number.number-index 0 c.loop-number-test.true)) ∙ c.loop-number.invariant.objects);
  lists = c.take_out.ensures.lists;
}
