-- Projects that answer alike on the reads of a run bake it alike.
use Rattle.std.proofs.Common.{List, ap}
use Rattle.eb_scene.specs.Answers.{answer}
use Rattle.eb_scene.specs.Projects.{Content}
use Rattle.eb_scene.specs.declared.keys.Key.{Key}
use Rattle.eb_rules.specs.Kept.{Kept}
use Rattle.eb_meaning.specs.Asks.{AnEnd, Answers, AreAlike, EndAlike}
use Rattle.eb_meaning.proofs.Alike.{end_alike}
use Rattle.eb_eval.specs.declared.ids.RunId.{RunId}
use Rattle.eb_eval.specs.Keys.{in_order}
use Rattle.eb_eval.specs.Runs.{run_asks, outcome_of, reads_of_run}
use Rattle.eb_eval.specs.Reruns.{BakesAlike}
use Rattle.eb_eval.proofs.KeysInOrder.{ordered_has}

-- alike on keys in order is alike on them as they were asked
alike_asked : (o p : Answers) (keys : List Key) → AreAlike o p (in_order keys) → AreAlike o p keys
alike_asked o p keys h = λ k c. h k (ordered_has keys k c)

pub bake_alike : (g h : Content) (rules : Kept) (id : RunId) → AreAlike (answer g) (answer h) (reads_of_run g rules id) → BakesAlike g h rules id
bake_alike g h rules id a =
    let same : EndAlike (answer g) (answer h) (run_asks rules id) = end_alike AnEnd (answer g) (answer h) (run_asks rules id) (alike_asked (answer g) (answer h) _ a) in
    (ap (outcome_of id) same.0, ap in_order same.1)
