-- What contracts see of an evaluated run.
use Rattle.std.specs.Prelude.{List, refl}
use Rattle.std.specs.Coded.{Coded, code_by, coded×, coded_list}
use Rattle.eb_scene.specs.declared.keys.Key.{Key}
use Rattle.eb_scene.specs.contracts.keys.Key as key
use Rattle.eb_eval.specs.declared.outcomes.Outcome.{Outcome}
use Rattle.eb_eval.specs.contracts.outcomes.Outcome as outcome

pub record Ran : Type 0 where
  pub keys : List Key
  pub outcome : Outcome

abbrev pub coded_ran : Coded Ran
coded_ran = code_by (List Key × Outcome) (coded× (coded_list key.the_row.coded) outcome.the_row.coded)
    (λ r. (r.keys, r.outcome)) (λ p. record { keys = p.0; outcome = p.1 }) (λ _. refl)
