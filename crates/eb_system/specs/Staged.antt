-- What systems come to.
use Rattle.std.specs.Prelude.{List, refl}
use Rattle.std.specs.Coded.{Coded, code_by, coded×, coded_list}
use Rattle.std.specs.FinMap as map
use Rattle.eb_base.specs.Names.{coded_name}
use Rattle.eb_schema.specs.BakedEntities.{Entities}
use Rattle.eb_schema.specs.contracts.baked.BakedEntity as entity
use Rattle.eb_eval.specs.declared.issues.Issue.{Issue}
use Rattle.eb_eval.specs.contracts.issues.Issue as issue

-- the entities, and what was left out so far
pub record Stage : Type 0 where
  pub entities : Entities
  pub issues : List Issue

abbrev pub coded_stage : Coded Stage
coded_stage = code_by (Entities × List Issue) (coded× (map.code coded_name entity.the_row.coded) (coded_list issue.the_row.coded))
    (λ s. (s.entities, s.issues)) (λ p. record { entities = p.0; issues = p.1 }) (λ _. refl)
