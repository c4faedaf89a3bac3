-- What rules and jobs are to their callers: the schema that they were read with, and the tree that was read.
use Rattle.std.specs.Prelude.{refl}
use Rattle.std.specs.{Coded.Coded, Coded.code_by, Coded.coded×}
use Rattle.eb_rule_text.specs.declared.trees.{RulesTree.RulesTree, JobTree.JobTree}
use Rattle.eb_rule_text.specs.contracts.trees.RulesTree as tree
use Rattle.eb_rule_text.specs.contracts.trees.JobTree as job_tree
use Rattle.eb_schema.specs.contracts.schemas.Schema as documented
use Rattle.eb_schema.specs.Schemas.{Types}

pub record Kept : Type 0 where
  pub schema : Types
  pub tree : RulesTree

abbrev pub coded_kept : Coded Kept
coded_kept = code_by (Types × RulesTree) (coded× documented.the_row.coded tree.the_row.coded) (λ k. (k.schema, k.tree)) (λ p.
    record { schema = p.0; tree = p.1 }) (λ _. refl)

pub record KeptJob : Type 0 where
  pub schema : Types
  pub tree : JobTree

abbrev pub coded_job : Coded KeptJob
coded_job = code_by (Types × JobTree) (coded× documented.the_row.coded job_tree.the_row.coded) (λ k. (k.schema, k.tree)) (λ p.
    record { schema = p.0; tree = p.1 }) (λ _. refl)
