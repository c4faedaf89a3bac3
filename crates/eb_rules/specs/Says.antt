-- What a text says: its tokens are in the grammar as a tree, and the tree is well typed.
use Rattle.std.specs.Prelude.{◌≡◌, ℕ, List, Result, Ok, Err}
use Rattle.eb_rule_text.specs.declared.trees.{RulesTree.RulesTree, JobTree.JobTree}
use Rattle.eb_rule_text.specs.{Grammar.IsRules, Grammar.IsJob, Passes.Spells}
use Rattle.eb_schema.specs.Schemas.{Types}
use Rattle.eb_rules.specs.declared.faults.RuleFault.TheVariants.{Memory}
use Rattle.eb_rules.specs.declared.faults.RuleFault.{RuleFault}
use Rattle.eb_rules.specs.{Kept.Kept, Kept.KeptJob, Scopes.Text, Meanings.AreWellTyped, Meanings.IsWellTyped}

pub record SaysRules (types : Types) (text : Text) (tree : RulesTree) : Type 0 where
  pub places : List ℕ
  pub grammar : Spells IsRules text tree places
  pub typed : AreWellTyped types tree

pub record SaysJob (types : Types) (text : Text) (tree : JobTree) : Type 0 where
  pub places : List ℕ
  pub grammar : Spells IsJob text tree places
  pub typed : IsWellTyped types tree

-- rules are read as this tree, unless memory fails
abbrev pub AreReadAs : Result Kept RuleFault → RulesTree → Type 0
AreReadAs (Ok rules) told = rules.tree ≡ told
AreReadAs (Err fault) told = fault ≡ Memory

-- a job is read as this one, unless memory fails
abbrev pub IsReadAs : Result KeptJob RuleFault → JobTree → Type 0
IsReadAs (Ok job) told = job.tree ≡ told
IsReadAs (Err fault) told = fault ≡ Memory
