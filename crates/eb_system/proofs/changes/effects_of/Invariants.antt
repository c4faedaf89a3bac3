use Rattle.std.proofs.Common.{◌≡◌, ◌++◌, flat_map}
use Rattle.std.specs.FinMap.{entries}
use Rattle.eb_system.specs.Stages.{changes_at, issues_at}
use Rattle.eb_system.proofs.changes.effects_of.Given as goal

-- those so far, and those of the entities that are left
abbrev pub invariant-loop-name : goal.invariant-loop-name
invariant-loop-name l = record {
  changes : l.done.changes ++ flat_map (changes_at l.entities l.system) l.name-iterator ≡ flat_map (changes_at l.fn.entities l.fn.system) (entries l.fn.entities);
  issues : l.done.issues ++ flat_map (issues_at l.entities l.system) l.name-iterator ≡ flat_map (issues_at l.fn.entities l.fn.system) (entries l.fn.entities);
}
