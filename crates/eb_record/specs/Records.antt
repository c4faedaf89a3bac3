-- What is kept of runs: what each gave and read, under its name.
use Rattle.std.specs.Prelude.{Bool, List, map, filter}
use Rattle.std.specs.FinMap.{FinMap, entries}
use Rattle.eb_base.specs.Names.{name_cmp}
use Rattle.eb_base.specs.declared.names.Name.{Name}
use Rattle.eb_scene.specs.declared.keys.Key.{Key}
use Rattle.eb_eval.specs.Ran.{Ran}
use Rattle.eb_eval.specs.Reruns.{meets}
use Rattle.eb_eval.specs.declared.ids.RunId.{RunId}

-- the name of a run: that of its object's own entity, with the baker in place of the extra
abbrev pub run_name : RunId → Name
run_name id = record { play = 0; scene = id.scene; object = id.object; extra = id.baker }

-- the run of a name
abbrev pub run_of : Name → RunId
run_of n = record { scene = n.scene; object = n.object; baker = n.extra }

-- what runs gave and read, each under its name
abbrev pub Kept : Type 0
Kept = FinMap name_cmp Ran

-- whether a kept run looked at one of these keys
abbrev pub looked_at : List Key → Name × Ran → Bool
looked_at keys e = meets e.1.keys keys

-- the kept runs that looked at one of these keys, ascending by name: by scene, object and baker
unfoldable pub readers_of : Kept → List Key → List RunId
readers_of kept keys = map (λ e. run_of e.0) (filter (looked_at keys) (entries kept))
