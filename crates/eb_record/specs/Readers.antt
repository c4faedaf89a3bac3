-- Which runs looked at a key: what an index of the kept runs has, and the runs that it finds.
use Rattle.std.specs.Prelude.{◌≡◌, Bool, cond, List, [], Option, Some, None, filter, fold}
use Rattle.std.specs.FinMap.{FinMap, empty, entries, get, insert, remove}
use Rattle.std.specs.List.{list_any}
use Rattle.std.specs.Ordering.{ordering_then, eq_by_cmp}
use Rattle.std.specs.declared.cmp.Ordering.{Ordering}
use Rattle.eb_base.specs.Names.{name_cmp}
use Rattle.eb_base.specs.declared.names.Name.{Name}
use Rattle.eb_scene.specs.declared.keys.Key.{Key}
use Rattle.eb_eval.specs.Keys.{variant_of, scene_of, number_of, kind_of}
use Rattle.eb_eval.specs.Ran.{Ran}
use Rattle.eb_eval.specs.declared.ids.RunId.{RunId}
use Rattle.eb_record.specs.Records.{Kept, run_name, run_of}
use Rattle.eb_record.specs.declared.looks.Look.{Look}

-- ---- looks of runs at keys

-- the name of a key: its variant, scene, number and type
abbrev pub key_name : Key → Name
key_name k = record { play = variant_of k; scene = scene_of k; object = number_of k; extra = kind_of k }

-- the look of a run at a key
abbrev pub look_at : RunId → Key → Look
look_at id k = record { key = key_name k; run = run_name id }

-- by key, then by run
abbrev pub look_cmp : Look → Look → Ordering
look_cmp a b = ordering_then (name_cmp a.key b.key) (name_cmp a.run b.run)

-- looks, each with its run
abbrev pub Index : Type 0
Index = FinMap look_cmp RunId

-- with the looks of a run at these keys
abbrev pub with_looks : RunId → Index → List Key → Index
with_looks id looks keys = fold (λ m k. insert m (look_at id k) id) looks keys

-- without the looks of a run at these keys
abbrev pub without_looks : RunId → Index → List Key → Index
without_looks id looks keys = fold (λ m k. remove m (look_at id k)) looks keys

-- ---- the index of the kept runs

-- the keys that a run looked at, none where it isn't kept
abbrev pub reads : Option Ran → List Key
reads None = []
reads (Some ran) = ran.keys

-- whether a run, if it is kept, looked at the key of a name
abbrev pub has_read : Option Ran → Name → Bool
has_read ran key = list_any (λ k. eq_by_cmp name_cmp key (key_name k)) (reads ran)

-- the index has exactly the looks of the kept runs: a run stands under a key where it is kept and its reads have the key, and
-- nothing stands there else
pub record IsIndex (looks : Index) (kept : Kept) : Type 0 where
  pub exact : (l : Look) → get looks l ≡ cond (has_read (get kept l.run) l.key) (Some (run_of l.run)) None

-- ---- what is found in it

-- runs that were found, each under its name
abbrev pub Found : Type 0
Found = FinMap name_cmp RunId

-- the looks at the key of a name, ascending by run
abbrev pub looks_under : Index → Name → List (Look × RunId)
looks_under looks key = filter (λ e. eq_by_cmp name_cmp key e.0.key) (entries looks)

abbrev pub with_run : Found → Look × RunId → Found
with_run found e = insert found e.0.run e.1

-- with the runs that looked at a key
abbrev pub with_readers : Index → Found → Key → Found
with_readers looks found k = fold with_run found (looks_under looks (key_name k))

-- the runs that looked at one of these keys
abbrev pub found_in : Index → List Key → Found
found_in looks keys = fold (with_readers looks) empty keys
