-- The runs of an object and what came of them, as they are kept.
use Rattle.std.specs.Prelude.{List, [], ◌∷◌, flat_map, Option, Some, None}
use Rattle.std.specs.FinMap.{get}
use Rattle.eb_eval.specs.Ran.{Ran}
use Rattle.eb_eval.specs.declared.ids.RunId.{RunId}
use Rattle.eb_merge.specs.Objects.{IdRun}
use Rattle.eb_record.specs.Records.{Kept, run_name}

abbrev pub beside : RunId → Option Ran → List IdRun
beside id None = []
beside id (Some ran) = (id, ran) ∷ []

-- a run, if it is kept
abbrev pub kept_run : Kept → RunId → List IdRun
kept_run kept id = beside id (get kept (run_name id))

-- those of these runs that are kept
abbrev pub kept_runs : Kept → List RunId → List IdRun
kept_runs kept ids = flat_map (kept_run kept) ids
