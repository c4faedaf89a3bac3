-- The state in which a session begins, from the files of the folder, or the line that refuses one of them.
use Rattle.std.specs.Prelude.{◌≡◌, ℕ, false, Option, None, Some, Result, Ok, Err, List, codes, ⊤}
use Rattle.std.specs.FinMap.{get, empty}
use Rattle.serde_json.specs.Data.{Data}
use Rattle.eb_outside.specs.Shelves.{Files}
use Rattle.eb_json.specs.Documents.{document_of}
use Rattle.eb_schema.specs.Schemas.{Types}
use Rattle.eb_schema.specs.SchemaTests.{schema_of}
use Rattle.eb_scene.specs.Projects.{Content}
use Rattle.eb_scene_text.specs.ProjectForm.{project_of}
use Rattle.eb_rule_text.specs.declared.trees.RulesTree.{RulesTree}
use Rattle.eb_rules.specs.declared.faults.Refusal as rule
use Rattle.eb_rules.specs.Kept.{Kept}
use Rattle.eb_rules.specs.Queries.{rules_of}
use Rattle.eb_session.specs.Refusals.{refused_line, schema_refusal, rules_refusal, told_refusal, project_refusal}
use Rattle.eb_session.specs.Machine.{State}
use Rattle.eb_session.specs.declared.errors.Refusal.{Refusal}
use Rattle.eb_session.specs.declared.errors.Refusal.TheVariants as refusal
use Rattle.eb_session.specs.declared.errors.Refusal.TheVariants.{Line}
use Rattle.eb_session.specs.declared.errors.OpenEnd.{OpenEnd}
use Rattle.eb_session.specs.declared.errors.OpenEnd.TheVariants.{Memory, Shelf, Refused}

-- ---- one file

-- the document of a file, or the line that refuses it: it is missing, or no JSON
abbrev pub parsed : List ℕ → Option Data → Result Data (List ℕ)
parsed file None = Err (refused_line file (codes "BadJson"))
parsed file (Some d) = Ok d

abbrev pub document_in : List ℕ → Option (List ℕ) → Result Data (List ℕ)
document_in file None = Err (refused_line file (codes "Missing"))
document_in file (Some bytes) = parsed file (document_of bytes)

-- what a document was read as, or the line that refuses its file
abbrev pub or_refused : {X E : Type 0} → List ℕ → (E → List ℕ) → Result X E → Result X (List ℕ)
or_refused file words (Ok x) = Ok x
or_refused file words (Err fault) = Err (refused_line file (words fault))

abbrev pub and_then : {X Y : Type 0} → Result X (List ℕ) → (X → Result Y (List ℕ)) → Result Y (List ℕ)
and_then (Ok x) f = f x
and_then (Err line) f = Err line

-- ---- the folder

unfoldable pub schema_in : Option (List ℕ) → Result Types (List ℕ)
schema_in found = and_then (document_in (codes "schema.json") found) (λ d. or_refused (codes "schema.json") schema_refusal (schema_of d))

-- the rules that were read under a schema
abbrev pub kept_with : Types → RulesTree → Kept
kept_with types tree = record { schema = types; tree = tree }

-- what a text was read as, or the line that refuses `bake.rules`
abbrev pub read_rules : Types → Result RulesTree rule.Refusal → Result Kept (List ℕ)
read_rules types (Ok tree) = Ok (kept_with types tree)
read_rules types (Err refusal) = Err (refused_line (codes "bake.rules") (rules_refusal (told_refusal refusal)))

unfoldable pub rules_in : Types → Option (List ℕ) → Result Kept (List ℕ)
rules_in types None = Err (refused_line (codes "bake.rules") (codes "Missing"))
rules_in types (Some text) = read_rules types (rules_of types text)

unfoldable pub project_in : Types → Option (List ℕ) → Result Content (List ℕ)
project_in types found = and_then (document_in (codes "project.json") found) (λ d. or_refused (codes "project.json") project_refusal (project_of types d))

-- nothing is published, and nothing lives
abbrev pub first_state : Kept → Content → State
first_state rules project = record { rules = rules; project = project; generation = 0; published = None; is_loaded = false; live = empty; made = 0 }

-- the project under this schema and these rules
abbrev pub with_rules : Types → Files → Kept → Result State (List ℕ)
with_rules types files rules = and_then (project_in types (get files (codes "project.json"))) (λ project. Ok (first_state rules project))

-- the rules under this schema, and then the project
abbrev pub with_schema : Files → Types → Result State (List ℕ)
with_schema files types = and_then (rules_in types (get files (codes "bake.rules"))) (with_rules types files)

-- the first state, or the line of the first refusal: `schema.json` comes first, then `bake.rules`, and then `project.json`
unfoldable pub opened : Files → Result State (List ℕ)
opened files = and_then (schema_in (get files (codes "schema.json"))) (with_schema files)

-- a refusal that is this line, unless memory ran out
abbrev pub IsLine : Refusal → List ℕ → Type 0
IsLine (Line line) text = line ≡ text
IsLine refusal.Memory text = ⊤

-- What a call read, seen by view: what the files say, or the line that refuses them; want of memory and faults of the
-- shelf say nothing.
abbrev pub ReadsAs : {X Y : Type 0} → (X → Y) → Result X Refusal → Result Y (List ℕ) → Type 0
ReadsAs view (Ok x) want = want ≡ Ok (view x)
ReadsAs view (Err (Line line)) want = want ≡ Err line
ReadsAs view (Err refusal.Memory) want = ⊤

-- the same for a call that asks the shelf
abbrev pub Opens : {X Y : Type 0} → (X → Y) → Result X OpenEnd → Result Y (List ℕ) → Type 0
Opens view (Ok x) want = want ≡ Ok (view x)
Opens view (Err (Refused line)) want = want ≡ Err line
Opens view (Err Memory) want = ⊤
Opens view (Err Shelf) want = ⊤

-- what an opening answers, where the files say this
abbrev pub OpensAs : Result State OpenEnd → Result State (List ℕ) → Type 0
OpensAs result want = Opens (λ (s : State). s) result want
