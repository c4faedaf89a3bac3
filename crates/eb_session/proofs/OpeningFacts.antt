-- What a folder opens as, by what its three files hold.
use Rattle.std.proofs.Common.{◌≡◌, ℕ, ◌+◌, List, [], ◌∷◌, refl, sym, ap, subst, ◌∙◌, codes}
use Rattle.serde_json.specs.Data.{Data}
use Rattle.eb_json.specs.Forms.{◌>>=◌}
use Rattle.eb_scene.specs.declared.edits.Edit.{Edit}
use Rattle.eb_scene.specs.declared.edits.EditFault.{EditFault}
use Rattle.eb_scene.specs.Edits.{edited}
use Rattle.eb_scene.specs.Rebuilding.{after_edit, all_edited}
use Rattle.eb_scene_text.specs.declared.drafts.DraftProject.{DraftProject}
use Rattle.eb_scene_text.specs.ProjectForm.{draft_at, draft_edits, without_all, made_by, project_of}
use Rattle.eb_bake.proofs.KeptSchema.{edited-schema}
use Rattle.std.specs.Prelude.{Option, None, Some, IfSome, IfOk, Result, Ok, Err}
use Rattle.std.specs.FinMap.{get}
use Rattle.eb_outside.specs.Shelves.{Files}
use Rattle.eb_schema.specs.Schemas.{Types}
use Rattle.eb_schema.specs.declared.faults.SchemaFault.{SchemaFault}
use Rattle.eb_schema.specs.declared.faults.SchemaFault.TheVariants as schema
use Rattle.eb_schema.specs.SchemaFaults as schema_faults
use Rattle.eb_scene.specs.Projects.{Content}
use Rattle.eb_scene_text.specs.declared.faults.ProjectFault.{ProjectFault}
use Rattle.eb_scene_text.specs.declared.faults.ProjectFault.TheVariants as project
use Rattle.eb_scene_text.specs.ReadFaults as project_faults
use Rattle.eb_session.specs.declared.errors.Refusal.{Refusal}
use Rattle.eb_session.specs.declared.errors.Refusal.TheVariants.{Memory, Line}
use Rattle.eb_rule_text.specs.declared.trees.RulesTree.{RulesTree}
use Rattle.eb_rules.specs.declared.faults.Refusal as refused
use Rattle.eb_rules.specs.declared.faults.RuleFault.{RuleFault}
use Rattle.eb_rules.specs.declared.faults.RuleFault.TheVariants as rule
use Rattle.eb_rules.specs.Kept.{Kept}
use Rattle.eb_rules.specs.Queries.{Tells}
use Rattle.eb_session.specs.Refusals.{refused_line, rules_refusal, project_refusal}
use Rattle.eb_session.specs.Machine.{State}
use Rattle.eb_session.specs.Opening.{first_state, schema_in, read_rules, project_in, with_rules, with_schema, and_then, or_refused, IsLine, ReadsAs, Opens, opened}
use Rattle.eb_session.specs.declared.errors.OpenEnd.{OpenEnd}
use Rattle.eb_session.specs.declared.errors.OpenEnd.TheVariants as opening
use Rattle.eb_session.specs.declared.errors.OpenEnd.TheVariants.{Refused, Shelf}

-- ---- one file

refused_as : {X E : Type 0} (file : List ℕ) (words : E → List ℕ) (fault : E) (made : Result X E) (r : Refusal) → made ≡ Err fault → IsLine r (refused_line file (words fault)) → ReadsAs (λ (x : X). x) (Err r) (or_refused file words made)
refused_as file words fault made Memory is line = tt
refused_as file words fault made (Line text) is line = ap (or_refused file words) is ∙ ap Err (sym line)

memory_as : {X : Type 0} (r : Refusal) (want : Result X (List ℕ)) → r ≡ Memory → ReadsAs (λ (x : X). x) (Err r) want
memory_as r want is = rw is tt

-- a document that is no schema is refused by its fault
pub schema-refused : (file : List ℕ) (words : SchemaFault → List ℕ) (fault : SchemaFault) (made : Result Types SchemaFault) (r : Refusal) → schema_faults.Refuses fault made → (fault ≡ schema.Memory → r ≡ Memory) → IsLine r (refused_line file (words fault)) → ReadsAs (λ (t : Types). t) (Err r) (or_refused file words made)
schema-refused file words schema.Memory made r refuses memory line = memory_as r (or_refused file words made) (memory refl)
schema-refused file words (schema.NotForm place) made r refuses memory line = refused_as file words (schema.NotForm place) made r refuses line
schema-refused file words (schema.NameTaken place) made r refuses memory line = refused_as file words (schema.NameTaken place) made r refuses line
schema-refused file words (schema.NumberTaken place) made r refuses memory line = refused_as file words (schema.NumberTaken place) made r refuses line
schema-refused file words (schema.TooMany place) made r refuses memory line = refused_as file words (schema.TooMany place) made r refuses line
schema-refused file words (schema.BadKind place) made r refuses memory line = refused_as file words (schema.BadKind place) made r refuses line
schema-refused file words (schema.CopyMismatch place) made r refuses memory line = refused_as file words (schema.CopyMismatch place) made r refuses line

-- a document that is no project is refused by its fault
pub project-refused : (file : List ℕ) (words : ProjectFault → List ℕ) (fault : ProjectFault) (made : Result Content ProjectFault) (r : Refusal) → project_faults.Refuses fault made → (fault ≡ project.Memory → r ≡ Memory) → IsLine r (refused_line file (words fault)) → ReadsAs (λ (t : Content). t) (Err r) (or_refused file words made)
project-refused file words project.Memory made r refuses memory line = memory_as r (or_refused file words made) (memory refl)
project-refused file words (project.NotForm place) made r refuses memory line = refused_as file words (project.NotForm place) made r refuses line
project-refused file words (project.Rule index fault) made r refuses memory line = refused_as file words (project.Rule index fault) made r refuses line

-- a text that is no rules is refused by its fault
pub rules-refused : (types : Types) (fault : RuleFault) (made : Result RulesTree refused.Refusal) (r : Refusal) → Tells made fault → (fault ≡ rule.Memory → r ≡ Memory) → IsLine r (refused_line (codes "bake.rules") (rules_refusal fault)) → ReadsAs (λ (k : Kept). k) (Err r) (read_rules types made)
rules-refused types rule.Memory made r tells memory line = memory_as r (read_rules types made) (memory refl)
rules-refused types (rule.At at kind) made Memory tells memory line = tt
rules-refused types (rule.At at kind) made (Line text) tells memory line =
    ap (read_rules types) tells.1.0 ∙ ap (λ n. Err (refused_line (codes "bake.rules") (rules_refusal (rule.At n kind)))) (sym tells.1.1) ∙ ap Err (sym line)

-- ---- the schema of a project

after-schema : (g h : Content) (e : Edit) (rest : Content → Result Content (ℕ × EditFault)) (index : ℕ) (made : Result Content EditFault) → edited g e ≡ made → ((m : Content) → rest m ≡ Ok h → h.schema ≡ m.schema) → after_edit index made rest ≡ Ok h → h.schema ≡ g.schema
after-schema g h e rest index (Ok m) is onward all = onward m all ∙ edited-schema g m e is
after-schema g h e rest index (Err refusal) is onward all = absurd (cc)

all_edited-schema : (index : ℕ) (g h : Content) (es : List Edit) → all_edited index g es ≡ Ok h → h.schema ≡ g.schema
all_edited-schema index g h [] all = let e : g ≡ h = cc in ap (λ (c : Content). c.schema) (sym e)
all_edited-schema index g h (e ∷ es) all = after-schema g h e (λ m. all_edited (index + 1) m es) index (edited g e) refl (λ m more. all_edited-schema (index + 1) m h es more) all

made_by-schema : (types : Types) (h : Content) (made : Result Content (ℕ × EditFault)) → ((m : Content) → made ≡ Ok m → m.schema ≡ types) → made_by made ≡ Ok h → h.schema ≡ types
made_by-schema types h (Ok m) kept is = let e : m ≡ h = cc in ap (λ (c : Content). c.schema) (sym e) ∙ kept m refl
made_by-schema types h (Err refusal) kept is = absurd (cc)

drafted-schema : (types : Types) (h : Content) (draft : Result DraftProject ProjectFault) → (draft >>= λ p. made_by (all_edited 0 (without_all types) (draft_edits p))) ≡ Ok h → h.schema ≡ types
drafted-schema types h (Ok p) is = made_by-schema types h (all_edited 0 (without_all types) (draft_edits p)) (λ m all. all_edited-schema 0 (without_all types) m (draft_edits p) all) is
drafted-schema types h (Err fault) is = absurd (cc)

project_of-schema : (types : Types) (d : Data) (h : Content) → project_of types d ≡ Ok h → h.schema ≡ types
unfolding project_of
project_of-schema types d h is = drafted-schema types h (project_faults.read_as (draft_at 0 d)) is

refused-schema : (types : Types) (h : Content) (file : List ℕ) (words : ProjectFault → List ℕ) (made : Result Content ProjectFault) → ((m : Content) → made ≡ Ok m → m.schema ≡ types) → or_refused file words made ≡ Ok h → h.schema ≡ types
refused-schema types h file words (Ok m) kept is = let e : m ≡ h = cc in ap (λ (c : Content). c.schema) (sym e) ∙ kept m refl
refused-schema types h file words (Err fault) kept is = absurd (cc)

-- what was read of a document has the schema that it was read under
pub read-keeps : (types : Types) (d : Data) (result : Result Content Refusal) → ReadsAs (λ (g : Content). g) result (or_refused (codes "project.json") project_refusal (project_of types d)) → IfOk result (λ (g : Content). g.schema ≡ types)
read-keeps types d (Ok g) read = refused-schema types g (codes "project.json") project_refusal (project_of types d) (λ m made. project_of-schema types d m made) read
read-keeps types d (Err r) read = tt

-- ---- the folder

-- what a file reads as, where the shelf tells it
pub opens-found : {X : Type 0} (want : Option (List ℕ) → Result X (List ℕ)) (name : List ℕ) (files : Option Files) (found : Option (List ℕ)) (x : X) → IfSome files (λ f. found ≡ get f name) → want found ≡ Ok x → IfSome files (λ f. want (get f name) ≡ Ok x)
opens-found want name None found x read is = tt
opens-found want name (Some files) found x read is = ap want (sym read) ∙ is

-- where a file was read, what comes of the folder is what comes of the files behind it
pub then_opens : {X Y Z : Type 0} (want : Files → Result X (List ℕ)) (next : Files → X → Result Y (List ℕ)) (view : Z → Y) (files : Option Files) (x : X) (result : Result Z OpenEnd)
    → IfSome files (λ f. want f ≡ Ok x) → IfSome files (λ f. Opens view result (next f x)) → IfSome files (λ f. Opens view result (and_then (want f) (next f)))
then_opens want next view None x result read rest = tt
then_opens want next view (Some files) x result read rest = subst (λ r. Opens view result (and_then r (next files))) (sym read) rest

refused_all : {X Y Z : Type 0} (view : Z → Y) (end : OpenEnd) (found : Result X (List ℕ)) (next : X → Result Y (List ℕ)) → Opens (λ (x : X). x) (Err end) found → Opens view (Err end) (and_then found next)
refused_all view (Refused line) found next read = ap (λ r. and_then r next) read
refused_all view opening.Memory found next read = tt
refused_all view Shelf found next read = tt

-- where a file wasn't read, nothing comes of the folder
pub none_opens : {X Y Z : Type 0} (want : Files → Result X (List ℕ)) (next : Files → X → Result Y (List ℕ)) (view : Z → Y) (files : Option Files) (end : OpenEnd)
    → IfSome files (λ f. Opens (λ (x : X). x) (Err end) (want f)) → IfSome files (λ f. Opens view (Err end) (and_then (want f) (next f)))
none_opens want next view None end read = tt
none_opens want next view (Some files) end read = refused_all view end (want files) (next files) read

ends_alike : {X Y Z : Type 0} (view : X → Z) (other : Y → Z) (end : OpenEnd) (want : Result Z (List ℕ)) → Opens view (Err end) want → Opens other (Err end) want
ends_alike view other (Refused line) want told = told
ends_alike view other opening.Memory want told = tt
ends_alike view other Shelf want told = tt

-- a folder that doesn't open, whatever it would be seen as
pub still_ends : {X Y Z : Type 0} (view : X → Z) (other : Y → Z) (want : Files → Result Z (List ℕ)) (files : Option Files) (end : OpenEnd) → IfSome files (λ f. Opens view (Err end) (want f)) → IfSome files (λ f. Opens other (Err end) (want f))
still_ends view other want None end told = tt
still_ends view other want (Some files) end told = ends_alike view other end (want files) told

-- the whole folder is what comes behind its schema
pub opened_is : {Z : Type 0} (view : Z → State) (files : Option Files) (result : Result Z OpenEnd)
    → IfSome files (λ f. Opens view result (and_then (schema_in (get f (codes "schema.json"))) (with_schema f))) → IfSome files (λ f. Opens view result (opened f))
unfolding opened
opened_is view files result told = told

project_found : (types : Types) (rules : Kept) (files : Files) (g : Content) → project_in types (get files (codes "project.json")) ≡ Ok g → with_rules types files rules ≡ Ok (first_state rules g)
project_found types rules files g read = ap (λ r. and_then r (λ p. Ok (first_state rules p))) read

-- the project is read, under rules
pub rules_open : (types : Types) (rules : Kept) (files : Option Files) (g : Content) → IfSome files (λ f. project_in types (get f (codes "project.json")) ≡ Ok g) → IfSome files (λ f. with_rules types f rules ≡ Ok (first_state rules g))
rules_open types rules None g read = tt
rules_open types rules (Some files) g read = project_found types rules files g read
