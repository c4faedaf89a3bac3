-- The session as a machine: a line and a state give a reply, a new state and the files of the folder.
use Rattle.std.specs.Prelude.{◌≡◌, ℕ, ◌≤◌, ◌==◌, ◌&&◌, IfSome, IsSomeAnd, Contains, ◌+◌, ◌++◌, Bool, true, false, not, Option, None, Some, Result, Ok, Err, List, length, codes, refl}
use Rattle.std.specs.Fmt.{decimal}
use Rattle.std.specs.FinMap.{code, get, insert, len}
use Rattle.std.specs.Coded.{Coded, code_by, coded×, coded_option, coded_bool, coded_ℕ}
use Rattle.std.specs.Str.{bytes_eq}
use Rattle.eb_outside.specs.Shelves.{Files}
use Rattle.eb_schema.specs.Schemas.{Types}
use Rattle.eb_file.specs.declared.images.Image.{Image}
use Rattle.eb_file.specs.Spelling.{spelling}
use Rattle.eb_file.specs.Images.{IsValid, names_of}
use Rattle.eb_base.specs.declared.names.Name.{Name}
use Rattle.eb_base.specs.Names.{coded_name}
use Rattle.eb_schema.specs.declared.rows.Cell.{Cell}
use Rattle.eb_world.specs.Worlds.{Live, Living, living_code, tagged}
use Rattle.eb_query.specs.EntityText.{entity_lines}
use Rattle.eb_scene.specs.declared.edits.Edit.{Edit}
use Rattle.eb_scene.specs.declared.edits.EditFault.{EditFault}
use Rattle.eb_scene.specs.Projects.{Content}
use Rattle.eb_scene.specs.Edits.{edited}
use Rattle.eb_scene_text.specs.ProjectText.{canonical}
use Rattle.eb_rules.specs.Kept.{Kept, coded_kept}
use Rattle.eb_eval.specs.Runs.{runs_of}
use Rattle.eb_rerun.specs.Recorded.{rerun}
use Rattle.eb_bake.specs.Baking.{issues_of}
use Rattle.eb_bake.specs.IssueTexts.{issue_lines}
use Rattle.eb_stream.specs.Loading.{AllOf, HasNumbersAlone, loaded, unloaded}
use Rattle.eb_session.specs.Images.{the_place, image_in}
use Rattle.eb_session.specs.Requests.{request_of}
use Rattle.eb_session.specs.Replies.{rebaked_text, published_text, loaded_text, unloaded_text, dumped_text, issues_text, project_reply, edit_refused_text, no_request_text, not_yet_text, no_section_text, already_loaded_text, not_loaded_text}
use Rattle.eb_session.specs.declared.requests.Request.{Request}
use Rattle.eb_session.specs.declared.requests.Request.TheVariants as request
use Rattle.eb_session.specs.declared.requests.RequestFault.{RequestFault}

-- The rules, the project, the number of the last publication (0 before the first), the image of section 1:0 as last
-- published, whether it is loaded, what lives in the world, and how many entities were ever made there.
pub record State : Type 0 where
  pub rules : Kept
  pub project : Content
  pub generation : ℕ
  pub published : Option Image
  pub is_loaded : Bool
  pub live : Live
  pub made : ℕ

pub record Step : Type 0 where
  pub reply : List ℕ
  pub state : State
  pub files : Files

abbrev pub step : List ℕ → State → Files → Step
step reply state files = record { reply = reply; state = state; files = files }

-- the bytes that a section's file has
unfoldable pub bytes_of : Types → Image → List ℕ
bytes_of types image = spelling types image

-- the name of the file of section 1:0 that a publication writes
unfoldable pub section_name : ℕ → List ℕ
section_name generation = codes "g" ++ decimal generation ++ codes "-1-0.sec"

-- ---- publications

-- whether these bytes differ from the published ones, or none are published
abbrev pub is_changed : Types → Option Image → List ℕ → Bool
is_changed types None bytes = true
is_changed types (Some image) bytes = not (bytes_eq (bytes_of types image) bytes)

-- what lives once another image of the section is published: the section is loaded again where it is loaded
abbrev pub refreshed_live : Bool → Live → Image → Live
refreshed_live false live image = live
refreshed_live true live image = loaded (unloaded live the_place) image

-- and how many entities were made by then
abbrev pub refreshed_made : Bool → ℕ → Image → ℕ
refreshed_made false made image = made
refreshed_made true made image = made + length image.rows

abbrev pub times_loaded : Bool → ℕ
times_loaded false = 0
times_loaded true = 1

-- A publication that changes the section writes its file under the new generation, and loads the section again
-- where it is loaded.
abbrev pub publication : Bool → Image → ℕ → State → Files → Step
publication true image generation state files =
    step (published_text generation 1 (times_loaded state.is_loaded))
    (record {
      rules = state.rules;
      project = state.project;
      generation = generation;
      published = Some image;
      is_loaded = state.is_loaded;
      live = refreshed_live state.is_loaded state.live image;
      made = refreshed_made state.is_loaded state.made image;
    })
    (insert files (section_name generation) (bytes_of state.project.schema image))
publication false image generation state files =
    step (published_text generation 0 0)
    (record { rules = state.rules; project = state.project; generation = generation; published = state.published; is_loaded = state.is_loaded; live = state.live; made = state.made }) files

abbrev pub published_as : Option Image → State → Files → Step
published_as (Some image) state files =
    publication (is_changed state.project.schema state.published (bytes_of state.project.schema image)) image (state.generation + 1) state files
published_as None state files = step not_yet_text state files

-- the image of the project as it stands; a project of another form isn't published yet
unfoldable pub published : State → Files → Step
published state files = published_as (image_in state.rules state.project) state files

-- ---- edits

-- the state with another project
abbrev pub with_project : State → Content → State
with_project state project =
    record { rules = state.rules; project = project; generation = state.generation; published = state.published; is_loaded = state.is_loaded; live = state.live; made = state.made }

-- an edit is accepted, or the first rule that it breaks is the reply
abbrev pub edit_ended : Edit → Result Content EditFault → State → Files → Step
edit_ended edit (Ok project) state files =
    step (rebaked_text (length (rerun state.rules state.project edit project)) (length (runs_of state.rules project))) (with_project state project) files
edit_ended edit (Err fault) state files = step (edit_refused_text fault) state files

abbrev pub edit_step : Edit → State → Files → Step
edit_step edit state files = edit_ended edit (edited state.project edit) state files

-- what baking left out, as text
abbrev pub issues_step : State → Files → Step
issues_step state files =
    step (issues_text (issue_lines state.project.schema (issues_of state.rules state.project)) (length (issues_of state.rules state.project))) state files

-- the project as text
abbrev pub project_step : State → Files → Step
project_step state files = step (project_reply (canonical state.project)) state files

-- ---- the world

-- the state with another world
abbrev pub with_world : State → Bool → Live → ℕ → State
with_world state is_loaded live made =
    record { rules = state.rules; project = state.project; generation = state.generation; published = state.published; is_loaded = is_loaded; live = live; made = made }

-- the section comes into the world as it was last published
abbrev pub load : Option Image → Bool → State → Files → Step
load None is_loaded state files = step no_section_text state files
load (Some image) true state files = step already_loaded_text state files
load (Some image) false state files =
    step (loaded_text (length image.rows)) (with_world state true (loaded state.live image) (state.made + length image.rows)) files

-- the section leaves the world
abbrev pub unload : Option Image → Bool → State → Files → Step
unload None is_loaded state files = step no_section_text state files
unload (Some image) false state files = step not_loaded_text state files
unload (Some image) true state files =
    step (unloaded_text (length (tagged state.live the_place))) (with_world state false (unloaded state.live the_place) state.made) files

-- what is published of a place
abbrev pub published_at : Bool → Option Image → Option Image
published_at true published = published
published_at false published = None

abbrev pub names_the_place : ℕ → ℕ → Bool
names_the_place scene section = (scene == 1) && (section == 0)

abbrev pub load_step : ℕ → ℕ → State → Files → Step
load_step scene section state files = load (published_at (names_the_place scene section) state.published) state.is_loaded state files

abbrev pub unload_step : ℕ → ℕ → State → Files → Step
unload_step scene section state files = unload (published_at (names_the_place scene section) state.published) state.is_loaded state files

-- every entity of the world, ascending by name
abbrev pub dumped : State → Files → Step
dumped state files = step (dumped_text (entity_lines state.project.schema state.live) (len state.live)) state files

-- ---- lines

abbrev pub performed : Request → State → Files → Step
performed (request.Edit edit) state files = edit_step edit state files
performed request.Publish state files = published state files
performed request.Dump state files = dumped state files
performed request.Issues state files = issues_step state files
performed request.Project state files = project_step state files
performed (request.Load scene section) state files = load_step scene section state files
performed (request.Unload scene section) state files = unload_step scene section state files

abbrev pub replied : Result Request RequestFault → State → Files → Step
replied (Ok asked) state files = performed asked state files
replied (Err fault) state files = step (no_request_text fault) state files

-- a line and its answer
unfoldable pub answered : List ℕ → State → Files → Step
answered line state files = replied (request_of line) state files

-- ---- how many runs of bakers are evaluated

-- an edit that is done evaluates those that it makes anew
abbrev pub evaluated : Kept → Content → Edit → Result Content EditFault → ℕ
evaluated rules project edit (Ok next) = length (rerun rules project edit next)
evaluated rules project edit (Err fault) = 0

abbrev pub request_evaluates : Request → State → ℕ
request_evaluates (request.Edit edit) state = evaluated state.rules state.project edit (edited state.project edit)
request_evaluates request.Publish state = 0
request_evaluates request.Dump state = 0
request_evaluates request.Issues state = 0
request_evaluates request.Project state = 0
request_evaluates (request.Load scene section) state = 0
request_evaluates (request.Unload scene section) state = 0

abbrev pub asked_evaluates : Result Request RequestFault → State → ℕ
asked_evaluates (Ok asked) state = request_evaluates asked state
asked_evaluates (Err fault) state = 0

-- no other line evaluates any
unfoldable pub line_evaluates : List ℕ → State → ℕ
line_evaluates line state = asked_evaluates (request_of line) state

-- ---- what every step keeps

-- an image of the section, which its file can hold
pub record IsSection (types : Types) (image : Image) : Type 0 where
  pub valid : IsValid types image
  pub numbers : HasNumbersAlone image
  pub place : image.place ≡ the_place
  pub count : length image.rows ≤ 65536

-- Each entity of the world is a row of the published image of its section, and that section is loaded.
pub record IsKept (state : State) : Type 0 where
  pub published : IfSome state.published (IsSection state.project.schema)
  pub rows : (name : Name) (l : Living) → get state.live name ≡ Some l → IsSomeAnd state.published (λ image. Contains (names_of image.rows) name)
  pub tags : AllOf (Some the_place) state.live
  pub loaded : (name : Name) (l : Living) → get state.live name ≡ Some l → state.is_loaded ≡ true

-- ---- codes

-- a state as the tuple of its parts
abbrev pub state_code : Coded Content → Coded (List Cell) → Coded Image → Coded State
state_code project row image =
    code_by (Kept × (Content × (ℕ × (Option Image × (Bool × (Live × ℕ))))))
    (coded× coded_kept (coded× project (coded× coded_ℕ (coded× (coded_option image) (coded× coded_bool (coded× (code coded_name (living_code row)) coded_ℕ))))))
    (λ s. (s.rules, (s.project, (s.generation, (s.published, (s.is_loaded, (s.live, s.made)))))))
    (λ p.
    record { rules = p.0; project = p.1.0; generation = p.1.1.0; published = p.1.1.1.0; is_loaded = p.1.1.1.1.0; live = p.1.1.1.1.1.0; made = p.1.1.1.1.1.1 })
    (λ _. refl)
