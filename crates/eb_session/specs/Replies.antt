-- The texts that a session answers, each with its line feed.
use Rattle.std.specs.Prelude.{ℕ, ◌++◌, List, [], codes}
use Rattle.std.specs.Fmt.{decimal}
use Rattle.eb_scene.specs.declared.edits.EditFault.{EditFault}
use Rattle.eb_scene.specs.declared.edits.EditFault.TheVariants as edit
use Rattle.eb_session.specs.declared.requests.RequestFault.{RequestFault}
use Rattle.eb_session.specs.declared.requests.RequestFault.TheVariants as request

-- an accepted edit: how many runs it made anew, and how many there are
unfoldable pub rebaked_text : ℕ → ℕ → List ℕ
rebaked_text rerun runs = codes "ok rebaked " ++ decimal rerun ++ codes " of " ++ decimal runs ++ codes "\n"

-- a publication of this generation that wrote so many section files, and loaded so many sections again
unfoldable pub published_text : ℕ → ℕ → ℕ → List ℕ
published_text generation changed reloaded = codes "ok published " ++ decimal generation ++ codes " changed " ++ decimal changed ++ codes " reloaded " ++ decimal reloaded ++ codes "\n"

-- a section whose entities, so many of them, came into the world
unfoldable pub loaded_text : ℕ → List ℕ
loaded_text count = codes "ok loaded " ++ decimal count ++ codes "\n"

-- a section whose entities, so many of them, left the world
unfoldable pub unloaded_text : ℕ → List ℕ
unloaded_text count = codes "ok unloaded " ++ decimal count ++ codes "\n"

-- the lines of all entities, so many of them
unfoldable pub dumped_text : List ℕ → ℕ → List ℕ
dumped_text entities count = entities ++ codes "ok dumped " ++ decimal count ++ codes "\n"

-- the lines of all issues, so many of them
unfoldable pub issues_text : List ℕ → ℕ → List ℕ
issues_text lines count = lines ++ codes "ok issues " ++ decimal count ++ codes "\n"

-- the canonical text of the project
unfoldable pub project_reply : List ℕ → List ℕ
project_reply text = text ++ codes "ok project\n"

-- ---- refusals

-- the rule that an edit breaks; want of memory is none
unfoldable pub edit_refusal : EditFault → List ℕ
edit_refusal edit.Memory = []
edit_refusal edit.NoScene = codes "E3 NoScene"
edit_refusal edit.SceneTaken = codes "E4 SceneTaken"
edit_refusal edit.NoObject = codes "E5 NoObject"
edit_refusal edit.ObjectTaken = codes "E6 ObjectTaken"
edit_refusal edit.NoParent = codes "E7 NoParent"
edit_refusal edit.Cycle = codes "E8 Cycle"
edit_refusal edit.NoType = codes "E9 NoType"
edit_refusal edit.NoComponent = codes "E10 NoComponent"
edit_refusal edit.NoField = codes "E11 NoField"
edit_refusal (edit.BadValue index) = codes "E12 BadValue " ++ decimal index
edit_refusal edit.NoAsset = codes "E13 NoAsset"
edit_refusal edit.AssetLimit = codes "E14 AssetLimit"
edit_refusal edit.ObjectLimit = codes "E15 ObjectLimit"
edit_refusal edit.DepthLimit = codes "E16 DepthLimit"
edit_refusal edit.SectionRange = codes "E17 SectionRange"

unfoldable pub edit_refused_text : EditFault → List ℕ
edit_refused_text fault = edit_refusal fault ++ codes "\n"

-- a line that is no request; want of memory is no such cause
unfoldable pub no_request_text : RequestFault → List ℕ
no_request_text request.Memory = []
no_request_text request.LineTooLong = codes "E1 LineTooLong\n"
no_request_text request.BadJson = codes "E2 BadJson\n"
no_request_text request.NotYet = codes "E2 NotYet\n"
no_request_text (request.BadRequest place) = codes "E2 BadRequest " ++ decimal place ++ codes "\n"

-- a publication of a project that isn't published yet
unfoldable pub not_yet_text : List ℕ
not_yet_text = codes "E2 NotYet\n"

-- a section that isn't published
unfoldable pub no_section_text : List ℕ
no_section_text = codes "E18 NoSection\n"

-- a section that is to be loaded, and is
unfoldable pub already_loaded_text : List ℕ
already_loaded_text = codes "E19 AlreadyLoaded\n"

-- a section that is to be unloaded, and isn't loaded
unfoldable pub not_loaded_text : List ℕ
not_loaded_text = codes "E20 NotLoaded\n"
