-- What the calls tell: what was read, or a refusal, or nothing where memory ran out.
use Rattle.std.specs.Prelude.{◌≡◌, ℕ, Result, Ok, Err}
use Rattle.eb_json.specs.declared.faults.FormFault.{FormFault}
use Rattle.eb_json.specs.declared.faults.FormFault.TheVariants as form
use Rattle.eb_scene.specs.declared.edits.EditFault.{EditFault}
use Rattle.eb_scene.specs.declared.edits.EditFault.TheVariants as edit
use Rattle.eb_scene.specs.Projects.{Content}
use Rattle.eb_scene_text.specs.declared.faults.ReadFault.{ReadFault}
use Rattle.eb_scene_text.specs.declared.faults.ReadFault.TheVariants as read
use Rattle.eb_scene_text.specs.declared.faults.ProjectFault.{ProjectFault}
use Rattle.eb_scene_text.specs.declared.faults.ProjectFault.TheVariants as project

-- ---- edits

abbrev pub of_request : FormFault → ReadFault
of_request form.Memory = read.Memory
of_request (form.Wrong place) = read.BadRequest place

abbrev pub RefusesRequest : {X : Type 0} → ReadFault → Result X FormFault → Type 0
RefusesRequest read.Memory was = Unit {0}
RefusesRequest (read.BadRequest place) was = was ≡ Err (form.Wrong place)

-- What a call answered is what the form reads, unless memory ran out.
abbrev pub TellsRequest : {X : Type 0} → Result X ReadFault → Result X FormFault → Type 0
TellsRequest (Ok x) was = was ≡ Ok x
TellsRequest (Err fault) was = RefusesRequest fault was

-- ---- projects

abbrev pub of_form : FormFault → ProjectFault
of_form form.Memory = project.Memory
of_form (form.Wrong place) = project.NotForm place

-- what was read of a form
abbrev pub read_as : {X : Type 0} → Result X FormFault → Result X ProjectFault
read_as (Ok x) = Ok x
read_as (Err fault) = Err (of_form fault)

abbrev pub Refuses : {X : Type 0} → ProjectFault → Result X ProjectFault → Type 0
Refuses project.Memory want = Unit {0}
Refuses (project.NotForm place) want = want ≡ Err (project.NotForm place)
Refuses (project.Rule index fault) want = want ≡ Err (project.Rule index fault)

-- What a call answered is what is wanted, unless memory ran out.
abbrev pub Tells : {X : Type 0} → Result X ProjectFault → Result X ProjectFault → Type 0
Tells (Ok x) want = want ≡ Ok x
Tells (Err fault) want = Refuses fault want

-- the refusal of an edit of this number
abbrev pub refused_as : ℕ → EditFault → ProjectFault
refused_as index edit.Memory = project.Memory
refused_as index fault = project.Rule index fault

-- What a call made of a project is what is wanted, unless memory ran out.
abbrev pub Makes : {T : Type 0} → Result T ProjectFault → Content → Result Content ProjectFault → Type 0
Makes (Ok _) new want = want ≡ Ok new
Makes (Err fault) new want = Refuses fault want
