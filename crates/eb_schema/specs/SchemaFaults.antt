-- What a call told: a value, or a refusal, or nothing where memory ran out.
use Rattle.std.specs.Prelude.{◌≡◌, Result, Ok, Err}
use Rattle.eb_json.specs.declared.faults.FormFault.{FormFault}
use Rattle.eb_json.specs.declared.faults.FormFault.TheVariants as form
use Rattle.eb_schema.specs.declared.faults.SchemaFault.{SchemaFault}
use Rattle.eb_schema.specs.declared.faults.SchemaFault.TheVariants.{Memory, NotForm, NameTaken, NumberTaken, TooMany, BadKind, CopyMismatch}

abbrev pub of_form : FormFault → SchemaFault
of_form form.Memory = Memory
of_form (form.Wrong place) = NotForm place

-- what was read of a form
abbrev pub read_as : {X : Type 0} → Result X FormFault → Result X SchemaFault
read_as (Ok x) = Ok x
read_as (Err fault) = Err (of_form fault)

abbrev pub Refuses : {Y : Type 0} → SchemaFault → Result Y SchemaFault → Type 0
Refuses Memory made = Unit {0}
Refuses (NotForm place) made = made ≡ Err (NotForm place)
Refuses (NameTaken place) made = made ≡ Err (NameTaken place)
Refuses (NumberTaken place) made = made ≡ Err (NumberTaken place)
Refuses (TooMany place) made = made ≡ Err (TooMany place)
Refuses (BadKind place) made = made ≡ Err (BadKind place)
Refuses (CopyMismatch place) made = made ≡ Err (CopyMismatch place)

-- What a call answered is what was to be made, unless memory ran out.
abbrev pub Tells : {X : Type 0} → Result X SchemaFault → Result X SchemaFault → Type 0
Tells (Ok x) made = made ≡ Ok x
Tells (Err fault) made = Refuses fault made
