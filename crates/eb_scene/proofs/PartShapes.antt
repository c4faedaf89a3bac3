-- What an edit of a component that isn't refused makes: another object in the place of one, where at most the component of the named type differs.
use Rattle.std.proofs.Common.{◌≡◌, ℕ, List, not, Option, Some, None, is_some, Result, Ok, Err, if◌then◌else◌, refl}
use Rattle.eb_schema.specs.declared.kinds.Authoring.{Authoring}
use Rattle.eb_schema.specs.Schemas.{Types}
use Rattle.eb_scene.specs.declared.objects.Object.{Object}
use Rattle.eb_scene.specs.declared.edits.Raw.{Raw}
use Rattle.eb_scene.specs.declared.edits.RawField.{RawField}
use Rattle.eb_scene.specs.declared.edits.EditFault.{EditFault}
use Rattle.eb_scene.specs.declared.edits.EditFault.TheVariants as fault
use Rattle.eb_scene.specs.declared.objects.Part.{Part}
use Rattle.eb_scene.specs.declared.objects.Given.{Given}
use Rattle.eb_scene.specs.Fits.{fitted, field_fitted}
use Rattle.eb_scene.specs.Projects.{Objects, numbered, part_of}
use Rattle.eb_scene.specs.Tables.{changed}
use Rattle.eb_scene.specs.Edits.{is_full, on_object, on_type, and_so, type_named, component_put, component_removed, field_set, with_part, without_part, with_value}
use Rattle.eb_scene.proofs.EditShapes.{refused, told_ok}
use Rattle.eb_scene.proofs.TouchedParts.{KeepsParents, ChangesPart, put_changes, taken_changes, value_changes}

module _ {S : Type 0} where
  object_found : (r : Option Object) (f : Object → Result S EditFault) (x : S) → on_object r f ≡ Ok x → (o : Object) × (f o ≡ Ok x)
  object_found None f x h = absurd cc
  object_found (Some o) f x h = (o, h)

  type_found : (r : Option Authoring) (f : Authoring → Result S EditFault) (x : S) → on_type r f ≡ Ok x → (a : Authoring) × (r ≡ Some a) × (f a ≡ Ok x)
  type_found None f x h = absurd cc
  type_found (Some a) f x h = (a, refl, h)

  pub value_found : {V : Type 0} (r : Result V EditFault) (f : V → Result S EditFault) (x : S) → and_so r f ≡ Ok x → (v : V) × (f v ≡ Ok x)
  value_found (Ok v) f x h = (v, h)
  value_found (Err e) f x h = absurd cc

pub record ByPart (types : Types) (name : List ℕ) (n : ℕ) (es new : Objects) : Type 0 where
  pub a : Authoring
  pub f : Object → Object
  pub named : type_named types name ≡ Some a
  pub keeps : KeepsParents f
  pub changes : ChangesPart a.number f
  pub is : new ≡ changed f es n

-- ---- a component put

module _ (types : Types) (es : Objects) (n : ℕ) (name : List ℕ) (raws : List RawField) where
  abbrev put_valued : Object → Authoring → List Given → Result Objects EditFault
  put_valued o a values = if is_full o a.number then Err fault.ObjectLimit else Ok (changed (with_part (record { kind = a.number; values = values })) es n)

  abbrev put_typed : Object → Authoring → Result Objects EditFault
  put_typed o a = and_so (fitted a.fields raws) (put_valued o a)

  abbrev put_found : Object → Result Objects EditFault
  put_found o = on_type (type_named types name) (put_typed o)

  pub put_by_part : (new : Objects) → component_put types es n name raws ≡ Ok new → ByPart types name n es new
  put_by_part new h =
      let o = object_found (numbered es n) put_found new h in
      let a = type_found (type_named types name) (put_typed o.0) new o.1 in
      let v = value_found (fitted a.0.fields raws) (put_valued o.0 a.0) new a.2 in
      let r = refused (is_full o.0 a.0.number) fault.ObjectLimit _ new v.1 in
      let part : Part = record { kind = a.0.number; values = v.0 } in
      record { a = a.0; f = with_part part; named = a.1; keeps = λ x. refl; changes = put_changes part; is = told_ok (changed (with_part part) es n) new r.1 }

-- ---- a component taken away

module _ (types : Types) (es : Objects) (n : ℕ) (name : List ℕ) where
  abbrev taken_typed : Object → Authoring → Result Objects EditFault
  taken_typed o a = if not (is_some (part_of o.components a.number)) then Err fault.NoComponent else Ok (changed (without_part a.number) es n)

  abbrev taken_found : Object → Result Objects EditFault
  taken_found o = on_type (type_named types name) (taken_typed o)

  pub taken_by_part : (new : Objects) → component_removed types es n name ≡ Ok new → ByPart types name n es new
  taken_by_part new h =
      let o = object_found (numbered es n) taken_found new h in
      let a = type_found (type_named types name) (taken_typed o.0) new o.1 in
      let r = refused (not (is_some (part_of o.0.components a.0.number))) fault.NoComponent _ new a.2 in
      record { a = a.0; f = without_part a.0.number; named = a.1; keeps = λ x. refl; changes = taken_changes a.0.number; is = told_ok (changed (without_part a.0.number) es n) new r.1 }

-- ---- a value set

module _ (types : Types) (es : Objects) (n : ℕ) (name field : List ℕ) (raw : Raw) where
  abbrev valued : Authoring → ℕ × Given → Result Objects EditFault
  valued a p = Ok (changed (with_value a.number p.0 p.1) es n)

  abbrev valued_typed : Object → Authoring → Result Objects EditFault
  valued_typed o a = if not (is_some (part_of o.components a.number)) then Err fault.NoComponent else and_so (field_fitted a.fields field raw) (valued a)

  abbrev valued_found : Object → Result Objects EditFault
  valued_found o = on_type (type_named types name) (valued_typed o)

  pub valued_by_part : (new : Objects) → field_set types es n name field raw ≡ Ok new → ByPart types name n es new
  valued_by_part new h =
      let o = object_found (numbered es n) valued_found new h in
      let a = type_found (type_named types name) (valued_typed o.0) new o.1 in
      let r = refused (not (is_some (part_of o.0.components a.0.number))) fault.NoComponent _ new a.2 in
      let v = value_found (field_fitted a.0.fields field raw) (valued a.0) new r.1 in
      record { a = a.0; f = with_value a.0.number v.0.0 v.0.1; named = a.1; keeps = λ x. refl; changes = value_changes a.0.number v.0.0 v.0.1; is = told_ok (changed (with_value a.0.number v.0.0 v.0.1) es n) new v.1 }
