-- The text of entities: a line for each, ascending by name.
use Rattle.std.specs.Prelude.{ℕ, ℤ, List, [], ◌∷◌, ◌++◌, flat_map, Option, Some, None, codes, decimal}
use Rattle.std.specs.Fmt.{signed_decimal}
use Rattle.std.specs.FinMap.{entries}
use Rattle.eb_base.specs.declared.names.Name.{Name}
use Rattle.eb_base.specs.declared.names.Place.{Place}
use Rattle.eb_base.specs.FixedPoint.{fixed_text}
use Rattle.eb_base.specs.Names.{name_text}
use Rattle.eb_schema.specs.declared.kinds.Kind.{Kind}
use Rattle.eb_schema.specs.declared.kinds.Kind.TheVariants.{I8, I16, I32, I64, Fix, Ref, Asset}
use Rattle.eb_schema.specs.declared.kinds.Field.{Field}
use Rattle.eb_schema.specs.declared.kinds.Component.{Component}
use Rattle.eb_schema.specs.declared.rows.Val.{Val}
use Rattle.eb_schema.specs.declared.rows.Val.TheVariants.{Num, To, Null, Gone}
use Rattle.eb_schema.specs.declared.rows.Cell.{Cell}
use Rattle.eb_schema.specs.Schemas.{Types, component_of}
use Rattle.eb_world.specs.Worlds.{Living, Live}

-- a number in decimal, or as fixed text where its field is a fixed-point one
abbrev pub number_text : Kind → ℤ → List ℕ
number_text Fix n = fixed_text n
number_text I8 n = signed_decimal n
number_text I16 n = signed_decimal n
number_text I32 n = signed_decimal n
number_text I64 n = signed_decimal n
number_text Ref n = signed_decimal n
number_text Asset n = signed_decimal n

abbrev pub value_text : Kind → Val → List ℕ
value_text kind (Num n) = number_text kind n
value_text kind (To name) = name_text name
value_text kind Null = codes "null"
value_text kind Gone = codes "gone"

-- field=value
abbrev pub field_text : Field → Val → List ℕ
field_text field value = field.name ++ 61 ∷ value_text field.kind value

-- each further field behind a comma
abbrev pub more_fields : List Field → List Val → List ℕ
more_fields [] values = []
more_fields (f ∷ fs) [] = []
more_fields (f ∷ fs) (v ∷ vs) = 44 ∷ (field_text f v ++ more_fields fs vs)

abbrev pub fields_text : List Field → List Val → List ℕ
fields_text [] values = []
fields_text (f ∷ fs) [] = []
fields_text (f ∷ fs) (v ∷ vs) = field_text f v ++ more_fields fs vs

-- a space, and Type(field=value,field=value)
abbrev pub component_text : Option Component → List Val → List ℕ
component_text None values = []
component_text (Some c) values = 32 ∷ (c.name ++ 40 ∷ (fields_text c.fields values ++ 41 ∷ []))

abbrev pub cell_text : Types → Cell → List ℕ
cell_text types cell = component_text (component_of types cell.kind) cell.values

-- scene:section, or - where there is none
abbrev pub tag_text : Option Place → List ℕ
tag_text None = 45 ∷ []
tag_text (Some place) = decimal place.scene ++ 58 ∷ decimal place.section

-- the name, the section, and the components ascending by type
abbrev pub entity_line : Types → Name → Living → List ℕ
entity_line types name l = name_text name ++ 32 ∷ (tag_text l.tag ++ (flat_map (cell_text types) l.row ++ 10 ∷ []))

-- the lines of all entities, ascending by name
unfoldable pub entity_lines : Types → Live → List ℕ
entity_lines types live = flat_map (λ (e : Name × Living). entity_line types e.0 e.1) (entries live)
