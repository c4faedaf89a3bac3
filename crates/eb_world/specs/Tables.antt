-- Tables with room for more entries: what they hold, in which order they list it, and how many more there is room for.
use Rattle.std.specs.Prelude.{ℕ, List, [], Option, Some, None, refl}
use Rattle.std.specs.FinMap.{FinMap, code, get}
use Rattle.std.specs.Coded.{Coded, code_by, coded×, coded_list, coded_ℕ}
use Rattle.eb_base.specs.declared.names.Name.{Name}
use Rattle.eb_base.specs.declared.names.Place.{Place}
use Rattle.eb_base.specs.Names.{name_cmp, coded_name}
use Rattle.eb_base.specs.Places.{place_cmp, coded_place}
use Rattle.eb_base.specs.Room.{Roomy, roomy_code}

-- values under names
pub record NameTable (T : Type 0) : Type 0 where
  pub map : FinMap name_cmp T
  pub order : List Name
  pub room : ℕ

abbrev pub name_table_code : {T : Type 0} → Coded T → Coded (NameTable T)
name_table_code {T} c =
    code_by (FinMap name_cmp T × (List Name × ℕ)) (coded× (code coded_name c) (coded× (coded_list coded_name) coded_ℕ))
    (λ t. (t.map, (t.order, t.room))) (λ p. record { map = p.0; order = p.1.0; room = p.1.1 }) (λ _. refl)

-- the names that each section has, and how many more there is room for
abbrev pub Sections : Type 0
Sections = FinMap place_cmp (Roomy Name)

abbrev pub sections_code : Coded Sections
sections_code = code coded_place (roomy_code coded_name)

abbrev pub names_in : Option (Roomy Name) → List Name
names_in None = []
names_in (Some names) = names.items

abbrev pub room_in : Option (Roomy Name) → ℕ
room_in None = 0
room_in (Some names) = names.room

-- the names of a section, and how many more there is room for
abbrev pub names_at : Sections → Place → List Name
names_at sections place = names_in (get sections place)

abbrev pub room_at : Sections → Place → ℕ
room_at sections place = room_in (get sections place)
