-- What is asked of the entities that are kept is what they show.
use Rattle.std.proofs.Common.{◌≡◌, ℕ, zero, suc, ◌<◌, ◌≤◌, Bool, true, false, cond, nat_eq, List, [], ◌∷◌, map, take, drop, refl, sym, ◌∙◌, ap, subst, T, arith}
use Rattle.std.specs.Prelude.{Option, Some, None, is_some, option_map, option_and_then, slice_get, All, ⊤}
use Rattle.std.specs.List.Sorted.{IsPermutation}
use Rattle.std.specs.FinMap.{contains_key, get, keys}
use Rattle.std.proofs.lemmas.List.Elements.{All-cons}
use Rattle.slab.specs.Slab.{Slab}
use Rattle.eb_base.specs.declared.names.Name.{Name}
use Rattle.eb_base.specs.declared.names.Place.{Place}
use Rattle.eb_base.specs.declared.names.Entity.{Entity}
use Rattle.eb_base.proofs.MapLaws.{get-map_values}
use Rattle.eb_schema.specs.declared.rows.Val.{Val}
use Rattle.eb_schema.specs.declared.rows.Val.TheVariants as val
use Rattle.eb_schema.specs.declared.rows.Cell.{Cell}
use Rattle.eb_schema.specs.Rows.{cell_of}
use Rattle.eb_schema.specs.Schemas.{Types}
use Rattle.eb_world.specs.declared.beings.Held.{Held}
use Rattle.eb_world.specs.declared.beings.Held.TheVariants.{Num, Link, Null}
use Rattle.eb_world.specs.declared.beings.Being.{Being}
use Rattle.eb_world.specs.declared.beings.Blank.{Blank}
use Rattle.eb_world.specs.Tables.{NameTable, Sections}
use Rattle.eb_world.specs.Worlds.{IsWorld, LeadsInto, Living, Live, Spare, World, most_live, named, value_of}
use Rattle.eb_world.specs.Beings.{Beings, IsSound, being_at, cells_of, handles_of, has_serial, live_of, meaning, shown, value_in, width}
use Rattle.eb_world.proofs.MapFacts.{contains-map_values, keys-map_values, len-map_values}
use Rattle.eb_world.proofs.Naming.{handles_apart, keeps, not_none, same_some}
use Rattle.eb_world.proofs.RowFacts.{take_map, drop_map}

pub living_shown : (types : Types) (beings : Beings) (entity : Entity) → option_and_then (get (live_of types beings)) (named (handles_of beings) entity) ≡ option_map (shown types beings) (being_at beings entity)
living_shown types beings entity = by (named (handles_of beings) entity)
  where
    by : (o : Option Name) → option_and_then (get (live_of types beings)) o ≡ option_map (shown types beings) (option_and_then (get beings) o)
    by None = refl
    by (Some name) = get-map_values (shown types beings) beings name

pub record KeptAt (beings : Beings) (b : Being) : Type 0 where
  pub name : Name
  pub found : get beings name ≡ Some b

-- an entity that is found by its handle is kept under a name
pub kept_at : (beings : Beings) (entity : Entity) (b : Being) → being_at beings entity ≡ Some b → KeptAt beings b
kept_at beings entity b = by (named (handles_of beings) entity)
  where
    by : (o : Option Name) → option_and_then (get beings) o ≡ Some b → KeptAt beings b
    by None h = absurd (not_none b h)
    by (Some name) h = record { name = name; found = h }

-- a name that isn't seen isn't kept
pub not_kept : (types : Types) (beings : Beings) (name : Name) → contains_key (live_of types beings) name ≡ false → get beings name ≡ None
not_kept types beings name h = by (get beings name) (sym (contains-map_values (shown types beings) beings name) ∙ h)
  where
    by : (o : Option Being) → is_some o ≡ false → o ≡ None
    by None h = refl
    by (Some b) h = absurd (subst T h tt)

-- ---- values

get_map : {A B : Type 0} (f : A → B) (xs : List A) (n : ℕ) → slice_get (map f xs) n ≡ option_map f (slice_get xs n)
get_map f [] n = refl
get_map f (x ∷ xs) zero = refl
get_map f (x ∷ xs) (suc n) = get_map f xs n

cell_where : (field : ℕ) (b : Bool) (c : Cell) (o : Option Cell) → option_and_then (λ (c : Cell). slice_get c.values field) (cond b (Some c) o) ≡ cond b (slice_get c.values field) (option_and_then (λ (c : Cell). slice_get c.values field) o)
cell_where field true c o = refl
cell_where field false c o = refl

map_where : {A B : Type 0} (f : A → B) (b : Bool) (x y : Option A) → cond b (option_map f x) (option_map f y) ≡ option_map f (cond b x y)
map_where f true x y = refl
map_where f false x y = refl

pub value_shown : (types : Types) (f : Held → Val) (ks : List ℕ) (vs : List Held) (kind field : ℕ) → value_of (cells_of types ks (map f vs)) kind field ≡ option_map f (value_in types ks vs kind field)
value_shown types f [] vs kind field = refl
value_shown types f (k ∷ ks) vs kind field =
    let n = width types k in
    cell_where field (nat_eq k kind) (record { kind = k; values = take n (map f vs) }) (cell_of (cells_of types ks (drop n (map f vs))) kind)
    ∙ (λ i. cond (nat_eq k kind) ((ap (λ xs. slice_get xs field) (take_map f n vs) ∙ get_map f (take n vs) field) i)
    ((ap (λ xs. value_of (cells_of types ks xs) kind field) (drop_map f n vs) ∙ value_shown types f ks (drop n vs) kind field) i))
    ∙ map_where f (nat_eq k kind) (slice_get (take n vs) field) (value_in types ks (drop n vs) kind field)

-- ---- each reference leads to a live entity

module _ (types : Types) (beings : Beings) where
  abbrev live : Live
  live = live_of types beings

  leads : (o : Option Being) (to : Name) (s : ℕ) → get beings to ≡ o → LeadsInto live (cond (has_serial s o) (val.To to) val.Gone)
  leads None to s h = tt
  leads (Some b) to s h = by (has_serial s (Some b))
    where
      by : (t : Bool) → LeadsInto live (cond t (val.To to) val.Gone)
      by true = contains-map_values (shown types beings) beings to ∙ ap is_some h
      by false = tt

  means_into : (h : Held) → LeadsInto live (meaning beings h)
  means_into (Num n) = tt
  means_into (Link to s) = leads (get beings to) to s refl
  means_into Null = tt

  all_into : (hs : List Held) → All (LeadsInto live) (map (meaning beings) hs)
  all_into [] = λ k d h. absurd (omega (arith, h))
  all_into (h ∷ hs) = All-cons (LeadsInto live) _ _ (means_into h) (all_into hs)

  cells_into : (ks : List ℕ) (hs : List Held) → All (λ (c : Cell). All (LeadsInto live) c.values) (cells_of types ks (map (meaning beings) hs))
  cells_into [] hs = λ k d h. absurd (omega (arith, h))
  cells_into (k ∷ ks) hs =
      All-cons (λ (c : Cell). All (LeadsInto live) c.values) _ _
      (subst (λ vs. All (LeadsInto live) vs) (sym (take_map (meaning beings) (width types k) hs)) (all_into (take (width types k) hs)))
      (subst (λ vs. All (λ (c : Cell). All (LeadsInto live) c.values) (cells_of types ks vs)) (sym (drop_map (meaning beings) (width types k) hs)) (cells_into ks (drop (width types k) hs)))

  closed_where : (o : Option Being) (l : Living) → option_map (shown types beings) o ≡ Some l → All (λ (c : Cell). All (LeadsInto live) c.values) l.row
  closed_where None l h = absurd (subst (λ o. cond (is_some o) ⊥ ⊤) h tt)
  closed_where (Some b) l h = subst (λ (l : Living). All (λ (c : Cell). All (LeadsInto live) c.values) l.row) (same_some (shown types beings b) l h) (cells_into b.kinds b.values)

  pub closed : (name : Name) (l : Living) → get live name ≡ Some l → All (λ (c : Cell). All (LeadsInto live) c.values) l.row
  closed name l h = closed_where (get beings name) l (sym (get-map_values (shown types beings) beings name) ∙ h)

-- ---- the world that is kept is whole

module _ (types : Types) (table : NameTable Being) (seats : Slab Name) (sections : Sections) (tag : Option Place) (blanks : List Blank) (made : ℕ) (sound : IsSound types table seats sections tag blanks made) where
  abbrev whole_of : Spare → World
  whole_of spare = record { types = types; live = live_of types table.map; handles = handles_of table.map; made = made; spare = spare; order = table.order }

  pub whole : (spare : Spare) → IsPermutation (keys table.map) table.order → IsWorld (whole_of spare)
  whole spare order = record {
    handled = λ name. contains-map_values (λ (b : Being). b.entity) table.map name ∙ sym (contains-map_values (shown types table.map) table.map name);
    apart = λ a b entity. handles_apart seats table.map (λ name x h. (sound.each name x h).seated) entity a b;
    serials = λ name entity h. let k = keeps table.map name entity h in subst (λ (e : Entity). (0 < e.serial) × (e.serial ≤ made)) k.same (sound.each name k.b k.found).serial;
    closed = closed types table.map;
    few = subst (λ n. n ≤ most_live) (sym (len-map_values (shown types table.map) table.map)) sound.few;
    order = subst (λ ks. IsPermutation ks table.order) (sym (keys-map_values (shown types table.map) table.map)) order;
  }
