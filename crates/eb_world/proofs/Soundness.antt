-- What the world keeps stays in order under its changes.
use Rattle.std.proofs.Common.{◌≡◌, ℕ, suc, ◌+◌, ◌-◌, ◌<◌, ◌≤◌, ◌^◌, Bool, true, false, cond, not, ◌||◌, List, [], ◌∷◌, ◌++◌, map, length, refl, sym, ◌∙◌, ap, subst, T, arith}
use Rattle.std.specs.Prelude.{Option, Some, None, is_some, count_by, All}
use Rattle.std.specs.List.{AllByRecursion, list_any}
use Rattle.std.specs.Cmp.{eq_by_cmp_equiv}
use Rattle.std.specs.Ordering.{eq_by_cmp}
use Rattle.std.specs.FinMap.{empty, get, insert, remove, len, get-empty, get-insert, get-remove, len-empty, len-insert}
use Rattle.std.proofs.lemmas.List.{length-map}
use Rattle.std.proofs.lemmas.List.Elements.{All-tail}
use Rattle.slab.specs.Slab.{Slab, HasRoomFor, Updates, slab_len}
use Rattle.slab.specs.Slab as slab
use Rattle.eb_base.specs.declared.names.Name.{Name}
use Rattle.eb_base.specs.declared.names.Place.{Place}
use Rattle.eb_base.specs.Maps.{passing}
use Rattle.eb_base.specs.Names.{name_cmp}
use Rattle.eb_base.specs.Places.{place_cmp}
use Rattle.eb_base.specs.Room.{Roomy}
use Rattle.eb_base.proofs.MapLaws.{get-kept_values}
use Rattle.eb_base.proofs.NameOrder.{names_total, exact_names, places_total}
use Rattle.eb_schema.specs.declared.rows.Val.{Val}
use Rattle.eb_schema.specs.declared.rows.Val.TheVariants as val
use Rattle.eb_schema.specs.declared.rows.Cell.{Cell}
use Rattle.eb_schema.specs.Rows.{kinds_of}
use Rattle.eb_schema.specs.Schemas.{Types}
use Rattle.eb_world.specs.declared.beings.Held.{Held}
use Rattle.eb_world.specs.declared.beings.Held.TheVariants.{Num, Link, Null}
use Rattle.eb_world.specs.declared.beings.Being.{Being}
use Rattle.eb_world.specs.declared.beings.Blank.{Blank}
use Rattle.eb_world.specs.Tables.{NameTable, Sections, names_at, names_in, room_at}
use Rattle.eb_world.specs.Worlds.{RowFits, is_among, is_place, most_live}
use Rattle.eb_world.specs.Beings.{Beings, HasRoom, IsBeing, IsBlank, IsRoomy, IsSound, IsUpTo, Seated, enlisted, flat, hold, is_of, link_to, not_of, of_place, total}
use Rattle.eb_world.proofs.Dropping.{parted}
use Rattle.eb_world.proofs.MapFacts.{same_key}
use Rattle.eb_world.proofs.Naming.{not_none, same_some, true_false}
use Rattle.eb_world.proofs.RowFacts.{flat_length}
use Rattle.eb_world.proofs.SectionFacts.{at_inserted, room_of, same_place_of}

-- ---- the empty world, and a world with room

pub sound_empty : (types : Types) (table : NameTable Being) (seats : Slab Name) (sections : Sections) (blanks : List Blank) → table.map ≡ empty → seats.slots ≡ [] → blanks ≡ [] → IsSound types table seats sections None blanks 0
sound_empty types table seats sections blanks map slots none = record {
  each = λ name b h. absurd (not_none b (sym (ap (λ m. get m name) map ∙ get-empty name_cmp name) ∙ h));
  few = omega (arith, ap len map ∙ len-empty name_cmp Being);
  room = record {
    names = omega (arith, ap length none);
    handles = subst (λ n. n + length blanks ≤ seats.capacity) (sym (ap (count_by is_some) slots)) (omega (arith, ap length none));
    small = λ h. absurd (omega (arith, h, ap length none));
    section = tt;
  };
  ready = subst (All (IsBlank types)) (sym none) (λ k d h. absurd (omega (arith, h)));
}

module _ (types : Types) (table after : NameTable Being) (seats seats2 : Slab Name) (sections sections2 : Sections) (made : ℕ)
    (map : after.map ≡ table.map) (seated : (index : ℕ) → slab.get seats2 index ≡ slab.get seats index) (names : (q : Place) → names_at sections2 q ≡ names_at sections q) where
  pub sound_with_room : (tag tag2 : Option Place) (blanks blanks2 : List Blank) → IsSound types table seats sections tag blanks made
      → HasRoom after seats2 sections2 tag2 (length blanks2) → All (IsBlank types) blanks2 → IsSound types after seats2 sections2 tag2 blanks2 made
  sound_with_room tag tag2 blanks blanks2 sound room ready = record {
    each = λ name b h.
        let old = sound.each name b (subst (λ m. get m name ≡ Some b) map h) in
        record {
          seated = seated b.entity.index ∙ old.seated;
          serial = old.serial;
          listed = λ place t. subst (λ ns. is_among ns name ≡ true) (sym (names place)) (old.listed place t);
          links = old.links;
          values = old.values;
        };
    few = subst (λ m. len m ≤ most_live) (sym map) sound.few;
    room = room;
    ready = ready;
  }

-- the room of a world is room for no more
pub no_more : (table : NameTable Being) (seats : Slab Name) (sections : Sections) (tag : Option Place) (count : ℕ) → HasRoom table seats sections tag count → HasRoom table seats sections None 0
no_more table seats sections tag count room = record {
  names = omega arith;
  handles = omega (arith, room.handles);
  small = λ h. absurd (omega (arith, h));
  section = tt;
}

-- ---- one more entity

any_left : (p : Name → Bool) (xs ys : List Name) → list_any p xs ≡ true → list_any p (xs ++ ys) ≡ true
any_left p [] ys h = absurd (subst T (sym h) tt)
any_left p (x ∷ xs) ys h = by (p x) (any_left p xs ys) h
  where
    by : (b : Bool) → (list_any p xs ≡ true → list_any p (xs ++ ys) ≡ true) → (b || list_any p xs) ≡ true → (b || list_any p (xs ++ ys)) ≡ true
    by true rest h = refl
    by false rest h = rest h

any_last : (p : Name → Bool) (xs : List Name) (y : Name) → p y ≡ true → list_any p (xs ++ y ∷ []) ≡ true
any_last p [] y h = ap (λ b. b || false) h
any_last p (x ∷ xs) y h = ap (λ b. p x || b) (any_last p xs y h) ∙ by (p x)
  where
    by : (b : Bool) → (b || true) ≡ true
    by true = refl
    by false = refl

module _ (sections : Sections) (name : Name) (place : Place) where
  abbrev list : Roomy Name
  list = record { items = names_at sections place ++ name ∷ []; room = room_at sections place - 1 }

  among_where : (q : Name) (p : Place) (t : Bool) → eq_by_cmp place_cmp p place ≡ t → is_among (names_at sections p) q ≡ true → is_among (names_in (cond t (Some list) (get sections p))) q ≡ true
  among_where q p true e h = any_left (eq_by_cmp name_cmp q) (names_at sections place) (name ∷ []) (subst (λ p. is_among (names_at sections p) q ≡ true) (same_place_of p place e) h)
  among_where q p false e h = h

  among_stays : (q : Name) (p : Place) → is_among (names_at sections p) q ≡ true → is_among (names_at (insert sections place list) p) q ≡ true
  among_stays q p h =
      subst (λ o. is_among (names_in o) q ≡ true) (sym (get-insert places_total sections place list p))
      (among_where q p (eq_by_cmp place_cmp p place) refl h)

  among_new : is_among (names_at (insert sections place list) place) name ≡ true
  among_new =
      subst (λ o. is_among (names_in o) name ≡ true) (sym (at_inserted sections place list))
      (any_last (eq_by_cmp name_cmp name) (names_at sections place) name ((eq_by_cmp_equiv names_total).refl name))

stays_listed : (sections : Sections) (tag : Option Place) (name q : Name) (p : Place) → is_among (names_at sections p) q ≡ true → is_among (names_at (enlisted sections tag name) p) q ≡ true
stays_listed sections None name q p h = h
stays_listed sections (Some place) name q p h = among_stays sections name place q p h

new_listed : (sections : Sections) (tag : Option Place) (name : Name) (p : Place) → is_place p tag ≡ true → is_among (names_at (enlisted sections tag name) p) name ≡ true
new_listed sections None name p h = absurd (subst T (sym h) tt)
new_listed sections (Some place) name p h = subst (λ p. is_among (names_at (insert sections place (list sections name place)) p) name ≡ true) (sym (same_place_of p place h)) (among_new sections name place)

less_room : (sections : Sections) (tag : Option Place) (name : Name) (count : ℕ) → IsRoomy sections tag (suc count) → IsRoomy (enlisted sections tag name) tag count
less_room sections None name count h = tt
less_room sections (Some place) name count h =
    omega (arith, h, room_of sections place (list sections name place))

later : (made : ℕ) (h : Held) → IsUpTo made h → IsUpTo (made + 1) h
later made (Num n) h = tt
later made (Link to s) h = omega (arith, h)
later made Null h = tt

all_later : (made : ℕ) (hs : List Held) → AllByRecursion (IsUpTo made) hs → AllByRecursion (IsUpTo (made + 1)) hs
all_later made [] h = tt
all_later made (x ∷ hs) h = (later made x h.0, all_later made hs h.1)

module _ (beings : Beings) (made : ℕ) (serials : (name : Name) (b : Being) → get beings name ≡ Some b → b.entity.serial ≤ made) (name : Name) where
  link_up : (to : Name) (o : Option Being) → get beings to ≡ o → IsUpTo (made + 1) (link_to to o)
  link_up to None e = tt
  link_up to (Some x) e = let h = serials to x e in omega (arith, h)

  hold_up : (v : Val) → IsUpTo (made + 1) (hold beings name (made + 1) v)
  hold_up (val.Num n) = tt
  hold_up (val.To to) = by (eq_by_cmp name_cmp to name)
    where
      by : (t : Bool) → IsUpTo (made + 1) (cond t (Link to (made + 1)) (link_to to (get beings to)))
      by true = omega arith
      by false = link_up to (get beings to) refl
  hold_up val.Null = tt
  hold_up val.Gone = tt

  all_up : (vs : List Val) → AllByRecursion (IsUpTo (made + 1)) (map (hold beings name (made + 1)) vs)
  all_up [] = tt
  all_up (v ∷ vs) = (hold_up v, all_up vs)

module _ (types : Types) (table after : NameTable Being) (seats seats2 : Slab Name) (sections : Sections) (tag : Option Place) (blank : Blank) (rest : List Blank) (made : ℕ)
    (sound : IsSound types table seats sections tag (blank ∷ rest) made)
    (name : Name) (b : Being) (row : List Cell)
    (new : get table.map name ≡ None) (few : len table.map < most_live)
    (vacant : slab.get seats b.entity.index ≡ None) (taken : Updates seats seats2 b.entity.index (Some name))
    (more : slab_len seats2 ≡ slab_len seats + 1) (capacity : seats2.capacity ≡ seats.capacity)
    (added : after.map ≡ insert table.map name b) (room : table.room ≤ after.room + 1)
    (serial : b.entity.serial ≡ made + 1) (tagged : b.tag ≡ tag)
    (fits : RowFits types row) (kinds : b.kinds ≡ kinds_of row) (values : b.values ≡ map (hold table.map name (made + 1)) (flat row)) where
  old_serial : (q : Name) (x : Being) → get table.map q ≡ Some x → x.entity.serial ≤ made
  old_serial q x h = (sound.each q x h).serial.1

  new_being : IsBeing types seats2 (enlisted sections tag name) (made + 1) name b
  new_being = record {
    seated = taken.changed;
    serial = (omega (arith, serial), omega (arith, serial));
    listed = λ place t. new_listed sections tag name place (ap (is_place place) (sym tagged) ∙ t);
    links = subst (AllByRecursion (IsUpTo (made + 1))) (sym values) (all_up table.map made old_serial name (flat row));
    values = ap length values ∙ length-map (flat row) (hold table.map name (made + 1)) ∙ flat_length types row fits ∙ sym (ap (total types) kinds);
  }

  old_being : (q : Name) (x : Being) → get table.map q ≡ Some x → IsBeing types seats2 (enlisted sections tag name) (made + 1) q x
  old_being q x h =
      let old = sound.each q x h in
      record {
        seated = taken.others x.entity.index (λ e. not_none q (sym vacant ∙ ap (slab.get seats) (sym e) ∙ old.seated)) ∙ old.seated;
        serial = (old.serial.0, omega (arith, old.serial.1));
        listed = λ place t. stays_listed sections tag name q place (old.listed place t);
        links = all_later made x.values old.links;
        values = old.values;
      }

  each_where : (q : Name) (x : Being) (t : Bool) → eq_by_cmp name_cmp q name ≡ t → cond t (Some b) (get table.map q) ≡ Some x → IsBeing types seats2 (enlisted sections tag name) (made + 1) q x
  each_where q x true e h =
      subst (λ x. IsBeing types seats2 (enlisted sections tag name) (made + 1) q x) (same_some b x h)
      (subst (λ q. IsBeing types seats2 (enlisted sections tag name) (made + 1) q b) (sym (same_key exact_names q name e)) new_being)
  each_where q x false e h = old_being q x h

  pub sound_created : IsSound types after seats2 (enlisted sections tag name) tag rest (made + 1)
  sound_created = record {
    each = λ q x h. each_where q x (eq_by_cmp name_cmp q name) refl (sym (ap (λ m. get m q) added ∙ get-insert names_total table.map name b q) ∙ h);
    few =
        let n = ap len added ∙ len-insert names_total table.map name b ∙ ap (λ t. cond t (len table.map) (len table.map + 1)) (ap is_some new) in
        omega (arith, n, few);
    room = record {
      names = let n = sound.room.names in omega (arith, n, room);
      handles = let n = sound.room.handles in omega (arith, n, more, capacity);
      small = λ h. subst (λ n. n ≤ 2 ^ 32) (sym capacity) (sound.room.small (omega arith));
      section = less_room sections tag name (length rest) sound.room.section;
    };
    ready = All-tail (IsBlank types) blank rest sound.ready;
  }

-- ---- the entities of a section are gone

-- the section's list has all that are of the section
pub all_listed : (types : Types) (table : NameTable Being) (seats : Slab Name) (sections : Sections) (tag : Option Place) (blanks : List Blank) (made : ℕ) → IsSound types table seats sections tag blanks made
    → (place : Place) (q : Name) → of_place place (get table.map q) ≡ true → is_among (names_at sections place) q ≡ true
all_listed types table seats sections tag blanks made sound place q = by (get table.map q) refl
  where
    by : (o : Option Being) → get table.map q ≡ o → of_place place o ≡ true → is_among (names_at sections place) q ≡ true
    by None e h = absurd (subst T (sym h) tt)
    by (Some b) e h = (sound.each q b e).listed place h

module _ (types : Types) (table after : NameTable Being) (seats seats2 : Slab Name) (sections : Sections) (tag : Option Place) (blanks none : List Blank) (made : ℕ) (place : Place)
    (sound : IsSound types table seats sections tag blanks made)
    (left : after.map ≡ not_of place table.map) (seated : Seated seats2 after.map)
    (capacity : seats2.capacity ≡ seats.capacity) (fewer : slab_len seats2 ≤ slab_len seats) (empty : none ≡ []) where
  record Left (q : Name) (x : Being) : Type 0 where
    found : get table.map q ≡ Some x
    other : is_of place x ≡ false

  left_where : (q : Name) (x : Being) (o : Option Being) → get table.map q ≡ o → passing (λ (b : Being). not (is_of place b)) o ≡ Some x → Left q x
  left_where q x None e h = absurd (not_none x h)
  left_where q x (Some y) e h = by (is_of place y) refl h
    where
      by : (t : Bool) → is_of place y ≡ t → cond (not t) (Some y) None ≡ Some x → Left q x
      by true k h = absurd (not_none x h)
      by false k h = record { found = e ∙ h; other = subst (λ x. is_of place x ≡ false) (same_some y x h) k }

  left_at : (q : Name) (x : Being) → get after.map q ≡ Some x → Left q x
  left_at q x h = left_where q x (get table.map q) refl (sym (ap (λ m. get m q) left ∙ get-kept_values names_total (λ (b : Being). not (is_of place b)) table.map q) ∙ h)

  listed_where : (q : Name) (x : Being) (p : Place) (t : Bool) → eq_by_cmp place_cmp p place ≡ t → is_of place x ≡ false → is_of p x ≡ true → is_among (names_at sections p) q ≡ true
      → is_among (names_in (cond t None (get sections p))) q ≡ true
  listed_where q x p true e other same h = absurd (true_false (sym same ∙ ap (λ p. is_of p x) (same_place_of p place e) ∙ other))
  listed_where q x p false e other same h = h

  pub sound_dropped : IsSound types after seats2 (remove sections place) None none made
  sound_dropped = record {
    each = λ q x h.
        let l = left_at q x h in
        let old = sound.each q x l.found in
        record {
          seated = seated q x h;
          serial = old.serial;
          listed = λ p t. subst (λ o. is_among (names_in o) q ≡ true) (sym (get-remove places_total sections place p))
              (listed_where q x p (eq_by_cmp place_cmp p place) refl l.other t (old.listed p t));
          links = old.links;
          values = old.values;
        };
    few = let n = parted place table.map in let m = ap len left in let f = sound.few in omega (arith, n, m, f);
    room = record {
      names = omega (arith, ap length empty);
      handles = let h = sound.room.handles in omega (arith, h, fewer, capacity, ap length empty);
      small = λ h. absurd (omega (arith, h, ap length empty));
      section = tt;
    };
    ready = subst (All (IsBlank types)) (sym empty) (λ k d h. absurd (omega (arith, h)));
  }
