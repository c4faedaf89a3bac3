-- The name of the entity with a handle.
use Rattle.std.proofs.Common.{◌≡◌, Bool, true, false, cond, ◌&&◌, List, [], ◌∷◌, refl, sym, ◌∙◌, ap, T, subst, arith}
use Rattle.std.specs.Prelude.{Option, Some, None, is_some, option_map, unwrap_or, find}
use Rattle.std.specs.Cmp.{eq_by_cmp_equiv}
use Rattle.std.specs.Ordering.{eq_by_cmp, is_eq, is_lt}
use Rattle.std.specs.declared.cmp.Ordering.{Ordering}
use Rattle.std.specs.declared.cmp.Ordering.TheVariants.{Less, Equal, Greater}
use Rattle.std.specs.FinMap.{get, entries, entries_sorted, get-entries}
use Rattle.std.specs.FinMap.Entries as listed
use Rattle.std.specs.FinMap.Entries.{is_sorted, below_all}
use Rattle.std.proofs.lemmas.Bool.Decides.{nat_tests}
use Rattle.slab.specs.Slab.{Slab}
use Rattle.slab.specs.Slab as slab
use Rattle.eb_base.specs.declared.names.Name.{Name}
use Rattle.eb_base.specs.declared.names.Entity.{Entity}
use Rattle.eb_base.specs.Names.{name_cmp}
use Rattle.eb_base.proofs.MapLaws.{get-map_values}
use Rattle.eb_base.proofs.NameOrder.{names_total}
use Rattle.eb_world.specs.declared.beings.Being.{Being}
use Rattle.eb_world.specs.Worlds.{Handles, is_entity, named}
use Rattle.eb_world.specs.Beings.{Beings, Seated, handles_of}

pub same_some : {X : Type 0} (x y : X) → Some x ≡ Some y → x ≡ y
same_some x y h = ap (λ o. unwrap_or o x) h

pub not_none : {X : Type 0} (x : X) → None ≡ Some x → ⊥
not_none x h = subst T (sym (ap is_some h)) tt

pub true_false : true ≡ false → ⊥
true_false h = subst T h tt

pub same_entity : (a b : Entity) → is_entity a b ≡ true → a ≡ b
same_entity a b h =
    let i : a.index ≡ b.index = grind (arith, nat_tests) in
    let s : a.serial ≡ b.serial = grind (arith, nat_tests) in
    λ j. record { index = i j; serial = s j }

pub entity_itself : (a : Entity) → is_entity a a ≡ true
entity_itself a = grind (arith, nat_tests)

Entry : Type 0
Entry = Name × Entity

not_equal : (r : Ordering) → T (is_lt r) → is_eq r ≡ false
not_equal Less h = refl
not_equal Equal h = absurd h
not_equal Greater h = absurd h

first : (a b : Bool) → T (a && b) → T a
first true b h = tt
first false b h = absurd h

second : (a b : Bool) → T (a && b) → T b
second true b h = h
second false b h = absurd h

module _ (p : Name × Entity → Bool) where
  abbrev look : List (Name × Entity) → Option (Name × Entity)
  look es = find p es

  below_where : (k : Name) (y : Name × Entity) (es : List (Name × Entity)) (x : Name × Entity) (b : Bool) → T (is_lt (name_cmp k y.0)) → (look es ≡ Some x → T (is_lt (name_cmp k x.0)))
      → cond b (Some y) (look es) ≡ Some x → T (is_lt (name_cmp k x.0))
  below_where k y es x true h rest e = subst (λ z. T (is_lt (name_cmp k z.0))) (same_some y x e) h
  below_where k y es x false h rest e = rest e

  below_found : (k : Name) (es : List (Name × Entity)) (x : Name × Entity) → T (below_all name_cmp k es) → look es ≡ Some x → T (is_lt (name_cmp k x.0))
  below_found k [] x h e = absurd (not_none x e)
  below_found k (y ∷ es) x h e = below_where k y es x (p y) (first _ _ h) (below_found k es x (second _ _ h)) e

  abbrev IsFound : List (Name × Entity) → Name × Entity → Type 0
  IsFound es x = (listed.find name_cmp x.0 es ≡ Some x.1) × (p x ≡ true)

  key_where : (y : Name × Entity) (es : List (Name × Entity)) (x : Name × Entity) → T (below_all name_cmp y.0 es) → (look es ≡ Some x → IsFound es x)
      → (b : Bool) → p y ≡ b → cond b (Some y) (look es) ≡ Some x → IsFound (y ∷ es) x
  key_where y es x below rest true q e =
      let same = same_some y x e in (
        subst (λ z. listed.find name_cmp z.0 (y ∷ es) ≡ Some z.1) same (ap (λ b. cond b (Some y.1) (listed.find name_cmp y.0 es)) ((eq_by_cmp_equiv names_total).refl y.0)),
        sym (ap p same) ∙ q,
      )
  key_where y es x below rest false q e =
      let later = rest e in
      let apart = (eq_by_cmp_equiv names_total).symm x.0 y.0 ∙ not_equal _ (below_found y.0 es x below e) in
      (ap (λ b. cond b (Some y.1) (listed.find name_cmp x.0 es)) apart ∙ later.0, later.1)

  found_key : (es : List (Name × Entity)) → T (is_sorted name_cmp es) → (x : Name × Entity) → look es ≡ Some x → IsFound es x
  found_key [] h x e = absurd (not_none x e)
  found_key (y ∷ es) h x e = key_where y es x (first _ _ h) (found_key es (second _ _ h) x) (p y) refl e

  passes_where : (y : Name × Entity) (es : List (Name × Entity)) (b : Bool) → is_some (look es) ≡ true → is_some (cond b (Some y) (look es)) ≡ true
  passes_where y es true r = refl
  passes_where y es false r = r

  any_where : (y : Name × Entity) (es : List (Name × Entity)) (name : Name) (entity : Entity) → ((k : Name) → p (k, entity) ≡ true) → (listed.find name_cmp name es ≡ Some entity → is_some (look es) ≡ true)
      → (b : Bool) → cond b (Some y.1) (listed.find name_cmp name es) ≡ Some entity → is_some (cond (p y) (Some y) (look es)) ≡ true
  any_where y es name entity h rest true e = ap (λ b. is_some (cond b (Some y) (look es))) (ap (λ z. p (y.0, z)) (same_some y.1 entity e) ∙ h y.0)
  any_where y es name entity h rest false e = passes_where y es (p y) (rest e)

  any_found : (es : List (Name × Entity)) (name : Name) (entity : Entity) → ((k : Name) → p (k, entity) ≡ true) → listed.find name_cmp name es ≡ Some entity → is_some (look es) ≡ true
  any_found [] name entity h e = absurd (not_none entity e)
  any_found (y ∷ es) name entity h e = any_where y es name entity h (any_found es name entity h) (eq_by_cmp name_cmp name y.0) e

module _ (handles : Handles) (entity : Entity) where
  abbrev test : Name × Entity → Bool
  test x = is_entity entity x.1

  key_of : (x : Name × Entity) → find test (entries handles) ≡ Some x → get handles x.0 ≡ Some entity
  key_of x e =
      let found = found_key test (entries handles) (entries_sorted handles) x e in
      get-entries handles x.0 ∙ found.0 ∙ ap Some (sym (same_entity entity x.1 found.1))

  pub named_some : (name : Name) → get handles name ≡ Some entity → ((a b : Name) → get handles a ≡ Some entity → get handles b ≡ Some entity → a ≡ b) → named handles entity ≡ Some name
  named_some name h apart = by (find test (entries handles)) refl
    where
      by : (o : Option (Name × Entity)) → find test (entries handles) ≡ o → option_map (λ e. e.0) o ≡ Some name
      by None e = absurd (true_false (sym (any_found test (entries handles) name entity (λ k. entity_itself entity) (sym (get-entries handles name) ∙ h)) ∙ ap is_some e))
      by (Some x) e = ap Some (apart x.0 name (key_of x e) h)

  pub named_none : ((name : Name) → get handles name ≡ Some entity → ⊥) → named handles entity ≡ None
  named_none none = by (find test (entries handles)) refl
    where
      by : (o : Option (Name × Entity)) → find test (entries handles) ≡ o → option_map (λ e. e.0) o ≡ None
      by None e = refl
      by (Some x) e = absurd (none x.0 (key_of x e))

  -- the name that is given has the handle
  pub named_back : (name : Name) → named handles entity ≡ Some name → get handles name ≡ Some entity
  named_back name h = by (find test (entries handles)) refl h
    where
      by : (o : Option (Name × Entity)) → find test (entries handles) ≡ o → option_map (λ e. e.0) o ≡ Some name → get handles name ≡ Some entity
      by None e h = absurd (not_none name h)
      by (Some x) e h = subst (λ k. get handles k ≡ Some entity) (same_some x.0 name h) (key_of x e)

-- ---- of the entities that are kept

pub record Keeps (beings : Beings) (name : Name) (entity : Entity) : Type 0 where
  pub b : Being
  pub found : get beings name ≡ Some b
  pub same : b.entity ≡ entity

module _ (beings : Beings) (name : Name) (entity : Entity) where
  keeps_where : (o : Option Being) → get beings name ≡ o → option_map (λ (b : Being). b.entity) o ≡ Some entity → Keeps beings name entity
  keeps_where None e h = absurd (not_none entity h)
  keeps_where (Some b) e h = record { b = b; found = e; same = same_some b.entity entity h }

  pub keeps : get (handles_of beings) name ≡ Some entity → Keeps beings name entity
  keeps h = keeps_where (get beings name) refl (sym (get-map_values (λ b. b.entity) beings name) ∙ h)

  pub handled : (b : Being) → get beings name ≡ Some b → b.entity ≡ entity → get (handles_of beings) name ≡ Some entity
  handled b h e = get-map_values (λ b. b.entity) beings name ∙ ap (option_map (λ b. b.entity)) h ∙ ap Some e

module _ (seats : Slab Name) (beings : Beings) (seated : Seated seats beings) (entity : Entity) where
  -- the seat of the handle has the name
  pub seat_of : (name : Name) → get (handles_of beings) name ≡ Some entity → slab.get seats entity.index ≡ Some name
  seat_of name h = let k = keeps beings name entity h in subst (λ e. slab.get seats e.index ≡ Some name) k.same (seated name k.b k.found)

  pub handles_apart : (a b : Name) → get (handles_of beings) a ≡ Some entity → get (handles_of beings) b ≡ Some entity → a ≡ b
  handles_apart a b h k = same_some a b (sym (seat_of a h) ∙ seat_of b k)

  pub no_seat : slab.get seats entity.index ≡ None → named (handles_of beings) entity ≡ None
  no_seat none = named_none (handles_of beings) entity (λ name h. not_none name (sym none ∙ seat_of name h))

  module _ (name : Name) (sits : slab.get seats entity.index ≡ Some name) where
    pub no_being : get beings name ≡ None → named (handles_of beings) entity ≡ None
    no_being none = named_none (handles_of beings) entity (λ other h.
        let k = keeps beings other entity h in
        let same = same_some name other (sym sits ∙ seat_of other h) in
        not_none k.b (sym none ∙ ap (get beings) same ∙ k.found))

    pub this_being : (b : Being) → get beings name ≡ Some b → is_entity b.entity entity ≡ true → named (handles_of beings) entity ≡ Some name
    this_being b found same = named_some (handles_of beings) entity name (handled beings name entity b found (same_entity b.entity entity same)) handles_apart

    pub other_being : (b : Being) → get beings name ≡ Some b → is_entity b.entity entity ≡ false → named (handles_of beings) entity ≡ None
    other_being b found apart = named_none (handles_of beings) entity (λ other h.
        let k = keeps beings other entity h in
        let same = same_some name other (sym sits ∙ seat_of other h) in
        let one = same_some b k.b (sym found ∙ ap (get beings) same ∙ k.found) in
        true_false (sym (entity_itself entity) ∙ ap (λ e. is_entity e entity) (sym k.same ∙ ap (λ x. x.entity) (sym one)) ∙ apart))
