-- One more entity is kept: what the world then is.
use Rattle.std.proofs.Common.{◌≡◌, ℕ, ◌<◌, Bool, true, false, cond, nat_eq, List, map, refl, sym, ◌∙◌, ap, arith}
use Rattle.std.specs.Prelude.{Option, Some, None, is_some, option_map}
use Rattle.std.specs.List.{AllByRecursion}
use Rattle.std.specs.Cmp.{eq_by_cmp_equiv}
use Rattle.std.specs.Ordering.{eq_by_cmp}
use Rattle.std.specs.FinMap.{get, insert, contains_key, get-insert, same_map}
use Rattle.std.proofs.lemmas.Bool.Decides.{nat_tests}
use Rattle.eb_base.specs.declared.names.Name.{Name}
use Rattle.eb_base.specs.Names.{name_cmp}
use Rattle.eb_base.proofs.MapLaws.{get-map_values}
use Rattle.eb_base.proofs.NameOrder.{names_total, exact_names}
use Rattle.eb_schema.specs.declared.rows.Val.{Val}
use Rattle.eb_schema.specs.declared.rows.Val.TheVariants as val
use Rattle.eb_schema.specs.declared.rows.Cell.{Cell}
use Rattle.eb_schema.specs.Rows.{kinds_of}
use Rattle.eb_schema.specs.Schemas.{Types}
use Rattle.eb_world.specs.declared.beings.Held.{Held}
use Rattle.eb_world.specs.declared.beings.Held.TheVariants.{Num, Link, Null}
use Rattle.eb_world.specs.declared.beings.Being.{Being}
use Rattle.eb_world.specs.Worlds.{Living, Live, RowFits, created, kept, kept_value, living}
use Rattle.eb_world.specs.Beings.{Beings, IsUpTo, cells_of, flat, handles_of, has_serial, hold, link_to, live_of, meaning, shown}
use Rattle.eb_world.proofs.MapFacts.{same_key}
use Rattle.eb_world.proofs.RowFacts.{IsHere, cells_of-flat, flat_here, map_alike, map_map}

apart : (a b : ℕ) → a < b → nat_eq b a ≡ false
apart a b h = grind (arith, nat_tests)

same_number : (a : ℕ) → nat_eq a a ≡ true
same_number a = grind (arith, nat_tests)

module _ (beings : Beings) (name : Name) (b : Being) where
  abbrev after : Beings
  after = insert beings name b

  at_new : (q : Name) → get after q ≡ cond (eq_by_cmp name_cmp q name) (Some b) (get beings q)
  at_new q = get-insert names_total beings name b q

  itself : eq_by_cmp name_cmp name name ≡ true
  itself = (eq_by_cmp_equiv names_total).refl name

  -- what was there before stays as it is, since no reference has the new serial
  serial_stays : (to : Name) (s : ℕ) → get beings name ≡ None → s < b.entity.serial → (t : Bool) → eq_by_cmp name_cmp to name ≡ t
      → has_serial s (cond t (Some b) (get beings to)) ≡ has_serial s (get beings to)
  serial_stays to s new h true e = apart s b.entity.serial h ∙ sym (ap (has_serial s) (ap (get beings) (same_key exact_names to name e) ∙ new))
  serial_stays to s new h false e = refl

  meaning_stays : (made : ℕ) → get beings name ≡ None → made < b.entity.serial → (h : Held) → IsUpTo made h → meaning after h ≡ meaning beings h
  meaning_stays made new later (Num n) h = refl
  meaning_stays made new later (Link to s) h =
      ap (λ t. cond t (val.To to) val.Gone)
      (ap (has_serial s) (at_new to) ∙ serial_stays to s new (omega (arith, h, later)) (eq_by_cmp name_cmp to name) refl)
  meaning_stays made new later Null h = refl

  pub shown_stays : (types : Types) (made : ℕ) → get beings name ≡ None → made < b.entity.serial → (x : Being) → AllByRecursion (IsUpTo made) x.values → shown types after x ≡ shown types beings x
  shown_stays types made new later x h =
      ap (λ vs. living x.tag (cells_of types x.kinds vs)) (map_alike (IsUpTo made) (meaning after) (meaning beings) (meaning_stays made new later) x.values h)

  -- a new reference means what was handed in, or none
  abbrev there : Live → Name → Bool
  there live q = contains_key live q

  link_means : (to : Name) (o : Option Being) → get after to ≡ o → meaning after (link_to to o) ≡ cond (is_some o) (val.To to) val.Null
  link_means to None e = refl
  link_means to (Some x) e = ap (λ t. cond t (val.To to) val.Gone) (ap (has_serial x.entity.serial) e ∙ same_number x.entity.serial)

  to_where : (to : Name) (t : Bool) → eq_by_cmp name_cmp to name ≡ t
      → meaning after (cond t (Link to b.entity.serial) (link_to to (get beings to))) ≡ cond (is_some (cond t (Some b) (get beings to))) (val.To to) val.Null
  to_where to true e =
      ap (λ t. cond t (val.To to) val.Gone)
      (ap (has_serial b.entity.serial) (at_new to ∙ ap (λ t. cond t (Some b) (get beings to)) e) ∙ same_number b.entity.serial)
  to_where to false e = link_means to (get beings to) (at_new to ∙ ap (λ t. cond t (Some b) (get beings to)) e)

  some_where : (types : Types) (l : Living) (to : Name) (t : Bool) → is_some (cond t (Some b) (get beings to)) ≡ is_some (cond t (Some l) (option_map (shown types beings) (get beings to)))
  some_where types l to true = refl
  some_where types l to false = some_shown (get beings to)
    where
      some_shown : (o : Option Being) → is_some o ≡ is_some (option_map (shown types beings) o)
      some_shown None = refl
      some_shown (Some x) = refl

  there_is : (types : Types) (l : Living) (to : Name) → is_some (cond (eq_by_cmp name_cmp to name) (Some b) (get beings to)) ≡ contains_key (insert (live_of types beings) name l) to
  there_is types l to =
      some_where types l to (eq_by_cmp name_cmp to name)
      ∙ sym (ap is_some (get-insert names_total (live_of types beings) name l to ∙ ap (cond (eq_by_cmp name_cmp to name) (Some l)) (get-map_values (shown types beings) beings to)))

  held_means : (types : Types) (l : Living) (v : Val) → IsHere v → meaning after (hold beings name b.entity.serial v) ≡ kept_value (contains_key (insert (live_of types beings) name l)) v
  held_means types l (val.Num n) h = refl
  held_means types l (val.To to) h =
      to_where to (eq_by_cmp name_cmp to name) refl ∙ ap (λ t. cond t (val.To to) val.Null) (there_is types l to)
  held_means types l val.Null h = refl
  held_means types l val.Gone h = absurd h

  module _ (types : Types) (row : List Cell) (fits : RowFits types row) (kinds : b.kinds ≡ kinds_of row) (values : b.values ≡ map (hold beings name b.entity.serial) (flat row)) where
    new_shown : shown types after b ≡ living b.tag (kept (insert (live_of types beings) name (living b.tag row)) row)
    new_shown =
        (λ i. living b.tag (cells_of types (kinds i) (map (meaning after) (values i))))
        ∙ ap (λ vs. living b.tag (cells_of types (kinds_of row) vs))
        (map_map (meaning after) (hold beings name b.entity.serial) (flat row)
        ∙ map_alike IsHere _ (kept_value (contains_key (insert (live_of types beings) name (living b.tag row)))) (held_means types (living b.tag row)) (flat row) (flat_here types row fits))
        ∙ ap (living b.tag) (cells_of-flat types (kept_value (contains_key (insert (live_of types beings) name (living b.tag row)))) row fits)

    module _ (made : ℕ) (new : get beings name ≡ None) (later : made < b.entity.serial) (links : (q : Name) (x : Being) → get beings q ≡ Some x → AllByRecursion (IsUpTo made) x.values) where
      others_shown : (q : Name) (o : Option Being) → get beings q ≡ o → option_map (shown types after) o ≡ option_map (shown types beings) o
      others_shown q None e = refl
      others_shown q (Some x) e = ap Some (shown_stays types made new later x (links q x e))

      each_shown : (q : Name) (t : Bool) → option_map (shown types after) (cond t (Some b) (get beings q))
          ≡ cond t (Some (living b.tag (kept (insert (live_of types beings) name (living b.tag row)) row))) (option_map (shown types beings) (get beings q))
      each_shown q true = ap Some new_shown
      each_shown q false = others_shown q (get beings q) refl

      pub live_created : live_of types after ≡ created (live_of types beings) name b.tag row
      live_created = same_map names_total exact_names _ _ (λ q.
          get-map_values (shown types after) after q ∙ ap (option_map (shown types after)) (at_new q) ∙ each_shown q (eq_by_cmp name_cmp q name)
          ∙ sym (get-insert names_total (live_of types beings) name (living b.tag (kept (insert (live_of types beings) name (living b.tag row)) row)) q
          ∙ ap (cond (eq_by_cmp name_cmp q name) (Some (living b.tag (kept (insert (live_of types beings) name (living b.tag row)) row)))) (get-map_values (shown types beings) beings q)))

  mapped_where : {X Y : Type 0} (f : X → Y) (t : Bool) (x : X) (o : Option X) → option_map f (cond t (Some x) o) ≡ cond t (Some (f x)) (option_map f o)
  mapped_where f true x o = refl
  mapped_where f false x o = refl

  pub handles_created : handles_of after ≡ insert (handles_of beings) name b.entity
  handles_created = same_map names_total exact_names _ _ (λ q.
      get-map_values (λ x. x.entity) after q ∙ ap (option_map (λ x. x.entity)) (at_new q) ∙ mapped_where (λ x. x.entity) (eq_by_cmp name_cmp q name) b (get beings q)
      ∙ sym (get-insert names_total (handles_of beings) name b.entity q ∙ ap (cond (eq_by_cmp name_cmp q name) (Some b.entity)) (get-map_values (λ x. x.entity) beings q)))
