-- The entities of a section are gone: what the world then is.
use Rattle.std.proofs.Common.{◌≡◌, ℕ, zero, suc, ◌+◌, ◌-◌, ◌<◌, Bool, true, false, cond, not, ◌&&◌, ◌||◌, nat_eq, List, [], ◌∷◌, map, length, refl, sym, ◌∙◌, ap, subst, T, arith}
use Rattle.std.specs.Prelude.{Option, Some, None, is_some, option_map, ⊤}
use Rattle.std.specs.List.{AllByRecursion}
use Rattle.std.specs.Ordering.{eq_by_cmp}
use Rattle.std.specs.FinMap.{FinMap, empty, get, remove, retain_keys, keys, entries, len, empty_of_len, get-empty, get-remove, get-retain_keys, contains_key-keys, len-empty, len-entries, len-remove, same_map}
use Rattle.std.proofs.lemmas.List.{length-map}
use Rattle.eb_base.specs.declared.names.Name.{Name}
use Rattle.eb_base.specs.declared.names.Place.{Place}
use Rattle.eb_base.specs.Maps.{map_values, kept_values, passing}
use Rattle.eb_base.specs.Names.{name_cmp}
use Rattle.eb_base.proofs.MapLaws.{get-map_values, get-kept_values}
use Rattle.eb_base.proofs.NameOrder.{names_total, exact_names}
use Rattle.eb_schema.specs.declared.rows.Val.TheVariants as val
use Rattle.eb_schema.specs.Schemas.{Types}
use Rattle.eb_world.specs.declared.beings.Held.{Held}
use Rattle.eb_world.specs.declared.beings.Held.TheVariants.{Num, Link, Null}
use Rattle.eb_world.specs.declared.beings.Being.{Being}
use Rattle.eb_world.specs.Worlds.{Living, gone_value, handles_without, in_row, is_among, is_place, living, tagged, without}
use Rattle.eb_world.specs.Beings.{Beings, cells_of, drop_all, drop_one, handles_of, has_serial, is_of, live_of, meaning, not_of, of_place, shown}
use Rattle.eb_world.proofs.MapFacts.{same_key, len-map_values}
use Rattle.eb_world.proofs.RowFacts.{cells_of-map, map_alike, map_map}

-- ---- one after another is all at once

module _ (place : Place) where
  -- what is left at a name, after one name
  one_where : (o m : Option Being) (t e : Bool) → of_place place m ≡ t → (e ≡ true → o ≡ m) → cond t (cond e None o) o ≡ cond (of_place place o && e) None o
  one_where o m true true h same = sym (ap (λ b. cond (b && true) None o) (ap (of_place place) (same refl) ∙ h))
  one_where o m true false h same = no_one (of_place place o)
    where
      no_one : (b : Bool) → o ≡ cond (b && false) None o
      no_one true = refl
      no_one false = refl
  one_where o m false true h same = sym (ap (λ b. cond (b && true) None o) (ap (of_place place) (same refl) ∙ h))
  one_where o m false false h same = no_one (of_place place o)
    where
      no_one : (b : Bool) → o ≡ cond (b && false) None o
      no_one true = refl
      no_one false = refl

  get_where : (beings : Beings) (name q : Name) (t : Bool) → get (cond t (remove beings name) beings) q ≡ cond t (cond (eq_by_cmp name_cmp q name) None (get beings q)) (get beings q)
  get_where beings name q true = get-remove names_total beings name q
  get_where beings name q false = refl

  pub get_one : (beings : Beings) (name q : Name) → get (drop_one place beings name) q ≡ cond (of_place place (get beings q) && eq_by_cmp name_cmp q name) None (get beings q)
  get_one beings name q =
      get_where beings name q (of_place place (get beings name))
      ∙ one_where (get beings q) (get beings name) (of_place place (get beings name)) (eq_by_cmp name_cmp q name) refl (λ e. ap (get beings) (same_key exact_names q name e))

  -- and after the others
  both : (o : Option Being) (e t : Bool) → cond (of_place place (cond (of_place place o && e) None o) && t) None (cond (of_place place o && e) None o) ≡ cond (of_place place o && (e || t)) None o
  both o true true = by (of_place place o) refl
    where
      by : (b : Bool) → of_place place o ≡ b → cond (of_place place (cond (b && true) None o) && true) None (cond (b && true) None o) ≡ cond (b && true) None o
      by true h = refl
      by false h = ap (λ b. cond (b && true) None o) h
  both o true false = by (of_place place o) refl
    where
      by : (b : Bool) → of_place place o ≡ b → cond (of_place place (cond (b && true) None o) && false) None (cond (b && true) None o) ≡ cond (b && true) None o
      by true h = refl
      by false h = ap (λ b. cond (b && false) None o) h
  both o false t = ap (λ x. cond (of_place place x && t) None x) (no_one (of_place place o))
    where
      no_one : (b : Bool) → cond (b && false) None o ≡ o
      no_one true = refl
      no_one false = refl

  pub get_all : (names : List Name) (beings : Beings) (q : Name) → get (drop_all place names beings) q ≡ cond (of_place place (get beings q) && is_among names q) None (get beings q)
  get_all [] beings q = by (of_place place (get beings q))
    where
      by : (b : Bool) → get beings q ≡ cond (b && false) None (get beings q)
      by true = refl
      by false = refl
  get_all (n ∷ ns) beings q =
      get_all ns (drop_one place beings n) q
      ∙ ap (λ o. cond (of_place place o && is_among ns q) None o) (get_one beings n q)
      ∙ both (get beings q) (eq_by_cmp name_cmp q n) (is_among ns q)

  passes_where : (o : Option Being) (t : Bool) → (of_place place o ≡ true → t ≡ true) → cond (of_place place o && t) None o ≡ passing (λ (b : Being). not (is_of place b)) o
  passes_where None t h = refl
  passes_where (Some b) t h = by (is_of place b) h
    where
      by : (f : Bool) → (f ≡ true → t ≡ true) → cond (f && t) None (Some b) ≡ cond (not f) (Some b) None
      by true h = ap (λ t. cond t None (Some b)) (h refl)
      by false h = refl

  -- where the names hold all that are of the section, just these are taken out
  pub all_dropped : (names : List Name) (beings : Beings) → ((q : Name) → of_place place (get beings q) ≡ true → is_among names q ≡ true) → drop_all place names beings ≡ not_of place beings
  all_dropped names beings h = same_map names_total exact_names _ _ (λ q.
      get_all names beings q ∙ passes_where (get beings q) (is_among names q) (h q)
      ∙ sym (get-kept_values names_total (λ (b : Being). not (is_of place b)) beings q))

-- ---- what is then seen

module _ (place : Place) (types : Types) (beings : Beings) where
  abbrev left : Beings
  left = not_of place beings

  abbrev names : List Name
  names = tagged (live_of types beings) place

  abbrev test : Living → Bool
  test l = is_place place l.tag

  some_of : (o : Option Being) → is_some (passing test (option_map (shown types beings) o)) ≡ of_place place o
  some_of None = refl
  some_of (Some b) = by (is_of place b)
    where
      by : (t : Bool) → is_some (cond t (Some (shown types beings b)) None) ≡ t
      by true = refl
      by false = refl

  pub among_is : (q : Name) → is_among names q ≡ of_place place (get beings q)
  among_is q =
      sym (contains_key-keys (kept_values test (live_of types beings)) q)
      ∙ ap is_some (get-kept_values names_total test (live_of types beings) q ∙ ap (passing test) (get-map_values (shown types beings) beings q))
      ∙ some_of (get beings q)

  at_left : (q : Name) → get left q ≡ passing (λ (b : Being). not (is_of place b)) (get beings q)
  at_left q = get-kept_values names_total (λ (b : Being). not (is_of place b)) beings q

  still_where : (to : Name) (s : ℕ) (x : Being) (t e : Bool) → nat_eq x.entity.serial s ≡ e → is_among names to ≡ t
      → cond (has_serial s (cond (not t) (Some x) None)) (val.To to) val.Gone ≡ gone_value (is_among names) (cond e (val.To to) val.Gone)
  still_where to s x true true h k = sym (ap (λ b. cond b val.Gone (val.To to)) k)
  still_where to s x true false h k = refl
  still_where to s x false true h k = ap (λ b. cond b (val.To to) val.Gone) h ∙ sym (ap (λ b. cond b val.Gone (val.To to)) k)
  still_where to s x false false h k = ap (λ b. cond b (val.To to) val.Gone) h

  goes_where : (to : Name) (s : ℕ) (o : Option Being) → is_among names to ≡ of_place place o
      → cond (has_serial s (passing (λ (b : Being). not (is_of place b)) o)) (val.To to) val.Gone ≡ gone_value (is_among names) (cond (has_serial s o) (val.To to) val.Gone)
  goes_where to s None h = refl
  goes_where to s (Some x) h = still_where to s x (is_of place x) (nat_eq x.entity.serial s) refl h

  meaning_left : (h : Held) → ⊤ → meaning left h ≡ gone_value (is_among names) (meaning beings h)
  meaning_left (Num n) u = refl
  meaning_left (Link to s) u = ap (λ o. cond (has_serial s o) (val.To to) val.Gone) (at_left to) ∙ goes_where to s (get beings to) (among_is to)
  meaning_left Null u = refl

  all_any : (hs : List Held) → AllByRecursion (λ h. ⊤) hs
  all_any [] = tt
  all_any (h ∷ hs) = (tt, all_any hs)

  abbrev gone : Living → Living
  gone l = living l.tag (in_row (gone_value (is_among names)) l.row)

  shown_left : (b : Being) → shown types left b ≡ gone (shown types beings b)
  shown_left b = ap (living b.tag)
      (ap (cells_of types b.kinds) (map_alike (λ h. ⊤) (meaning left) (λ h. gone_value (is_among names) (meaning beings h)) meaning_left b.values (all_any b.values)
      ∙ sym (map_map (gone_value (is_among names)) (meaning beings) b.values))
      ∙ cells_of-map types (gone_value (is_among names)) b.kinds (map (meaning beings) b.values))

  at_without : {X : Type 0} (m : FinMap name_cmp X) (q : Name) → get (retain_keys m (λ name. not (is_among names name))) q ≡ cond (not (is_among names q)) (get m q) None
  at_without m q = get-retain_keys m (λ name. not (is_among names name)) q (λ x tied. ap (λ k. not (is_among names k)) (sym (exact_names q x tied)))

  left_where : {X : Type 0} (f g : Being → X) → ((b : Being) → f b ≡ g b) → (o : Option Being) → option_map f (passing (λ (b : Being). not (is_of place b)) o) ≡ cond (not (of_place place o)) (option_map g o) None
  left_where f g same None = refl
  left_where f g same (Some b) = by (not (is_of place b))
    where
      by : (t : Bool) → option_map f (cond t (Some b) None) ≡ cond t (Some (g b)) None
      by true = ap Some (same b)
      by false = refl

  mapped_where : {X Y : Type 0} (f : X → Y) (t : Bool) (o : Option X) → option_map f (cond t o None) ≡ cond t (option_map f o) None
  mapped_where f true o = refl
  mapped_where f false o = refl

  mapped_twice : (o : Option Being) → option_map gone (option_map (shown types beings) o) ≡ option_map (λ b. gone (shown types beings b)) o
  mapped_twice None = refl
  mapped_twice (Some b) = refl

  pub live_dropped : live_of types left ≡ without (live_of types beings) names
  live_dropped = same_map names_total exact_names _ _ (λ q.
      get-map_values (shown types left) left q ∙ ap (option_map (shown types left)) (at_left q)
      ∙ left_where (shown types left) (λ b. gone (shown types beings b)) shown_left (get beings q)
      ∙ sym (get-map_values gone (retain_keys (live_of types beings) (λ name. not (is_among names name))) q
      ∙ ap (option_map gone) (at_without (live_of types beings) q)
      ∙ mapped_where gone (not (is_among names q)) (get (live_of types beings) q)
      ∙ (λ i. cond (not (among_is q i)) ((ap (option_map gone) (get-map_values (shown types beings) beings q) ∙ mapped_twice (get beings q)) i) None)))

  pub handles_dropped : handles_of left ≡ handles_without (handles_of beings) names
  handles_dropped = same_map names_total exact_names _ _ (λ q.
      get-map_values (λ (b : Being). b.entity) left q ∙ ap (option_map (λ (b : Being). b.entity)) (at_left q)
      ∙ left_where (λ b. b.entity) (λ b. b.entity) (λ b. refl) (get beings q)
      ∙ sym (at_without (handles_of beings) q ∙ (λ i. cond (not (among_is q i)) (get-map_values (λ (b : Being). b.entity) beings q i) None)))

-- ---- how many there were

module _ (place : Place) where
  abbrev ones : Beings → Beings
  ones beings = kept_values (is_of place) beings

  at_ones : (beings : Beings) (q : Name) → get (ones beings) q ≡ passing (is_of place) (get beings q)
  at_ones beings q = get-kept_values names_total (is_of place) beings q

  removed_where : (o : Option Being) (e : Bool) → passing (is_of place) (cond e None o) ≡ cond e None (passing (is_of place) o)
  removed_where o true = refl
  removed_where o false = refl

  ones_removed : (beings : Beings) (name : Name) → ones (remove beings name) ≡ remove (ones beings) name
  ones_removed beings name = same_map names_total exact_names _ _ (λ q.
      at_ones (remove beings name) q ∙ ap (passing (is_of place)) (get-remove names_total beings name q) ∙ removed_where (get beings q) (eq_by_cmp name_cmp q name)
      ∙ sym (get-remove names_total (ones beings) name q ∙ ap (cond (eq_by_cmp name_cmp q name) None) (at_ones beings q)))

  some_one : (o : Option Being) → of_place place o ≡ true → (is_some o ≡ true) × (is_some (passing (is_of place) o) ≡ true)
  some_one None h = absurd (subst T (sym h) tt)
  some_one (Some b) h = (refl, ap (λ t. is_some (cond t (Some b) None)) h)

  not_empty : {X : Type 0} (m : FinMap name_cmp X) (name : Name) → is_some (get m name) ≡ true → 0 < len m
  not_empty m name h = by (len m) refl
    where
      by : (n : ℕ) → len m ≡ n → 0 < n
      by zero e = absurd (subst T (sym h ∙ ap (λ m. is_some (get m name)) (empty_of_len m e) ∙ ap is_some (get-empty name_cmp name)) tt)
      by (suc n) e = omega arith

  one_step : (beings : Beings) (name : Name) (t : Bool) → of_place place (get beings name) ≡ t
      → len (cond t (remove beings name) beings) + len (ones beings) ≡ len beings + len (ones (cond t (remove beings name) beings))
  one_step beings name true h =
      let some = some_one (get beings name) h in
      let a = len-remove names_total beings name ∙ ap (λ t. cond t (len beings - 1) (len beings)) some.0 in
      let b = ap len (ones_removed beings name) ∙ len-remove names_total (ones beings) name ∙ ap (λ t. cond t (len (ones beings) - 1) (len (ones beings))) (ap is_some (at_ones beings name) ∙ some.1) in
      let c = not_empty beings name some.0 in
      let d = not_empty (ones beings) name (ap is_some (at_ones beings name) ∙ some.1) in
      omega (arith, a, b, c, d)
  one_step beings name false h = refl

  all_steps : (names : List Name) (beings : Beings) → len (drop_all place names beings) + len (ones beings) ≡ len beings + len (ones (drop_all place names beings))
  all_steps [] beings = refl
  all_steps (n ∷ ns) beings =
      let first = one_step beings n (of_place place (get beings n)) refl in
      let rest = all_steps ns (drop_one place beings n) in
      omega (arith, first, rest)

  no_ones : (o : Option Being) → passing (is_of place) (passing (λ (b : Being). not (is_of place b)) o) ≡ None
  no_ones None = refl
  no_ones (Some b) = by (is_of place b) refl
    where
      by : (t : Bool) → is_of place b ≡ t → passing (is_of place) (cond (not t) (Some b) None) ≡ None
      by true h = refl
      by false h = ap (λ t. cond t (Some b) None) h

  ones_left : (beings : Beings) → ones (not_of place beings) ≡ empty
  ones_left beings = same_map names_total exact_names _ _ (λ q.
      at_ones (not_of place beings) q ∙ ap (passing (is_of place)) (get-kept_values names_total (λ (b : Being). not (is_of place b)) beings q)
      ∙ no_ones (get beings q) ∙ sym (get-empty name_cmp q))

  all_names : (beings : Beings) (q : Name) → of_place place (get beings q) ≡ true → is_among (keys beings) q ≡ true
  all_names beings q h = sym (contains_key-keys beings q) ∙ (some_one (get beings q) h).0

  -- those that are left and those of the section are all
  pub parted : (beings : Beings) → len (not_of place beings) + len (ones beings) ≡ len beings
  parted beings =
      let same = all_dropped place (keys beings) beings (all_names beings) in
      let none = ap len (ap ones same ∙ ones_left beings) ∙ len-empty name_cmp Being in
      let steps = all_steps (keys beings) beings in
      let here = ap len same in
      omega (arith, none, steps, here)

  shown_where : {Y : Type 0} (f : Being → Y) (p : Y → Bool) → ((b : Being) → p (f b) ≡ is_of place b) → (o : Option Being) → passing p (option_map f o) ≡ option_map f (passing (is_of place) o)
  shown_where f p same None = refl
  shown_where f p same (Some b) = ap (λ t. cond t (Some (f b)) None) (same b) ∙ by (is_of place b)
    where
      by : (t : Bool) → cond t (Some (f b)) None ≡ option_map f (cond t (Some b) None)
      by true = refl
      by false = refl

  pub tagged_count : (types : Types) (beings : Beings) → length (tagged (live_of types beings) place) ≡ len (ones beings)
  tagged_count types beings =
      let test = λ (l : Living). is_place place l.tag in
      let same = same_map names_total exact_names (kept_values test (live_of types beings)) (map_values (shown types beings) (ones beings)) (λ q.
      get-kept_values names_total test (live_of types beings) q ∙ ap (passing test) (get-map_values (shown types beings) beings q)
      ∙ shown_where (shown types beings) test (λ b. refl) (get beings q)
      ∙ sym (get-map_values (shown types beings) (ones beings) q ∙ ap (option_map (shown types beings)) (at_ones beings q))) in
      length-map (entries (kept_values test (live_of types beings))) (λ e. e.0) ∙ sym (len-entries (kept_values test (live_of types beings)))
      ∙ ap len same ∙ len-map_values (shown types beings) (ones beings)
