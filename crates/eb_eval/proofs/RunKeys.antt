-- The keys that a run asks are of its scene, and an object whose parent it asks is there.
use Rattle.std.proofs.Common.{◌≡◌, ℕ, zero, suc, ℤ, Bool, true, false, true≢false, ◌&&◌, ◌==◌, List, [], ◌∷◌, ◌++◌, Option, Some, None, is_some, refl, sym}
use Rattle.std.specs.Option.{option_map_or, unwrap_or}
use Rattle.eb_schema.specs.declared.kinds.Authoring.{Authoring}
use Rattle.eb_schema.specs.declared.rows.Cell.{Cell}
use Rattle.eb_schema.specs.declared.rows.Val.{Val}
use Rattle.eb_scene.specs.declared.keys.Key.{Key}
use Rattle.eb_scene.specs.declared.keys.Key.TheVariants.{Comp, Parent, Children, Exists}
use Rattle.eb_scene.specs.declared.objects.Given.{Given}
use Rattle.eb_scene.specs.declared.objects.Given.TheVariants as given
use Rattle.eb_scene.specs.declared.objects.Object.{Object}
use Rattle.eb_scene.specs.Answers.{Answer, answer, has_object_of, has_scene_of}
use Rattle.eb_scene.specs.Edits.{is_there}
use Rattle.eb_scene.specs.Projects.{Content, Objects, numbered, object_in, objects_of, parent_at}
use Rattle.eb_scene.specs.Validity.{IsScene, IsSceneNumber, IsValid}
use Rattle.eb_scene.proofs.ValidTables.{all_found}
use Rattle.eb_rule_text.specs.declared.trees.Reach.{Reach}
use Rattle.eb_rules.specs.Kept.{Kept}
use Rattle.eb_rules.specs.declared.plans.AuthoredField.{AuthoredField}
use Rattle.eb_rules.specs.declared.plans.BakerPlan.{BakerPlan}
use Rattle.eb_rules.specs.declared.plans.FieldPlace.{FieldPlace}
use Rattle.eb_rules.specs.declared.plans.FindTerm.{FindTerm}
use Rattle.eb_rules.specs.declared.plans.FindTerm.TheVariants as find
use Rattle.eb_rules.specs.declared.plans.ReadTerm.{ReadTerm}
use Rattle.eb_rules.specs.declared.plans.ReadTerm.TheVariants as read
use Rattle.eb_meaning.specs.Asks.{AValue, ACell, AVal, AnEnd, Asks, AsksOnly, Form, Found, Many, ReadsAsk, Through, bind, done, lift, look}
use Rattle.eb_meaning.specs.declared.values.Value.{Value}
use Rattle.eb_meaning.specs.declared.values.Value.TheVariants as v
use Rattle.eb_meaning.specs.Statements.{body_acts}
use Rattle.eb_meaning.proofs.Asking.{bind_asks, lift_asks}
use Rattle.eb_meaning.proofs.AskingStatements.{body_asks}
use Rattle.eb_eval.specs.declared.ids.RunId.{RunId}
use Rattle.eb_eval.specs.declared.sums.Extreme.{Extreme}
use Rattle.eb_eval.specs.declared.sums.Extreme.TheVariants.{Least, Greatest}
use Rattle.eb_eval.specs.declared.walks.Sought.{Sought}
use Rattle.eb_eval.specs.Copying.{copied, copied_all, copied_part, copied_type, copied_types, val_where}
use Rattle.eb_eval.specs.Runs.{asks_where, baker_asks, bakes, bakes_where, baker_of, is_run, nothing, run_asks}
use Rattle.eb_eval.specs.Sights.{asset_field, best_found, held_at, own_value, referred, run_find, run_read, run_sight}
use Rattle.eb_eval.specs.Sums.{best_value, count_value, sum_value}
use Rattle.eb_eval.specs.Walks.{Numbers, field_of, found_at, gathered, gathered_all, gathered_one, if_above, levels_of, most_levels, nearest, or_further, own_number, values_of, with_number, above_of, below_of}
use Rattle.eb_eval.specs.Walks.{is_there as is_there_now}
use Rattle.eb_eval.specs.Entities.{link_where}

pub all_both : (a b : Bool) → a ≡ true → b ≡ true → (a && b) ≡ true
all_both true b h k = k
all_both false b h k = absurd (true≢false (sym h))

-- a parent is there, whatever is found under the scene's number
parents_where : (g : Content) → IsValid g → (s : ℕ) (r : Option Objects) → numbered g.scenes s ≡ r → (n : ℕ) → is_there (unwrap_or r []) (parent_at (unwrap_or r []) n) ≡ true
parents_where g valid s None is n = refl
parents_where g valid s (Some es) is n = (all_found (λ e. IsSceneNumber e.0 × IsScene g.schema e.1) s es g.scenes valid.scenes is).1.parents n

module _ (g h : Content) (valid : IsValid g) (id : RunId) (scene : is_some (numbered h.scenes id.scene) ≡ true) (object : is_some (object_in g id.scene id.object) ≡ true) where
  abbrev fits : Key → Bool
  fits k = has_scene_of h k && has_object_of g k

  abbrev Fits : {f : Form} → Asks f → Type 0
  Fits m = AsksOnly fits (answer g) m

  in_scene : (is_some (numbered h.scenes id.scene) && true) ≡ true
  in_scene = all_both _ true scene refl

  look_fits : {f : Form} (k : Key) (next : Answer → Asks f) → fits k ≡ true → Fits (next (answer g k)) → Fits (bind (look k) next)
  look_fits k next is rest = all_both (fits k) _ is rest

  -- ---- upward

  field_fits : (n : ℕ) (x : AuthoredField) → Fits (field_of id.scene n x)
  field_fits n x = look_fits {f = Found} (Comp id.scene n x.kind) (λ a. done (found_at x.field a)) in_scene refl

  further_fits : (found : Option Value) (m : Asks Found) → Fits m → Fits (or_further found m)
  further_fits (Some x) m is = refl
  further_fits None m is = is

  above_fits : (x : AuthoredField) (levels : ℕ) (r : Option ℕ) → is_there (objects_of g id.scene) r ≡ true
      → ((n : ℕ) → is_some (object_in g id.scene n) ≡ true → Fits (nearest id.scene x levels n))
      → Fits (if_above r (λ p. bind (field_of id.scene p x) (λ found. or_further found (nearest id.scene x levels p))))
  above_fits x levels None there rest = refl
  above_fits x levels (Some p) there rest =
      bind_asks fits (answer g) (field_of id.scene p x) (λ found. or_further found (nearest id.scene x levels p)) (field_fits p x)
      (λ found. further_fits found (nearest id.scene x levels p) (rest p there))

  nearest_fits : (x : AuthoredField) (levels n : ℕ) → is_some (object_in g id.scene n) ≡ true → Fits (nearest id.scene x levels n)
  unfolding nearest
  nearest_fits x zero n there = refl
  nearest_fits x (suc levels) n there =
      look_fits {f = Found} (Parent id.scene n) (λ a. if_above (above_of a) (λ p. bind (field_of id.scene p x) (λ found. or_further found (nearest id.scene x levels p)))) (all_both _ _ scene there)
      (above_fits x levels (parent_at (objects_of g id.scene) n) (parents_where g valid id.scene (numbered g.scenes id.scene) refl n) (λ p is. nearest_fits x levels p is))

  -- ---- downward

  abbrev sought_of : ℕ → ℕ → Sought
  sought_of kind place = record { scene = id.scene; kind = kind; place = place }

  own_fits : (kind place n : ℕ) (have : List ℤ) → Fits (own_number (sought_of kind place) n have)
  own_fits kind place n have = look_fits {f = Numbers} (Comp id.scene n kind) (λ a. done (with_number place (values_of a) have)) in_scene refl

  one_fits : (kind place : ℕ) (below : ℕ → List ℤ → Asks Numbers) → ((n : ℕ) (have : List ℤ) → Fits (below n have)) → (n : ℕ) (have : List ℤ) → Fits (gathered_one (sought_of kind place) below n have)
  one_fits kind place below rest n have = bind_asks fits (answer g) (own_number (sought_of kind place) n have) (below n) (own_fits kind place n have) (λ more. rest n more)

  all_fit : (kind place : ℕ) (below : ℕ → List ℤ → Asks Numbers) → ((n : ℕ) (have : List ℤ) → Fits (below n have)) → (ns : List ℕ) (have : List ℤ) → Fits (gathered_all (sought_of kind place) below ns have)
  all_fit kind place below rest [] have = refl
  all_fit kind place below rest (n ∷ ns) have =
      bind_asks fits (answer g) (gathered_one (sought_of kind place) below n have) (gathered_all (sought_of kind place) below ns) (one_fits kind place below rest n have) (λ more. all_fit kind place below rest ns more)

  gathered_fits : (kind place levels n : ℕ) (have : List ℤ) → Fits (gathered (sought_of kind place) levels n have)
  unfolding gathered
  gathered_fits kind place zero n have = refl
  gathered_fits kind place (suc levels) n have =
      look_fits {f = Numbers} (Children id.scene n) (λ a. gathered_all (sought_of kind place) (gathered (sought_of kind place) levels) (below_of a) have) in_scene (all_fit kind place (gathered (sought_of kind place) levels) (λ m more. gathered_fits kind place levels m more) (below_of (answer g (Children id.scene n))) have)

  -- ---- the reads

  referred_fits : (held : Option Given) → Fits (referred id.scene held)
  referred_fits None = refl
  referred_fits (Some (given.Num z)) = refl
  referred_fits (Some (given.Object n)) = look_fits {f = AValue} (Exists id.scene n) (λ a. done (v.Link (link_where (is_there_now a) id.scene n))) in_scene refl
  referred_fits (Some (given.Asset n)) = refl
  referred_fits (Some given.Null) = refl

  asset_fits : (field : FieldPlace) (held : Option Given) → Fits (asset_field field held)
  asset_fits field None = refl
  asset_fits field (Some (given.Num z)) = refl
  asset_fits field (Some (given.Object n)) = refl
  asset_fits field (Some (given.Asset n)) = refl
  asset_fits field (Some given.Null) = refl

  best_fits : (e : Extreme) (reach : Reach) (x : AuthoredField) → Fits (best_found id e reach x)
  best_fits e reach x =
      bind_asks fits (answer g) (gathered (sought_of x.kind x.field.place) (levels_of reach) id.object []) (λ zs. done {g = Found} (best_value e x.field.kind zs))
      (gathered_fits x.kind x.field.place (levels_of reach) id.object []) (λ zs. refl)

  read_fits : (own : ℕ) (x : ReadTerm) → Fits (run_read id own x)
  read_fits own (read.This field) = look_fits {f = AValue} (Comp id.scene id.object own) (λ a. done (own_value field a)) in_scene refl
  read_fits own (read.Field x) = refl
  read_fits own (read.Sum reach x) =
      bind_asks fits (answer g) (gathered (sought_of x.kind x.field.place) (levels_of reach) id.object []) (λ zs. lift {g = AValue} (sum_value x.field.kind zs))
      (gathered_fits x.kind x.field.place (levels_of reach) id.object []) (λ zs. lift_asks fits (answer g) AValue (sum_value x.field.kind zs))
  read_fits own (read.Count reach kind) =
      bind_asks fits (answer g) (gathered (sought_of kind 0) (levels_of reach) id.object []) (λ zs. done {g = AValue} (count_value zs))
      (gathered_fits kind 0 (levels_of reach) id.object []) (λ zs. refl)
  read_fits own (read.SumAll x) = refl
  read_fits own (read.CountAll kind) = refl
  read_fits own read.Entity = refl
  read_fits own (read.EntityAt field) =
      look_fits (Comp id.scene id.object own) (λ a. referred id.scene (held_at field a)) in_scene (referred_fits (held_at field (answer g (Comp id.scene id.object own))))

  find_fits : (own : ℕ) (x : FindTerm) → Fits (run_find id own x)
  find_fits own (find.Own x) = field_fits id.object x
  find_fits own (find.Parent x) = nearest_fits x most_levels id.object object
  find_fits own (find.Asset a field) =
      look_fits (Comp id.scene id.object own) (λ b. asset_field field (held_at a b)) in_scene (asset_fits field (held_at a (answer g (Comp id.scene id.object own))))
  find_fits own (find.Min reach x) = best_fits Least reach x
  find_fits own (find.Max reach x) = best_fits Greatest reach x
  find_fits own (find.At link x) = refl
  find_fits own (find.MaxAll x) = refl

  sight_fits : (own : ℕ) → ReadsAsk fits (answer g) (run_sight id own)
  sight_fits own = record { reads = read_fits own; finds = find_fits own }

  -- ---- the copy baker

  copied_fits : (x : Given) → Fits (copied id.scene x)
  copied_fits (given.Num z) = refl
  copied_fits (given.Object n) = look_fits {f = AVal} (Exists id.scene n) (λ a. done (val_where (is_there_now a) id.scene n)) in_scene refl
  copied_fits (given.Asset n) = refl
  copied_fits given.Null = refl

  copies_fit : (xs : List Given) (have : List Val) → Fits (copied_all id.scene xs have)
  copies_fit [] have = refl
  copies_fit (x ∷ xs) have = bind_asks fits (answer g) (copied id.scene x) (λ y. copied_all id.scene xs (have ++ y ∷ [])) (copied_fits x) (λ y. copies_fit xs (have ++ y ∷ []))

  part_fits : (to : ℕ) (values : Option (List Given)) (cells : List Cell) → Fits (copied_part id.scene to values cells)
  part_fits to None cells = refl
  part_fits to (Some values) cells = bind_asks fits (answer g) (copied_all id.scene values []) (λ copies. done {g = Many ACell} (cells ++ record { kind = to; values = copies } ∷ [])) (copies_fit values []) (λ copies. refl)

  type_fits : (kind : ℕ) (copy : Option ℕ) (cells : List Cell) → Fits (copied_type id kind copy cells)
  type_fits kind None cells = refl
  type_fits kind (Some to) cells = look_fits (Comp id.scene id.object kind) (λ a. copied_part id.scene to (values_of a) cells) in_scene (part_fits to (values_of (answer g (Comp id.scene id.object kind))) cells)

  types_fit : (xs : List Authoring) (cells : List Cell) → Fits (copied_types id xs cells)
  types_fit [] cells = refl
  types_fit (x ∷ xs) cells = bind_asks fits (answer g) (copied_type id x.number x.copy cells) (copied_types id xs) (type_fits x.number x.copy cells) (λ more. types_fit xs more)

  -- ---- the run

  baker_fits : (x : Option BakerPlan) → Fits (baker_asks id x)
  baker_fits None = refl
  baker_fits (Some x) = look_fits {f = AnEnd} (Comp id.scene id.object x.authoring) (λ a. body_acts (run_sight id x.authoring) x.body nothing) in_scene (body_asks fits (answer g) (run_sight id x.authoring) (sight_fits x.authoring) x.body nothing)

  where_fits : (copies : Bool) (rules : Kept) → Fits (asks_where copies rules id)
  where_fits true rules = bind_asks fits (answer g) (copied_types id rules.schema.authoring []) (λ cells. done {g = AnEnd} (Through (record { names = []; own = cells; extras = [] }))) (types_fit rules.schema.authoring []) (λ cells. refl)
  where_fits false rules = baker_fits (baker_of rules id.baker)

-- ---- premises

-- an object with a run is there
nobody : (x : Option BakerPlan) → bakes x [] ≡ true → false ≡ true
nobody None h = h
nobody (Some x) h = h

object_where : (rules : Kept) (copies : Bool) (baker : ℕ) (r : Option Object) → bakes_where copies rules baker (option_map_or (λ o. o.components) r []) ≡ true → is_some r ≡ true
object_where rules true baker None h = absurd (true≢false (sym h))
object_where rules false baker None h = nobody (baker_of rules baker) h
object_where rules copies baker (Some o) h = refl

-- and its scene
scene_where : (r : Option Objects) (n : ℕ) → is_some (numbered (unwrap_or r []) n) ≡ true → is_some r ≡ true
scene_where None n h = absurd (true≢false (sym h))
scene_where (Some es) n h = refl

pub run_fits : (g h : Content) (rules : Kept) (id : RunId) → IsValid g → is_run rules g id ≡ true → is_run rules h id ≡ true
    → AsksOnly (λ k. has_scene_of h k && has_object_of g k) (answer g) (run_asks rules id)
run_fits g h rules id valid here there =
    where_fits g h valid id
    (scene_where (numbered h.scenes id.scene) id.object (object_where rules (id.baker == 0) id.baker (object_in h id.scene id.object) there))
    (object_where rules (id.baker == 0) id.baker (object_in g id.scene id.object) here) (id.baker == 0) rules
