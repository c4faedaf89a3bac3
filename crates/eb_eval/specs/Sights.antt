-- What the reads of a baker mean: a function of the run and of the baker's own authoring type, and of no project.
use Rattle.std.specs.Prelude.{ℕ, pos, [], Option, Some, None, option_and_then}
use Rattle.std.specs.List.{slice_get}
use Rattle.eb_scene.specs.Answers.{Answer}
use Rattle.eb_scene.specs.declared.keys.Key.TheVariants as key
use Rattle.eb_scene.specs.declared.objects.Given.{Given}
use Rattle.eb_scene.specs.declared.objects.Given.TheVariants as given
use Rattle.eb_rule_text.specs.declared.trees.Reach.{Reach}
use Rattle.eb_rules.specs.declared.plans.AuthoredField.{AuthoredField}
use Rattle.eb_rules.specs.declared.plans.FieldPlace.{FieldPlace}
use Rattle.eb_rules.specs.declared.plans.FindTerm.{FindTerm}
use Rattle.eb_rules.specs.declared.plans.FindTerm.TheVariants as find
use Rattle.eb_rules.specs.declared.plans.ReadTerm.{ReadTerm}
use Rattle.eb_rules.specs.declared.plans.ReadTerm.TheVariants as read
use Rattle.eb_meaning.specs.Asks.{Asks, Sight, AValue, AnAnswer, Found, done, look, bind, lift}
use Rattle.eb_meaning.specs.declared.values.Value.{Value}
use Rattle.eb_meaning.specs.declared.values.Value.TheVariants as v
use Rattle.eb_meaning.specs.declared.values.Link.TheVariants as link
use Rattle.eb_eval.specs.declared.ids.RunId.{RunId}
use Rattle.eb_eval.specs.declared.sums.Extreme.{Extreme}
use Rattle.eb_eval.specs.declared.sums.Extreme.TheVariants.{Least, Greatest}
use Rattle.eb_eval.specs.Entities.{own_entity, extra_entity, link_where}
use Rattle.eb_eval.specs.Sums.{sum_value, count_value, best_value}
use Rattle.eb_eval.specs.Walks.{Numbers, values_of, is_there, number_in, value_as, found_at, field_of, nearest, most_levels, gathered, levels_of}

-- what the run's own component holds in a field
abbrev pub held_at : FieldPlace → Answer → Option Given
held_at field a = option_and_then (λ values. slice_get values field.place) (values_of a)

-- the number in a field of the own component
abbrev pub own_value : FieldPlace → Answer → Value
own_value field a = value_as field.kind (number_in (held_at field a))

-- ---- references

-- a reference to an object of the scene
abbrev pub referred : ℕ → Option Given → Asks AValue
referred s (Some (given.Object n)) = bind (look (key.Exists s n)) (λ a. done (v.Link (link_where (is_there a) s n)))
referred s value = done (v.Link link.Null)

-- a field of the asset that a value names
abbrev pub asset_field : FieldPlace → Option Given → Asks Found
asset_field field (Some (given.Asset n)) = bind (look (key.Asset n)) (λ a. done (found_at field a))
asset_field field value = done None

-- ---- the reads

-- the numbers in a field of the children or of all objects below that have the type
abbrev pub numbers_of : RunId → Reach → ℕ → ℕ → Asks Numbers
numbers_of id reach kind place = gathered (record { scene = id.scene; kind = kind; place = place }) (levels_of reach) id.object []

abbrev pub sum_found : RunId → Reach → AuthoredField → Asks AValue
sum_found id reach x = bind (numbers_of id reach x.kind x.field.place) (λ zs. lift (sum_value x.field.kind zs))

-- where objects are counted, no field matters
abbrev pub count_found : RunId → Reach → ℕ → Asks AValue
count_found id reach kind = bind (numbers_of id reach kind 0) (λ zs. done (count_value zs))

abbrev pub best_found : RunId → Extreme → Reach → AuthoredField → Asks Found
best_found id e reach x = bind (numbers_of id reach x.kind x.field.place) (λ zs. done (best_value e x.field.kind zs))

-- the run's own component
abbrev pub own_component : RunId → ℕ → Asks AnAnswer
own_component id own = look (key.Comp id.scene id.object own)

-- each read that always has a value; those of systems and jobs stand in no baker
abbrev pub run_read : RunId → ℕ → ReadTerm → Asks AValue
run_read id own (read.This field) = bind (own_component id own) (λ a. done (own_value field a))
run_read id own (read.Sum reach x) = sum_found id reach x
run_read id own (read.Count reach kind) = count_found id reach kind
run_read id own read.Entity = done (v.Link (link.To (own_entity id.scene id.object)))
run_read id own (read.EntityAt field) = bind (own_component id own) (λ a. referred id.scene (held_at field a))
run_read id own _ = done (v.Int (pos 0))

-- each read that finds a value or nothing
abbrev pub run_find : RunId → ℕ → FindTerm → Asks Found
run_find id own (find.Own x) = field_of id.scene id.object x
run_find id own (find.Parent x) = nearest id.scene x most_levels id.object
run_find id own (find.Asset a field) = bind (own_component id own) (λ b. asset_field field (held_at a b))
run_find id own (find.Min reach x) = best_found id Least reach x
run_find id own (find.Max reach x) = best_found id Greatest reach x
run_find id own _ = done None

abbrev pub run_sight : RunId → ℕ → Sight
run_sight id own = record { read = run_read id own; find = run_find id own; extra = λ place. v.Link (link.To (extra_entity id place)) }
