-- How the statements of a system ended.
use Rattle.std.proofs.Common.{◌≡◌, List, [], ◌∷◌, ◌++◌, flat_map, append_assoc, ◌∙◌, Some, None, ap, refl, sym, subst}
use Rattle.eb_scene.specs.declared.keys.Key.{Key}
use Rattle.eb_schema.specs.declared.baked.BakedEntity.{BakedEntity}
use Rattle.eb_schema.specs.declared.rows.Cell.{Cell}
use Rattle.eb_base.specs.declared.names.Name.{Name}
use Rattle.eb_rules.specs.declared.plans.Step.{Step}
use Rattle.eb_meaning.specs.Asks.{Sight, AnEnd, End, Told, Gives, Through, Broken, run}
use Rattle.eb_meaning.specs.Statements.{body_acts}
use Rattle.eb_meaning.specs.declared.scopes.Extra.{Extra}
use Rattle.eb_meaning.specs.declared.values.Value.{Value}
use Rattle.eb_eval.specs.Runs.{nothing}
use Rattle.eb_meaning.specs.declared.scopes.Scope.{Scope}
use Rattle.eb_meaning.specs.declared.values.RunFault.{RunFault}
use Rattle.eb_meaning.proofs.Ended.{ended_well}
use Rattle.eb_system.specs.Stages.{no_answers, turn_of, turn_under, filled, new_rows}

module _ (s : Sight) (body : List Step) (names : List Value) (own : List Cell) (extras : List Extra) (noted : List Key) where
  abbrev start : Scope
  start = record { names = names; own = own; extras = extras }

  from_nothing : (told : Told End) → names ≡ [] → own ≡ [] → extras ≡ [] → noted ≡ [] → run no_answers (body_acts s body start) noted ≡ told → run no_answers (body_acts s body nothing) [] ≡ told
  from_nothing told n o e k h =
      let same : start ≡ nothing = cc in
      subst (λ ks. run no_answers (body_acts s body nothing) ks ≡ told) k (subst (λ scope. run no_answers (body_acts s body scope) noted ≡ told) same h)

  pub turn_through : (scope : Scope) (keys : List Key) → names ≡ [] → own ≡ [] → extras ≡ [] → noted ≡ [] → run no_answers (body_acts s body start) noted ≡ Gives (Through scope) keys
      → record { added = scope.own; fault = None } ≡ turn_under s body
  turn_through scope keys n o e k h = sym (ap turn_of (ended_well AnEnd no_answers (body_acts s body nothing) (Through scope) keys (from_nothing (Gives (Through scope) keys) n o e k h)).0)

  pub turn_broken : (scope : Scope) (fault : RunFault) (keys : List Key) → names ≡ [] → own ≡ [] → extras ≡ [] → noted ≡ [] → run no_answers (body_acts s body start) noted ≡ Gives (Broken scope fault) keys
      → record { added = scope.own; fault = Some fault } ≡ turn_under s body
  turn_broken scope fault keys n o e k h = sym (ap turn_of (ended_well AnEnd no_answers (body_acts s body nothing) (Broken scope fault) keys (from_nothing (Gives (Broken scope fault) keys) n o e k h)).0)

-- something was added without a fault
pub new_row : (name : Name) (e : BakedEntity) (added : List Cell) → (added ≡ [] → ⊥) → new_rows (name, e) added None ≡ record { name = name; place = e.place; row = (filled e.row added).row } ∷ []
new_row name e [] some = absurd (some refl)
new_row name e (c ∷ cs) some = refl

-- what an entity gives behind those before it, and those that are left
pub one_more : {X : Type 0} (f : Name × BakedEntity → List X) (so_far now all : List X) (e : Name × BakedEntity) (left rest : List (Name × BakedEntity)) → left ≡ e ∷ rest
    → now ≡ so_far ++ f e → so_far ++ flat_map f left ≡ all → now ++ flat_map f rest ≡ all
one_more f so_far now all e left rest is put h =
    ap (λ xs. xs ++ flat_map f rest) put ∙ append_assoc so_far (f e) (flat_map f rest) ∙ ap (λ es. so_far ++ flat_map f es) (sym is) ∙ h
