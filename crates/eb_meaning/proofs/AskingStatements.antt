-- What statements ask is asked by their reads alone.
use Rattle.std.proofs.Common.{Bool, true, false, List, [], ◌∷◌, ◌++◌, map, Result, Ok, Err, refl, subst}
use Rattle.eb_rules.specs.declared.plans.Addition.{Addition}
use Rattle.eb_rules.specs.declared.plans.Filling.{Filling}
use Rattle.eb_rules.specs.declared.plans.Step.{Step, map-Step, roll-Step}
use Rattle.eb_rules.specs.declared.plans.Step.TheOpen.{Step-F}
use Rattle.eb_rules.specs.declared.plans.Step.TheFolds.{fold-roll-Step, ind-Step}
use Rattle.eb_scene.specs.declared.keys.Key.{Key}
use Rattle.eb_schema.specs.declared.rows.Cell.{Cell}
use Rattle.eb_schema.specs.declared.rows.Val.{Val}
use Rattle.eb_meaning.specs.declared.scopes.Scope.{Scope}
use Rattle.eb_meaning.specs.declared.values.RunFault.{RunFault}
use Rattle.eb_meaning.specs.declared.values.Value.{Value}
use Rattle.eb_meaning.specs.Asks.{ACell, AVal, Answers, Asks, AsksOnly, Broken, End, Form, Of, ReadsAsk, Sight, Through, bind, done, lift, tried}
use Rattle.eb_meaning.specs.Fields.{tested}
use Rattle.eb_meaning.specs.Meaning.{meaning}
use Rattle.eb_meaning.specs.Operators.{truth}
use Rattle.eb_meaning.specs.Statements.{Acts, acts, acts_step, all_act, block_acts, body_acts, cell, cell_of, cells, choice, field, fields, shut, through, unless_broken, went, with_cell, with_extra, with_given, with_name}
use Rattle.eb_meaning.proofs.Asking.{bind_asks, lift_asks, term_asks}

module _ (p : Key → Bool) (o : Answers) where
  abbrev ActsAsk : Acts → Type 0
  ActsAsk a = (scope : Scope) → AsksOnly p o (a scope)

  went_asks : {A : Type 0} (r : Result A RunFault) (next : A → Acts) (scope : Scope) → ((a : A) → ActsAsk (next a)) → AsksOnly p o (went r next scope)
  went_asks (Ok a) next scope each = each a scope
  went_asks (Err e) next scope each = refl

  given_asks : {g : Form} (m : Asks g) (next : Of g → Acts) → AsksOnly p o m → ((a : Of g) → ActsAsk (next a)) → ActsAsk (with_given m next)
  given_asks m next first each scope = bind_asks p o (tried m) (λ r. went r next scope) first (λ r. went_asks r next scope each)

  unbroken_asks : (next : Acts) (end : End) → ActsAsk next → AsksOnly p o (unless_broken next end)
  unbroken_asks next (Through scope) each = each scope
  unbroken_asks next (Broken scope e) each = refl

  two_ask : (first next : Acts) → ActsAsk first → ActsAsk next → ActsAsk (λ scope. bind (first scope) (unless_broken next))
  two_ask first next one two scope = bind_asks p o (first scope) (unless_broken next) (one scope) (λ end. unbroken_asks next end two)

  block_asks : (body : List Acts) → ActsAsk (all_act body) → ActsAsk (block_acts body)
  block_asks body all scope = bind_asks p o (all_act body scope) (unless_broken (λ more. through (shut scope more))) (all scope) (λ end. unbroken_asks _ end (λ more. refl))

  choice_asks : (b : Bool) (one other : Acts) → ActsAsk one → ActsAsk other → ActsAsk (choice b one other)
  choice_asks true one other first second = first
  choice_asks false one other first second = second

  module _ (s : Sight) (h : ReadsAsk p o s) where
    field_asks : (names : List Value) (x : Filling) → AsksOnly p o (field s names x)
    field_asks names x = bind_asks p o (meaning s x.value names) (λ y. lift {g = AVal} (tested x.kind y)) (term_asks p o s h x.value names) (λ y. lift_asks p o AVal (tested x.kind y))

    fields_ask : (names : List Value) (xs : List Filling) (so_far : List Val) → AsksOnly p o (fields s names xs so_far)
    fields_ask names [] so_far = refl
    fields_ask names (x ∷ xs) so_far = bind_asks p o (field s names x) (λ y. fields s names xs (so_far ++ y ∷ [])) (field_asks names x) (λ y. fields_ask names xs (so_far ++ y ∷ []))

    pub cell_asks : (x : Addition) (names : List Value) → AsksOnly p o (cell s names x)
    cell_asks x names = bind_asks p o (fields s names x.values []) (λ values. done {g = ACell} (cell_of x.kind values)) (fields_ask names x.values []) (λ values. refl)

    cells_ask : (names : List Value) (xs : List Addition) (so_far : List Cell) → AsksOnly p o (cells s names xs so_far)
    cells_ask names [] so_far = refl
    cells_ask names (x ∷ xs) so_far = bind_asks p o (cell s names x) (λ y. cells s names xs (so_far ++ y ∷ [])) (cell_asks x names) (λ y. cells_ask names xs (so_far ++ y ∷ []))

    abbrev StepAsks : Step → Type 0
    StepAsks x = ActsAsk (acts s x)

    abbrev Asking : Type 0
    Asking = (x : Step) × StepAsks x

    -- a list of statements, as a layer holds them
    steps_ask : (xs : List Asking) → ActsAsk (all_act (map (acts s) (map (λ e. e.0) xs)))
    steps_ask [] scope = refl
    steps_ask (x ∷ xs) scope = two_ask (acts s x.0) (all_act (map (acts s) (map (λ e. e.0) xs))) x.1 (steps_ask xs) scope

    layer_asks : (y : Step-F Asking) → ActsAsk (acts_step s (map-Step Step Acts (acts s) (map-Step Asking Step (λ e. e.0) y)))
    layer_asks (Step-F.Let x) scope = given_asks (meaning s x scope.names) (λ y more. through (with_name more y)) (term_asks p o s h x scope.names) (λ y more. refl) scope
    layer_asks (Step-F.Add x) scope = given_asks (cell s scope.names x) (λ y more. through (with_cell more y)) (cell_asks x scope.names) (λ y more. refl) scope
    layer_asks (Step-F.Extra number adds) scope =
        given_asks (cells s scope.names adds []) (λ y more. through (with_extra more (s.extra number) number y)) (cells_ask scope.names adds []) (λ y more. refl) scope
    layer_asks (Step-F.If test body other) scope =
        let one : List Acts = map (acts s) (map (λ e. e.0) body) in
        let two : List Acts = map (acts s) (map (λ e. e.0) other) in
        given_asks (meaning s test scope.names) (λ y. choice (truth y) (block_acts one) (block_acts two)) (term_asks p o s h test scope.names)
        (λ y. choice_asks (truth y) (block_acts one) (block_acts two) (block_asks one (steps_ask body)) (block_asks two (steps_ask other))) scope

    rolled_asks : (y : Step-F Asking) → StepAsks (roll-Step (map-Step Asking Step (λ e. e.0) y))
    unfolding acts
    rolled_asks y scope = rw (fold-roll-Step Acts (acts_step s) (map-Step Asking Step (λ e. e.0) y)) (layer_asks y scope)

    step_asks : (x : Step) → StepAsks x
    step_asks = ind-Step StepAsks (λ x y is. subst (λ z. StepAsks (roll-Step z)) is (rolled_asks y))

    pub body_asks : (body : List Step) → ActsAsk (body_acts s body)
    body_asks [] scope = refl
    body_asks (x ∷ xs) scope = two_ask (acts s x) (body_acts s xs) (step_asks x) (body_asks xs) scope
