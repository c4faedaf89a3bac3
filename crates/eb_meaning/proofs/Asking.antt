-- What expressions ask is asked by their reads alone.
use Rattle.std.proofs.Common.{◌≡◌, Bool, true, false, not, List, [], ◌∷◌, ◌++◌, Option, Some, None, Result, Ok, Err, refl, subst}
use Rattle.std.specs.List.{list_all}
use Rattle.std.proofs.lemmas.List.Folds.{list_all-append}
use Rattle.eb_rule_text.specs.declared.trees.Link.{Link}
use Rattle.eb_rule_text.specs.declared.trees.Op.{Op}
use Rattle.eb_rules.specs.declared.plans.FindTerm.{FindTerm}
use Rattle.eb_rules.specs.declared.plans.Term.{Term, map-Term, roll-Term}
use Rattle.eb_rules.specs.declared.plans.Term.TheOpen.{Term-F}
use Rattle.eb_rules.specs.declared.plans.Term.TheFolds.{fold-roll-Term, ind-Term}
use Rattle.eb_scene.specs.declared.keys.Key.{Key}
use Rattle.eb_meaning.specs.declared.values.RunFault.{RunFault}
use Rattle.eb_meaning.specs.declared.values.Value.{Value}
use Rattle.eb_meaning.specs.declared.values.Value.TheVariants as v
use Rattle.eb_meaning.specs.Asks.{Answers, Asks, AsksOnly, AValue, Form, Found, Of, ReadsAsk, Sight, asked, bind, done, further, lift, outcome}
use Rattle.eb_meaning.specs.Meaning.{Means, first_found, with_right, chain_value, meaning, meaning_step, else_found, else_value, left_or}
use Rattle.eb_meaning.specs.Operators.{applied, left_decides, negated, to_fix, to_int, truth}

module _ (p : Key → Bool) (o : Answers) where
  pass_both : (xs ys : List Key) → list_all p xs ≡ true → list_all p ys ≡ true → list_all p (xs ++ ys) ≡ true
  pass_both xs ys first then_too = rw (list_all-append p xs ys, first, then_too) refl

  pass_further : {A : Type 0} (r : Result A RunFault) (next : A → List Key) → ((a : A) → list_all p (next a) ≡ true) → list_all p (further r next) ≡ true
  pass_further (Ok a) next each = each a
  pass_further (Err e) next each = refl

  pub bind_asks : {g h : Form} (m : Asks g) (next : Of g → Asks h) → AsksOnly p o m → ((a : Of g) → AsksOnly p o (next a)) → AsksOnly p o (bind m next)
  bind_asks m next first each = pass_both (asked o m) _ first (pass_further (outcome o m) (λ a. asked o (next a)) each)

  pub lift_asks : (g : Form) (r : Result (Of g) RunFault) → AsksOnly {g = g} p o (lift r)
  lift_asks g (Ok a) = refl
  lift_asks g (Err e) = refl

  else_found_asks : (found : Option Value) (m : Asks Found) → AsksOnly p o m → AsksOnly p o (else_found found m)
  else_found_asks (Some x) m is = refl
  else_found_asks None m is = is

  else_value_asks : (found : Option Value) (m : Asks AValue) → AsksOnly p o m → AsksOnly p o (else_value found m)
  else_value_asks (Some x) m is = refl
  else_value_asks None m is = is

  left_or_asks : (b : Bool) (left : Value) (m : Asks AValue) → AsksOnly p o m → AsksOnly p o (left_or b left m)
  left_or_asks true left m is = refl
  left_or_asks false left m is = is

  right_asks : (op : Op) (m : Asks AValue) (left : Value) → AsksOnly p o m → AsksOnly p o (with_right op m left)
  right_asks op m left is = left_or_asks (left_decides op left) left (bind m (λ right. lift (applied op left right))) (bind_asks m (λ right. lift {g = AValue} (applied op left right)) is (λ right. lift_asks AValue (applied op left right)))

  module _ (s : Sight) (h : ReadsAsk p o s) where
    finds_ask : (xs : List FindTerm) → AsksOnly p o (first_found s xs)
    finds_ask [] = refl
    finds_ask (x ∷ xs) = bind_asks (s.find x) (λ found. else_found found (first_found s xs)) (h.finds x) (λ found. else_found_asks found (first_found s xs) (finds_ask xs))

    abbrev TermAsks : Term → Type 0
    TermAsks x = (names : List Value) → AsksOnly p o (meaning s x names)

    abbrev Asking : Type 0
    Asking = (x : Term) × TermAsks x

    abbrev meant : Term-F Asking → Term-F Means
    meant y = map-Term Term Means (meaning s) (map-Term Asking Term (λ e. e.0) y)

    abbrev links_of : Term-F Means → List (Link Means)
    links_of (Term-F.Chain first more) = more
    links_of _ = []

    chain_asks : (first : Asking) (more : List (Link Asking)) (names : List Value) (left : Value) → AsksOnly p o (chain_value (links_of (meant (Term-F.Chain first more))) names left)
    chain_asks first [] names left = refl
    chain_asks first (x ∷ xs) names left = bind_asks (with_right x.op (meaning s x.right.0 names) left) (chain_value (links_of (meant (Term-F.Chain first xs))) names) (right_asks x.op (meaning s x.right.0 names) left (x.right.1 names)) (λ y. chain_asks first xs names y)

    layer_asks : (y : Term-F Asking) (names : List Value) → AsksOnly p o (meaning_step s (meant y) names)
    layer_asks (Term-F.Int n) names = refl
    layer_asks (Term-F.Fix n) names = refl
    layer_asks Term-F.True names = refl
    layer_asks Term-F.False names = refl
    layer_asks Term-F.Null names = refl
    layer_asks (Term-F.Name at) names = refl
    layer_asks (Term-F.ToFix x) names = bind_asks (meaning s x.0 names) (λ y. lift {g = AValue} (to_fix y)) (x.1 names) (λ y. lift_asks AValue (to_fix y))
    layer_asks (Term-F.ToInt x) names = bind_asks (meaning s x.0 names) (λ y. lift {g = AValue} (to_int y)) (x.1 names) (λ y. lift_asks AValue (to_int y))
    layer_asks (Term-F.Read x) names = h.reads x
    layer_asks (Term-F.Find finds x) names = bind_asks (first_found s finds) (λ found. else_value found (meaning s x.0 names)) (finds_ask finds) (λ found. else_value_asks found (meaning s x.0 names) (x.1 names))
    layer_asks (Term-F.Negate x) names = bind_asks (meaning s x.0 names) (λ y. lift {g = AValue} (negated y)) (x.1 names) (λ y. lift_asks AValue (negated y))
    layer_asks (Term-F.Not x) names = bind_asks (meaning s x.0 names) (λ y. done {g = AValue} (v.Truth (not (truth y)))) (x.1 names) (λ y. refl)
    layer_asks (Term-F.Chain first more) names = bind_asks (meaning s first.0 names) (chain_value (links_of (meant (Term-F.Chain first more))) names) (first.1 names) (λ y. chain_asks first more names y)

    rolled_asks : (y : Term-F Asking) → TermAsks (roll-Term (map-Term Asking Term (λ e. e.0) y))
    unfolding meaning
    rolled_asks y names = rw (fold-roll-Term Means (meaning_step s) (map-Term Asking Term (λ e. e.0) y)) (layer_asks y names)

    pub term_asks : (x : Term) → TermAsks x
    term_asks = ind-Term TermAsks (λ x y is. subst (λ z. TermAsks (roll-Term z)) is (rolled_asks y))
