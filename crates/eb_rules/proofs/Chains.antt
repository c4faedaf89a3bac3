-- What the walk answers at operators, from what it answers at the first operand and behind it.
use Rattle.std.proofs.Common.{◌≡◌, List, map, Ok, refl, rules}
use Rattle.eb_rule_text.specs.declared.trees.Expr.{Expr, the_lemmas}
use Rattle.eb_rule_text.specs.declared.trees.Expr.TheVariants as e
use Rattle.eb_rule_text.specs.declared.trees.Link.{Link}
use Rattle.eb_rules.specs.declared.typing.Resolved.{Resolved}
use Rattle.eb_rules.specs.declared.walking.WalkError.{WalkError}
use Rattle.eb_rules.specs.Scopes.{Where}
use Rattle.eb_rules.specs.Typing.{Places, and_found, chained, typed, typed_link, Stops}

pub typed_chain : (w : Where) (first : Expr) (more : List (Link Expr)) (p : Places)
    → typed w (e.Chain first more) p ≡ and_found (typed w first p) (λ y. chained y.0 (map (typed_link w) more) p y.1)
unfolding typed
typed_chain w first more p = search (rules, the_lemmas)

chain_is : (w : Where) (x first : Expr) (more : List (Link Expr)) (p q : Places) (y : Resolved) → x ≡ e.Chain first more → typed w first p ≡ Ok (y, q)
    → typed w x p ≡ chained y (map (typed_link w) more) p q
chain_is w x first more p q y is h = rw (is, typed_chain w first more p, h) refl

pub chain_made : (w : Where) (x first : Expr) (more : List (Link Expr)) (p q : Places) (y : Resolved) (z : Resolved × Places) → x ≡ e.Chain first more → typed w first p ≡ Ok (y, q)
    → chained y (map (typed_link w) more) p q ≡ Ok z → typed w x p ≡ Ok z
chain_made w x first more p q y z is h made = rw (chain_is w x first more p q y is h) made

pub chain_stops : (w : Where) (x first : Expr) (more : List (Link Expr)) (p q : Places) (y : Resolved) (stop : WalkError) → x ≡ e.Chain first more → typed w first p ≡ Ok (y, q)
    → Stops (chained y (map (typed_link w) more) p q) stop → Stops (typed w x p) stop
chain_stops w x first more p q y stop is h stops = rw (chain_is w x first more p q y is h) stops
