-- The order of places.
use Rattle.std.specs.Prelude.{ℕ, refl}
use Rattle.std.specs.Ordering.{nat_cmp, ordering_then}
use Rattle.std.specs.declared.cmp.Ordering.{Ordering}
use Rattle.std.specs.Coded.{Coded, code_by, coded×, coded_ℕ}
use Rattle.eb_base.specs.declared.names.Place.{Place}

-- by scene, and then by section
abbrev pub place_cmp : Place → Place → Ordering
place_cmp a b = ordering_then (nat_cmp a.scene b.scene) (nat_cmp a.section b.section)

-- as two numbers
abbrev pub coded_place : Coded Place
coded_place = code_by (ℕ × ℕ) (coded× coded_ℕ coded_ℕ) (λ p. (p.scene, p.section)) (λ q. record { scene = q.0; section = q.1 }) (λ _. refl)
