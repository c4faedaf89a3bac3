-- The order of names, and their text: four numbers joined by points.
use Rattle.std.specs.Prelude.{ℕ, suc, ◌<◌, ◌^◌, take, drop, List, ◌∷◌, ◌++◌, Option, Some, None, option_map, option_and_then, decimal, refl}
use Rattle.std.specs.Ordering.{nat_cmp, ordering_then}
use Rattle.std.specs.declared.cmp.Ordering.{Ordering}
use Rattle.std.specs.Coded.{Coded, code_by, coded×, coded_ℕ}
use Rattle.eb_base.specs.Digits.{number_below, point_in}
use Rattle.eb_base.specs.declared.names.Name.{Name}

-- by play, then scene, then object, then extra
abbrev pub name_cmp : Name → Name → Ordering
name_cmp a b = ordering_then (nat_cmp a.play b.play) (ordering_then (nat_cmp a.scene b.scene) (ordering_then (nat_cmp a.object b.object) (nat_cmp a.extra b.extra)))

-- as four numbers
abbrev pub coded_name : Coded Name
coded_name = code_by (ℕ × (ℕ × (ℕ × ℕ))) (coded× coded_ℕ (coded× coded_ℕ (coded× coded_ℕ coded_ℕ)))
    (λ n. (n.play, (n.scene, (n.object, n.extra)))) (λ p. record { play = p.0; scene = p.1.0; object = p.1.1.0; extra = p.1.1.1 }) (λ _. refl)

-- the numbers of a name of the program are below 2 ^ 32
pub record IsName (n : Name) : Type 0 where
  pub play : n.play < 2 ^ 32
  pub scene : n.scene < 2 ^ 32
  pub object : n.object < 2 ^ 32
  pub extra : n.extra < 2 ^ 32

-- the numbers in decimal, joined by points
abbrev pub name_text : Name → List ℕ
name_text n = decimal n.play ++ 46 ∷ (decimal n.scene ++ 46 ∷ (decimal n.object ++ 46 ∷ decimal n.extra))

-- a number below 2 ^ 32
abbrev pub part : List ℕ → Option ℕ
part text = number_below (2 ^ 32) text

-- the number up to a point, and what stands behind that point
abbrev pub part_at : List ℕ → Option ℕ → Option (ℕ × List ℕ)
part_at text None = None
part_at text (Some at) = option_map (λ n. (n, drop (suc at) text)) (part (take at text))

abbrev pub first_part : List ℕ → Option (ℕ × List ℕ)
first_part text = part_at text (point_in text)

-- the name that a text writes
abbrev pub name_of : List ℕ → Option Name
name_of text =
    option_and_then (λ play.
    option_and_then (λ scene.
    option_and_then (λ object.
    option_map (λ extra. record { play = play.0; scene = scene.0; object = object.0; extra = extra })
    (part object.1)) (first_part scene.1)) (first_part play.1)) (first_part text)
