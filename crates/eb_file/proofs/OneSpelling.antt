-- Each image has one spelling.
use Rattle.std.proofs.Common.{◌≡◌, ℕ, List, map, refl, sym, ◌∙◌}
use Rattle.std.specs.Cmp.{IsTotalOrder, nat_cmp_total, on_total}
use Rattle.std.specs.Cmp.Lexicographic.{nat_list_cmp_total}
use Rattle.std.specs.Ordering.{ordering_then}
use Rattle.std.specs.declared.cmp.Ordering.{Ordering}
use Rattle.std.specs.declared.cmp.Ordering.TheVariants.{Less, Equal, Greater}
use Rattle.std.proofs.lemmas.Cmp.{then_total}
use Rattle.std.proofs.lemmas.Map.Lookups.{CmpEqualImpliesEq, exact_bytes, exact_unsigned}
use Rattle.eb_schema.specs.Schemas.{Types}
use Rattle.eb_file.specs.declared.images.Image.{Image}
use Rattle.eb_file.specs.Ascending.{each_once}
use Rattle.eb_file.specs.Images.{name_cmp, types_of, zero_names}
use Rattle.eb_file.specs.Spelling.{Spells, spelling, text_of, types_cmp}
use Rattle.eb_file.proofs.Members.{each_once-IsEachOnce, one_ascending}

pub name_cmp_total : IsTotalOrder name_cmp
name_cmp_total =
    then_total (on_total (λ name. name.play) nat_cmp_total)
    (then_total (on_total (λ name. name.scene) nat_cmp_total)
    (then_total (on_total (λ name. name.object) nat_cmp_total) (on_total (λ name. name.extra) nat_cmp_total)))

both_equal : (r s : Ordering) → ordering_then r s ≡ Equal → (r ≡ Equal) × (s ≡ Equal)
both_equal Less s e = absurd (cc)
both_equal Equal s e = (refl, e)
both_equal Greater s e = absurd (cc)

pub exact_names : CmpEqualImpliesEq name_cmp
exact_names a b e =
    let p = both_equal _ _ e in
    let q = both_equal _ _ p.1 in
    let r = both_equal _ _ q.1 in
    let play = exact_unsigned a.play b.play p.0 in
    let scene = exact_unsigned a.scene b.scene q.0 in
    let object = exact_unsigned a.object b.object r.0 in
    let extra = exact_unsigned a.extra b.extra r.1 in
    λ i. record { play = play i; scene = scene i; object = object i; extra = extra i }

pub one_spelling_lem : (types : Types) (a b : List ℕ) (image : Image) → Spells types a image → Spells types b image → a ≡ b
one_spelling_lem types a b image p q =
    let archetypes = one_ascending nat_list_cmp_total exact_bytes p.archetypes q.archetypes (map types_of image.rows) p.each_archetype q.each_archetype in
    let externals = one_ascending name_cmp_total exact_names p.externals q.externals (zero_names image.rows) p.each_external q.each_external in
    p.text ∙ (λ i. text_of types image (archetypes i) (externals i)) ∙ sym q.text

pub has_spelling_lem : (types : Types) (image : Image) → Spells types (spelling types image) image
unfolding spelling
has_spelling_lem types image = record {
  archetypes = each_once types_cmp (map types_of image.rows);
  externals = each_once name_cmp (zero_names image.rows);
  each_archetype = each_once-IsEachOnce nat_list_cmp_total exact_bytes (map types_of image.rows);
  each_external = each_once-IsEachOnce name_cmp_total exact_names (zero_names image.rows);
  text = refl;
}
