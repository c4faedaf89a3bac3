-- What lives once a section is loaded, and once it is unloaded.
use Rattle.std.proofs.Common.{◌≡◌, ◌⊎◌, inl, inr, suc, arith, Bool, true, false, List, [], ◌∷◌, refl, sym, ap, ◌∙◌}
use Rattle.std.specs.Prelude.{Option, None, Some, cond, not, is_some, option_map, Contains}
use Rattle.std.specs.Ordering.{eq_by_cmp}
use Rattle.std.specs.Cmp.{eq_by_cmp_equiv}
use Rattle.std.specs.FinMap.{empty, get, insert, retain_keys, get-insert, get-retain_keys, get-empty, contains_key-keys, same_map}
use Rattle.eb_base.specs.declared.names.Name.{Name}
use Rattle.eb_base.specs.declared.names.Place.{Place}
use Rattle.eb_base.specs.Names.{name_cmp}
use Rattle.eb_base.specs.Maps.{kept_values, passing}
use Rattle.eb_base.proofs.MapLaws.{get-map_values, get-kept_values}
use Rattle.eb_base.proofs.NameOrder.{names_total, exact_names, places_total}
use Rattle.eb_file.specs.declared.images.ImageRow.{ImageRow}
use Rattle.eb_file.specs.declared.images.Image.{Image}
use Rattle.eb_file.specs.Images.{names_of}
use Rattle.eb_world.specs.Worlds.{Live, Living, living, in_row, gone_value, is_among, is_place, tagged}
use Rattle.eb_world.proofs.MapFacts.{same_key}
use Rattle.eb_stream.specs.Loading.{AllOf, cells_of, with_rows, as_stored, HasNumbersAlone, loaded, unloaded}
use Rattle.eb_stream.proofs.LoadFacts.{loaded_numbers}

of_place : (place : Place) (l : Living) → l.tag ≡ Some place → is_place place l.tag ≡ true
of_place place l same = ap (is_place place) same ∙ (eq_by_cmp_equiv places_total).refl place

passed : (place : Place) (found : Option Living) → ((l : Living) → found ≡ Some l → l.tag ≡ Some place) → is_some (passing (λ (l : Living). is_place place l.tag) found) ≡ is_some found
passed place None all = refl
passed place (Some l) all = ap (λ t. is_some (cond t (Some l) None)) (of_place place l (all l refl))

among : (live : Live) (place : Place) → AllOf (Some place) live → (q : Name) → is_among (tagged live place) q ≡ is_some (get live q)
among live place all q =
    sym (contains_key-keys (kept_values (λ (l : Living). is_place place l.tag) live) q)
    ∙ ap is_some (get-kept_values names_total (λ (l : Living). is_place place l.tag) live q)
    ∙ passed place (get live q) (all q)

nothing_left : (found : Option Living) → cond (not (is_some found)) found None ≡ None
nothing_left None = refl
nothing_left (Some l) = refl

-- where every entity came from a section, nothing lives once it is unloaded
pub unloaded_all : (live : Live) (place : Place) → AllOf (Some place) live → unloaded live place ≡ empty
unloaded_all live place all =
    let names = tagged live place in
    let gone : Living → Living = λ l. living l.tag (in_row (gone_value (is_among names)) l.row) in
    let rest = retain_keys live (λ name. not (is_among names name)) in
    same_map names_total exact_names (unloaded live place) empty (λ q.
    get-map_values gone rest q
    ∙ ap (option_map gone) (get-retain_keys live (λ name. not (is_among names name)) q (λ x tied. ap (λ k. not (is_among names k)) (sym (exact_names q x tied))))
    ∙ ap (λ t. option_map gone (cond (not t) (get live q) None)) (among live place all q) ∙ ap (option_map gone) (nothing_left (get live q)) ∙ sym (get-empty {X = Living} name_cmp q))

found_new : (q name : Name) (fresh l : Living) (found : Option Living) (t : Bool) → eq_by_cmp name_cmp q name ≡ t → cond t (Some fresh) found ≡ Some l → (found ≡ Some l) ⊎ ((q ≡ name) × (l ≡ fresh))
found_new q name fresh l found true e has = inr (same_key exact_names q name e, cc)
found_new q name fresh l found false e has = inl has

first_name : (row : ImageRow) (rows : List ImageRow) (q : Name) → q ≡ row.name → Contains (names_of (row ∷ rows)) q
first_name row rows q same = (0, omega arith, sym same)

later_name : (row : ImageRow) (rows : List ImageRow) (q : Name) → Contains (names_of rows) q → Contains (names_of (row ∷ rows)) q
later_name row rows q h = (suc h.0, omega (arith, h.1), h.2)

-- what lives once rows have come lived before, or is one of the rows, under their tag
pub found_loaded : (live : Live) (tag : Option Place) (rows : List ImageRow) (q : Name) (l : Living) → get (with_rows as_stored live tag rows) q ≡ Some l → (get live q ≡ Some l) ⊎ ((l.tag ≡ tag) × Contains (names_of rows) q)
found_loaded live tag [] q l has = inl has
found_loaded live tag (row ∷ rows) q l has =
    let fresh = living tag (cells_of row) in
    elim (found_loaded (insert live row.name fresh) tag rows q l has) [
      | inl before ↦ elim (found_new q row.name fresh l (get live q) (eq_by_cmp name_cmp q row.name) refl (sym (get-insert names_total live row.name fresh q) ∙ before)) [
        | inl older ↦ inl older
        | inr this ↦ inr (ap (λ (l : Living). l.tag) this.1, first_name row rows q this.0)
      ]
      | inr here ↦ inr (here.0, later_name row rows q here.1)
    ]

-- of an empty world, each that lives then is one of the rows
pub found_first : (image : Image) (q : Name) (l : Living) → HasNumbersAlone image → get (loaded empty image) q ≡ Some l → (l.tag ≡ Some image.place) × Contains (names_of image.rows) q
found_first image q l numbers has =
    elim (found_loaded empty (Some image.place) image.rows q l (ap (λ m. get m q) (sym (loaded_numbers empty image numbers)) ∙ has)) [
      | inl none ↦ absurd (cc (get-empty {X = Living} name_cmp q, none))
      | inr here ↦ here
    ]
