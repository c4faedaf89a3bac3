-- What the lists of a table of sections are, after one of them changed.
use Rattle.std.proofs.Common.{◌≡◌, Bool, true, false, cond, refl, sym, ◌∙◌, ap, T, subst}
use Rattle.std.specs.Prelude.{Some}
use Rattle.std.specs.Ordering.{eq_by_cmp, is_eq}
use Rattle.std.specs.declared.cmp.Ordering.{Ordering}
use Rattle.std.specs.declared.cmp.Ordering.TheVariants.{Less, Equal, Greater}
use Rattle.std.specs.Cmp.{eq_by_cmp_equiv}
use Rattle.std.specs.FinMap.{get, insert, get-insert}
use Rattle.eb_base.specs.declared.names.Name.{Name}
use Rattle.eb_base.specs.declared.names.Place.{Place}
use Rattle.eb_base.specs.Places.{place_cmp}
use Rattle.eb_base.specs.Room.{Roomy}
use Rattle.eb_base.proofs.NameOrder.{places_total, exact_places}
use Rattle.eb_world.specs.Tables.{Sections, names_in, room_in, names_at, room_at}

equal : (r : Ordering) → is_eq r ≡ true → r ≡ Equal
equal Less h = absurd (subst T (sym h) tt)
equal Equal h = refl
equal Greater h = absurd (subst T (sym h) tt)

pub same_place_of : (p q : Place) → eq_by_cmp place_cmp p q ≡ true → p ≡ q
same_place_of p q h = exact_places p q (equal _ h)

where_same : (s : Sections) (p q : Place) (w : Roomy Name) (b : Bool) → (b ≡ true → names_in (Some w) ≡ names_at s q) → names_in (cond b (Some w) (get s q)) ≡ names_at s q
where_same s p q w true h = h refl
where_same s p q w false h = refl

-- the list of one section is replaced by one with the same names
pub names_stay : (s : Sections) (p : Place) (w : Roomy Name) → w.items ≡ names_at s p → (q : Place) → names_at (insert s p w) q ≡ names_at s q
names_stay s p w h q =
    ap names_in (get-insert places_total s p w q)
    ∙ where_same s p q w (eq_by_cmp place_cmp q p) (λ e. h ∙ ap (names_at s) (sym (same_place_of q p e)))

pub at_inserted : (s : Sections) (p : Place) (w : Roomy Name) → get (insert s p w) p ≡ Some w
at_inserted s p w = get-insert places_total s p w p ∙ ap (λ b. cond b (Some w) (get s p)) ((eq_by_cmp_equiv places_total).refl p)

pub room_of : (s : Sections) (p : Place) (w : Roomy Name) → room_at (insert s p w) p ≡ w.room
room_of s p w = ap room_in (at_inserted s p w)
