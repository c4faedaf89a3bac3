-- The seats of the entities that stay, where one is gone.
use Rattle.std.proofs.Common.{◌≡◌, Bool, true, false, cond, refl, sym, ◌∙◌, ap}
use Rattle.std.specs.Prelude.{Some, None}
use Rattle.std.specs.Cmp.{eq_by_cmp_equiv}
use Rattle.std.specs.Ordering.{eq_by_cmp}
use Rattle.std.specs.FinMap.{get, remove, get-remove}
use Rattle.slab.specs.Slab.{Slab, Updates}
use Rattle.slab.specs.Slab as slab
use Rattle.eb_base.specs.declared.names.Name.{Name}
use Rattle.eb_base.specs.Names.{name_cmp}
use Rattle.eb_base.proofs.NameOrder.{names_total}
use Rattle.eb_world.specs.declared.beings.Being.{Being}
use Rattle.eb_world.specs.Beings.{Beings, Seated}
use Rattle.eb_world.proofs.Naming.{not_none, same_some, true_false}

module _ (seats seats2 : Slab Name) (beings after : Beings) (name : Name) (b : Being) (seated : Seated seats beings) (was : get beings name ≡ Some b)
    (left : after ≡ remove beings name) (emptied : Updates seats seats2 b.entity.index None) where
  seat_where : (q : Name) (x : Being) (t : Bool) → eq_by_cmp name_cmp q name ≡ t → cond t None (get beings q) ≡ Some x → slab.get seats2 x.entity.index ≡ Some q
  seat_where q x true e h = absurd (not_none x h)
  seat_where q x false e h =
      let sits = seated q x h in
      emptied.others x.entity.index (λ same.
      true_false (sym ((eq_by_cmp_equiv names_total).refl name) ∙ ap (λ k. eq_by_cmp name_cmp k name) (same_some name q (sym (seated name b was) ∙ sym (ap (slab.get seats) same) ∙ sits)) ∙ e))
      ∙ sits

  pub still_seated : Seated seats2 after
  still_seated q x h = seat_where q x (eq_by_cmp name_cmp q name) refl (sym (ap (λ m. get m q) left ∙ get-remove names_total beings name q) ∙ h)
