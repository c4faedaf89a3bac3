-- Looks are in an exact total order, and the names of keys tell keys apart.
use Rattle.std.proofs.Common.{◌≡◌, true, cond, ◌==◌, Decides, refl, sym, ap, subst, ◌∙◌}
use Rattle.std.specs.Cmp.{IsTotalOrder, eq_by_cmp_equiv}
use Rattle.std.specs.Ordering.{eq_by_cmp}
use Rattle.std.proofs.lemmas.Bool.Decides.{same_from_decides}
use Rattle.std.proofs.lemmas.Cmp.{on_total, then_total}
use Rattle.std.proofs.lemmas.Map.Lookups.{CmpEqualImpliesEq, exact_pairs}
use Rattle.std.proofs.lemmas.Map.Views.{tells_apart}
use Rattle.eb_base.specs.Names.{name_cmp}
use Rattle.eb_base.specs.declared.names.Name.{Name}
use Rattle.eb_base.proofs.NameOrder.{names_total, exact_names}
use Rattle.eb_scene.specs.Answers.{same_key}
use Rattle.eb_scene.specs.declared.keys.Key.{Key}
use Rattle.eb_scene.specs.declared.keys.Key.TheVariants.{Comp, Parent, Children, Exists, Asset}
use Rattle.eb_scene.proofs.SameKeys.{told_apart}
use Rattle.eb_record.specs.Readers.{key_name, look_cmp}
use Rattle.eb_record.specs.declared.looks.Look.{Look}

pub looks_total : IsTotalOrder look_cmp
looks_total = then_total (on_total (λ (l : Look). l.key) names_total) (on_total (λ (l : Look). l.run) names_total)

pub exact_looks : CmpEqualImpliesEq look_cmp
exact_looks a b h =
    ap (λ (p : Name × Name). record { key = p.0; run = p.1 })
    (exact_pairs name_cmp name_cmp exact_names exact_names (a.key, a.run) (b.key, b.run) h)

-- ---- names of keys

abbrev named : Name → Key
named n = cond (n.play == 0) (Comp n.scene n.object n.extra) (cond (n.play == 1) (Parent n.scene n.object)
    (cond (n.play == 2) (Children n.scene n.object) (cond (n.play == 3) (Exists n.scene n.object) (Asset n.object))))

named_back : (k : Key) → named (key_name k) ≡ k
named_back (Comp s n kind) = refl
named_back (Parent s n) = refl
named_back (Children s n) = refl
named_back (Exists s n) = refl
named_back (Asset n) = refl

names_decide : (j k : Key) → Decides (eq_by_cmp name_cmp (key_name j) (key_name k)) (j ≡ k)
names_decide j k = (
  λ h. sym (named_back j) ∙ ap named (tells_apart exact_names (key_name j) (key_name k) h) ∙ named_back k,
  λ e. subst (λ x. eq_by_cmp name_cmp (key_name j) (key_name x) ≡ true) e ((eq_by_cmp_equiv names_total).refl (key_name j)),
)

-- two keys are the same where their names are
pub same_named : (j k : Key) → eq_by_cmp name_cmp (key_name j) (key_name k) ≡ same_key j k
same_named j k = same_from_decides (eq_by_cmp name_cmp (key_name j) (key_name k)) (same_key j k) (names_decide j k) (told_apart j k)
