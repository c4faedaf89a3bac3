-- The objects of a scene stay valid: one made, one marked, one put below another, one taken out with all below it.
use Rattle.std.proofs.Common.{◌≡◌, ℕ, suc, ◌+◌, ◌<◌, ◌≤◌, ◌⊎◌, inl, inr, List, [], ◌∷◌, length, Bool, true, false, cond, not, nat_eq, nat_le, nat_lt, is_some, Option, Some, None, Result, Ok, refl, sym, ap, subst, ◌∙◌, true≢false, arith}
use Rattle.std.specs.Prelude.{option_and_then}
use Rattle.std.specs.Map.{set_value}
use Rattle.std.specs.BTreeMap.{is_at}
use Rattle.std.specs.List.Sorted.{IsStrictlySortedBy}
use Rattle.std.specs.Ordering.{nat_cmp}
use Rattle.std.proofs.lemmas.Bool.{cases_Bool}
use Rattle.std.proofs.lemmas.Bool.Decides.{nat_tests}
use Rattle.eb_schema.specs.Schemas.{Types}
use Rattle.eb_schema.proofs.SoundFacts.{unless}
use Rattle.eb_scene.specs.declared.objects.Object.{Object}
use Rattle.eb_scene.specs.declared.edits.EditFault.{EditFault}
use Rattle.eb_scene.specs.declared.edits.EditFault.TheVariants as fault
use Rattle.eb_scene.specs.Numbers.{has_number}
use Rattle.eb_scene.specs.Projects.{Objects, numbered, parent_at, above, most_depth}
use Rattle.eb_scene.specs.Tables.{with_numbered, set_found, changed}
use Rattle.eb_scene.specs.Trees.{height, subtree, without_all}
use Rattle.eb_scene.specs.Edits.{is_there, is_past, fresh, marked, parented, most_objects, object_added, section_set, parent_set, object_removed}
use Rattle.eb_scene.specs.Validity.{IsNumber, IsObject, IsScene}
use Rattle.eb_scene.proofs.Removing.{sorted_without_all}
use Rattle.eb_scene.proofs.ValidTables.{all_put, all_changed, put_at, set_at, order_put, order_changed, count_put, count_changed}
use Rattle.eb_scene.proofs.ValidTrees.{above_alike, above_beside, above_shorter}
use Rattle.eb_scene.proofs.ValidMoves.{moved_depth, subtree_whole, out_at, out_count, out_all}

-- ---- small facts

abbrev pub made : {X : Type 0} → X → Result X EditFault
made x = Ok x

pub ok_same : {X : Type 0} (x y : X) → made x ≡ made y → x ≡ y
ok_same x y h = cc

pub not_false : (b : Bool) → not b ≡ false → b ≡ true
not_false true h = refl
not_false false h = absurd (true≢false h)

pub what_is_there : {X : Type 0} (r : Option X) → is_some r ≡ true → (x : X) × (r ≡ Some x)
what_is_there None h = absurd (true≢false (sym h))
what_is_there (Some x) h = (x, refl)

nothing_there : {X : Type 0} (r : Option X) → is_some r ≡ false → r ≡ None
nothing_there None h = refl
nothing_there (Some x) h = absurd (true≢false h)

pub none_ordered : IsStrictlySortedBy nat_cmp []
unfolding IsStrictlySortedBy
none_ordered = tt

-- ---- one object in place of what was at its number

module _ (es fs : Objects) (n : ℕ) (o : Object) (look : (m : ℕ) → numbered fs m ≡ cond (nat_eq m n) (Some o) (numbered es m)) where
  parent_here : (m : ℕ) → nat_eq m n ≡ true → parent_at fs m ≡ o.parent
  parent_here m is = ap (option_and_then (λ w. w.parent)) (look m ∙ ap (λ b. cond b (Some o) (numbered es m)) is)

  parent_other : (m : ℕ) → nat_eq m n ≡ false → parent_at fs m ≡ parent_at es m
  parent_other m is = ap (option_and_then (λ w. w.parent)) (look m ∙ ap (λ b. cond b (Some o) (numbered es m)) is)

  still_some : (b : Bool) (r : Option Object) → is_some r ≡ true → is_some (cond b (Some o) r) ≡ true
  still_some true r h = refl
  still_some false r h = h

  still_there : (q : Option ℕ) → is_there es q ≡ true → is_there fs q ≡ true
  still_there None h = refl
  still_there (Some p) h = ap is_some (look p) ∙ still_some (nat_eq p n) (numbered es p) h

  parents_there : is_there es o.parent ≡ true → ((m : ℕ) → is_there es (parent_at es m) ≡ true) → (m : ℕ) → is_there fs (parent_at fs m) ≡ true
  parents_there over old m =
      elim (cases_Bool (nat_eq m n)) [
        | inl is ↦ ap (is_there fs) (parent_here m is) ∙ still_there o.parent over
        | inr is ↦ ap (is_there fs) (parent_other m is) ∙ still_there (parent_at es m) (old m)
      ]

-- ---- a change that keeps parents

module _ (f : Object → Object) (kept : (o : Object) → (f o).parent ≡ o.parent) (es : Objects) (n : ℕ) where
  alike_one : (o : Object) → numbered es n ≡ Some o → (m : ℕ) → parent_at (set_value (is_at (nat_cmp n)) es (f o)) m ≡ parent_at es m
  alike_one o found m =
      let look = set_at n m o (f o) es found in
      elim (cases_Bool (nat_eq m n)) [
        | inl is ↦
            let same : m ≡ n = grind (arith, nat_tests) in
            ap (option_and_then (λ w. w.parent)) (look ∙ ap (λ b. cond b (Some (f o)) (numbered es m)) is) ∙ kept o ∙ sym (ap (option_and_then (λ w. w.parent)) (ap (numbered es) same ∙ found))
        | inr is ↦ ap (option_and_then (λ w. w.parent)) (look ∙ ap (λ b. cond b (Some (f o)) (numbered es m)) is)
      ]

  alike_where : (r : Option Object) → numbered es n ≡ r → (m : ℕ) → parent_at (set_found f es n r) m ≡ parent_at es m
  alike_where None is m = refl
  alike_where (Some o) is m = alike_one o is m

  pub alike : (m : ℕ) → parent_at (changed f es n) m ≡ parent_at es m
  alike = alike_where (numbered es n) refl

  there_one : (o : Object) → numbered es n ≡ Some o → (q : Option ℕ) → is_there es q ≡ true → is_there (set_value (is_at (nat_cmp n)) es (f o)) q ≡ true
  there_one o found = still_there es (set_value (is_at (nat_cmp n)) es (f o)) n (f o) (λ m. set_at n m o (f o) es found)

  there_where : (r : Option Object) → numbered es n ≡ r → (q : Option ℕ) → is_there es q ≡ true → is_there (set_found f es n r) q ≡ true
  there_where None is q h = h
  there_where (Some o) is q h = there_one o is q h

  pub still : (q : Option ℕ) → is_there es q ≡ true → is_there (changed f es n) q ≡ true
  still = there_where (numbered es n) refl

module _ (types : Types) where
  pub changed_valid : (f : Object → Object) (es : Objects) (n : ℕ) → ((o : Object) → (f o).parent ≡ o.parent) → ((o : Object) → numbered es n ≡ Some o → IsObject types n o → IsObject types n (f o))
      → IsScene types es → IsScene types (changed f es n)
  changed_valid f es n kept sound scene =
      record {
        order = order_changed f n es scene.order;
        few = subst (λ k. k ≤ most_objects) (sym (count_changed f n es)) scene.few;
        objects = all_changed (λ e. IsObject types e.0 e.1) f n es sound scene.objects;
        parents = λ m. ap (is_there (changed f es n)) (alike f kept es n m) ∙ still f kept es n (parent_at es m) (scene.parents m);
        depths = λ m. subst (λ k. length k ≤ most_depth) (sym (above_alike es (changed f es n) (alike f kept es n) (suc most_depth) (Some m))) (scene.depths m);
      }

  -- ---- an object made

  fresh_valid : (n : ℕ) (parent mark : Option ℕ) → IsNumber n → is_past mark ≡ false → IsObject types n (fresh n parent mark)
  fresh_valid n parent mark range low = record { number = refl; range = range; mark = low; parts = record { order = none_ordered; few = omega arith; each = tt } }

  module _ (es : Objects) (n : ℕ) (parent mark : Option ℕ) (scene : IsScene types es) (absent : numbered es n ≡ None) (over : is_there es parent ≡ true) where
    abbrev new : Objects
    new = with_numbered es n (fresh n parent mark)

    look : (m : ℕ) → numbered new m ≡ cond (nat_eq m n) (Some (fresh n parent mark)) (numbered es m)
    look m = put_at n m (fresh n parent mark) es

    others : (m : ℕ) → nat_eq m n ≡ false → parent_at new m ≡ parent_at es m
    others = parent_other es new n (fresh n parent mark) look

    way : (k : ℕ) (q : Option ℕ) → is_there es q ≡ true → above k new q ≡ above k es q
    way = above_beside es new n others absent scene.parents

    way_here : (k m : ℕ) → nat_eq m n ≡ true → length (above (suc k) new (Some m)) ≡ suc (length (above k es parent))
    unfolding above
    way_here k m is = ap (λ q. suc (length (above k new q))) (parent_here es new n (fresh n parent mark) look m is) ∙ ap (λ ns. suc (length ns)) (way k parent over)

    way_other : (k m : ℕ) → nat_eq m n ≡ false → length (above (suc k) new (Some m)) ≡ length (above (suc k) es (Some m))
    unfolding above
    way_other k m is = ap (λ q. suc (length (above k new q))) (others m is) ∙ ap (λ ns. suc (length ns)) (way k (parent_at es m) (scene.parents m))

    added_depth : length (above most_depth es parent) < most_depth → (m : ℕ) → length (above (suc most_depth) new (Some m)) ≤ most_depth
    added_depth low m =
        elim (cases_Bool (nat_eq m n)) [
          | inl is ↦ let e = way_here most_depth m is in omega (arith, low, e)
          | inr is ↦ let e = way_other most_depth m is in let old = scene.depths m in omega (arith, e, old)
        ]

    added_valid : IsNumber n → length es < most_objects → length (above most_depth es parent) < most_depth → is_past mark ≡ false → IsScene types new
    added_valid range room low mark_low =
        record {
          order = order_put n (fresh n parent mark) es scene.order;
          few = let more = count_put n (fresh n parent mark) es in omega (arith, more, room);
          objects = all_put (λ e. IsObject types e.0 e.1) n (fresh n parent mark) es (fresh_valid n parent mark range mark_low) scene.objects;
          parents = parents_there es new n (fresh n parent mark) look over scene.parents;
          depths = added_depth low;
        }

  pub added : (es : Objects) (n : ℕ) (parent mark : Option ℕ) (fs : Objects) → IsScene types es → IsNumber n → object_added es n parent mark ≡ Ok fs → IsScene types fs
  added es n parent mark fs scene range done =
      let a = unless (is_some (numbered es n)) fault.ObjectTaken _ fs done in
      let b = unless (not (is_there es parent)) fault.NoParent _ fs a.1 in
      let c = unless (nat_le most_objects (length es)) fault.ObjectLimit _ fs b.1 in
      let d = unless (nat_le most_depth (length (above most_depth es parent))) fault.DepthLimit _ fs c.1 in
      let e = unless (is_past mark) fault.SectionRange _ fs d.1 in
      let room : length es < most_objects = grind (arith, nat_tests, c.0) in
      let low : length (above most_depth es parent) < most_depth = grind (arith, nat_tests, d.0) in
      subst (IsScene types) (ok_same _ fs e.1)
      (added_valid es n parent mark scene (nothing_there (numbered es n) a.0) (not_false (is_there es parent) b.0) range room low e.0)

  -- ---- an object marked

  marked_valid : (mark : Option ℕ) (n : ℕ) → is_past mark ≡ false → (o : Object) → IsObject types n o → IsObject types n (marked mark o)
  marked_valid mark n low o sound = record { number = sound.number; range = sound.range; mark = low; parts = sound.parts }

  pub sectioned : (es : Objects) (n : ℕ) (mark : Option ℕ) (fs : Objects) → IsScene types es → section_set es n mark ≡ Ok fs → IsScene types fs
  sectioned es n mark fs scene done =
      let a = unless (not (is_some (numbered es n))) fault.NoObject _ fs done in
      let b = unless (is_past mark) fault.SectionRange _ fs a.1 in
      subst (IsScene types) (ok_same _ fs b.1) (changed_valid (marked mark) es n (λ o. refl) (λ o found. marked_valid mark n b.0 o) scene)

  -- ---- an object put below another one

  parented_valid : (parent : Option ℕ) (n : ℕ) (o : Object) → IsObject types n o → IsObject types n (parented parent o)
  parented_valid parent n o sound = record { number = sound.number; range = sound.range; mark = sound.mark; parts = sound.parts }

  moved_valid : (es : Objects) (n : ℕ) (parent : Option ℕ) (o : Object) → IsScene types es → numbered es n ≡ Some o → is_there es parent ≡ true → has_number (above most_depth es parent) n ≡ false
      → length (above most_depth es parent) + height most_depth es (n ∷ []) ≤ most_depth → IsScene types (changed (parented parent) es n)
  moved_valid es n parent o scene found over beside fits =
      let new : Objects = changed (parented parent) es n in
      let same : new ≡ set_value (is_at (nat_cmp n)) es (parented parent o) = ap (set_found (parented parent) es n) found in
      let look : ((m : ℕ) → numbered new m ≡ cond (nat_eq m n) (Some (parented parent o)) (numbered es m)) = (λ m. ap (λ fs. numbered fs m) same ∙ set_at n m o (parented parent o) es found) in
      let itself : nat_eq n n ≡ true = grind (arith, nat_tests) in
      record {
        order = order_changed (parented parent) n es scene.order;
        few = subst (λ k. k ≤ most_objects) (sym (count_changed (parented parent) n es)) scene.few;
        objects = all_changed (λ e. IsObject types e.0 e.1) (parented parent) n es (λ w there. parented_valid parent n w) scene.objects;
        parents = parents_there es new n (parented parent o) look over scene.parents;
        depths = moved_depth es new n parent (parent_here es new n (parented parent o) look n itself) (parent_other es new n (parented parent o) look) most_depth beside scene.depths fits;
      }

  pub moved : (es : Objects) (n : ℕ) (parent : Option ℕ) (fs : Objects) → IsScene types es → parent_set es n parent ≡ Ok fs → IsScene types fs
  moved es n parent fs scene done =
      let a = unless (not (is_some (numbered es n))) fault.NoObject _ fs done in
      let b = unless (not (is_there es parent)) fault.NoParent _ fs a.1 in
      let c = unless (has_number (above most_depth es parent) n) fault.Cycle _ fs b.1 in
      let d = unless (nat_lt most_depth (length (above most_depth es parent) + height most_depth es (n ∷ []))) fault.DepthLimit _ fs c.1 in
      let o = what_is_there (numbered es n) (not_false (is_some (numbered es n)) a.0) in
      let fits : length (above most_depth es parent) + height most_depth es (n ∷ []) ≤ most_depth = grind (arith, nat_tests, d.0) in
      subst (IsScene types) (ok_same _ fs d.1) (moved_valid es n parent o.0 scene o.1 (not_false (is_there es parent) b.0) c.0 fits)

  -- ---- an object taken out with all below it

  module _ (es : Objects) (ns : List ℕ) (scene : IsScene types es) (whole : (p m : ℕ) → has_number ns p ≡ true → parent_at es m ≡ Some p → has_number ns m ≡ true) where
    gone_parent : (m : ℕ) → has_number ns m ≡ true → parent_at (without_all es ns) m ≡ None
    gone_parent m is = ap (option_and_then (λ o. o.parent)) (out_at ns es m scene.order ∙ ap (λ b. cond b None (numbered es m)) is)

    left_parent : (m : ℕ) → has_number ns m ≡ false → parent_at (without_all es ns) m ≡ parent_at es m
    left_parent m is = ap (option_and_then (λ o. o.parent)) (out_at ns es m scene.order ∙ ap (λ b. cond b None (numbered es m)) is)

    left_there : (q : Option ℕ) (m : ℕ) → parent_at es m ≡ q → has_number ns m ≡ false → is_there es q ≡ true → is_there (without_all es ns) q ≡ true
    left_there None m over is h = refl
    left_there (Some p) m over is h =
        elim (cases_Bool (has_number ns p)) [
          | inl below ↦ absurd (true≢false (sym (whole p m below over) ∙ is))
          | inr beside ↦ ap is_some (out_at ns es p scene.order ∙ ap (λ b. cond b None (numbered es p)) beside) ∙ h
        ]

    left_parents : (m : ℕ) → is_there (without_all es ns) (parent_at (without_all es ns) m) ≡ true
    left_parents m =
        elim (cases_Bool (has_number ns m)) [
          | inl is ↦ ap (is_there (without_all es ns)) (gone_parent m is)
          | inr is ↦ ap (is_there (without_all es ns)) (left_parent m is) ∙ left_there (parent_at es m) m refl is (scene.parents m)
        ]

    either_parent : (m : ℕ) → (parent_at (without_all es ns) m ≡ None) ⊎ (parent_at (without_all es ns) m ≡ parent_at es m)
    either_parent m = elim (cases_Bool (has_number ns m)) [ inl is ↦ inl (gone_parent m is) | inr is ↦ inr (left_parent m is) ]

    out_valid : IsScene types (without_all es ns)
    out_valid =
        record {
          order = sorted_without_all ns es scene.order;
          few = let fewer = out_count ns es in let few = scene.few in omega (arith, fewer, few);
          objects = out_all (λ e. IsObject types e.0 e.1) ns es scene.objects;
          parents = left_parents;
          depths = λ m. let shorter = above_shorter es (without_all es ns) either_parent (suc most_depth) (Some m) in let low = scene.depths m in omega (arith, shorter, low);
        }

  pub removed : (es : Objects) (n : ℕ) (fs : Objects) → IsScene types es → object_removed es n ≡ Ok fs → IsScene types fs
  removed es n fs scene done =
      let a = unless (not (is_some (numbered es n))) fault.NoObject _ fs done in
      subst (IsScene types) (ok_same _ fs a.1) (out_valid es (subtree most_depth es (n ∷ [])) scene (subtree_whole most_depth es (n ∷ []) scene.order scene.depths))
