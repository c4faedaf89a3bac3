-- What is kept beside the objects of a scene stays right through each change.
use Rattle.std.proofs.Common.{◌≡◌, ℕ, List, Bool, true, false, cond, nat_eq, IsPermutation, subst, Option, Some, None, Result, Ok, Err, refl, sym, ap, ◌∙◌}
use Rattle.std.specs.Prelude.{OnOk, OnErr, is_some, option_and_then}
use Rattle.std.specs.BTreeMap.{is_at}
use Rattle.std.specs.List.Sorted.{IsStrictlySortedBy}
use Rattle.std.specs.Map.{keys_of, set_value}
use Rattle.std.specs.Ordering.{nat_cmp}
use Rattle.eb_scene.specs.declared.objects.Object.{Object}
use Rattle.eb_scene.specs.Numbers.{has_number, with_number, without_number, without_numbers}
use Rattle.eb_scene.specs.Trees.{without_all}
use Rattle.eb_scene.proofs.Removing.{without_same, keys_without}
use Rattle.std.proofs.lemmas.List.Sorted.{list_any-IsPermutation}
use Rattle.eb_scene.specs.Projects.{Objects, Numbered, numbered, is_parent, parent_at, children_of}
use Rattle.eb_scene.specs.Tables.{IsIndex, ListsChildren, list_at, with_numbered, without_numbered, set_found, changed, changed_list}
use Rattle.eb_scene.specs.Edits.{parented}
use Rattle.eb_scene.proofs.Children.{children_put, keys_put, children_gone, children_moved, children_changed_alike, keys_changed, absent_keys, absent_children, undone}

-- lists is below with a change of the list of one parent
abbrev pub Relists : (List ℕ → List ℕ) → Object → Numbered (List ℕ) → Numbered (List ℕ) → Type 0
Relists f o below lists = (q : ℕ) → list_at lists q ≡ cond (is_parent o.parent q) (f (list_at below q)) (list_at below q)

pub index_put : (n : ℕ) (o : Object) (es : Objects) (below lists : Numbered (List ℕ)) (all : List ℕ) → IsIndex es below all → IsStrictlySortedBy nat_cmp (keys_of es) → numbered es n ≡ None
    → Relists (λ ks. with_number ks n) o below lists → IsIndex (with_numbered es n o) lists (with_number all n)
index_put n o es below lists all index sorted absent hung = record {
  lists = λ p. hung p ∙ ap (λ ks. cond (is_parent o.parent p) (with_number ks n) ks) (index.lists p) ∙ sym (children_put n o es p sorted absent);
  numbers = ap (λ ks. with_number ks n) index.numbers ∙ sym (keys_put n o es);
}

pub lists_gone : (n : ℕ) (o : Object) (es : Objects) (below lists : Numbered (List ℕ)) → ListsChildren es below → numbered es n ≡ Some o
    → Relists (λ ks. without_number ks n) o below lists → ListsChildren (without_numbered es n) lists
lists_gone n o es below lists kept found unhung p =
    unhung p ∙ ap (λ ks. cond (is_parent o.parent p) (without_number ks n) ks) (kept p) ∙ sym (children_gone n o es p found)

-- many objects taken out, and their numbers in another order
pub index_without : (gone sorted : List ℕ) (es : Objects) (lists : Numbered (List ℕ)) (all : List ℕ) → all ≡ keys_of es → IsStrictlySortedBy nat_cmp all → IsPermutation gone sorted
    → ListsChildren (without_all es gone) lists → IsIndex (without_all es gone) lists (without_numbers all sorted)
index_without gone sorted es lists all numbers order moved kept = record {
  lists = kept;
  numbers = without_same all sorted gone (λ k. sym (list_any-IsPermutation (λ n. nat_eq n k) gone sorted moved))
      ∙ ap (λ ks. without_numbers ks gone) numbers
      ∙ keys_without gone es (subst (IsStrictlySortedBy nat_cmp) numbers order);
}

pub index_alike : (f : Object → Object) → ((o : Object) → (f o).parent ≡ o.parent) → (es : Objects) (n : ℕ) (below : Numbered (List ℕ)) (all : List ℕ) → IsIndex es below all → IsIndex (changed f es n) below all
index_alike f kept es n below all index = record {
  lists = λ p. index.lists p ∙ sym (children_changed_alike f kept es n p);
  numbers = index.numbers ∙ sym (keys_changed f es n);
}

-- the same where the change may be refused
pub index_told : {T E : Type 0} (r : Result T E) (f : Object → Object) → ((o : Object) → (f o).parent ≡ o.parent) → (es new : Objects) (n : ℕ) (below : Numbered (List ℕ)) (all : List ℕ)
    → OnOk r (new ≡ changed f es n) → OnErr r (new ≡ es) → IsIndex es below all → IsIndex new below all
index_told (Ok t) f kept es new n below all ok err index = rw ok (index_alike f kept es n below all index)
index_told (Err e) f kept es new n below all ok err index = rw err index

-- ---- a number put in and taken out again

numbers_undone : (n : ℕ) (es : Objects) (all : List ℕ) → all ≡ keys_of es → numbered es n ≡ None → without_number (with_number all n) n ≡ keys_of es
numbers_undone n es all is absent = ap (λ ks. without_number (with_number ks n) n) is ∙ undone n (keys_of es) (absent_keys n es absent)

pub index_kept : (n : ℕ) (es : Objects) (below lists : Numbered (List ℕ)) (all : List ℕ) → IsIndex es below all → numbered es n ≡ None
    → ((q : ℕ) → list_at lists q ≡ list_at below q) → IsIndex es lists (without_number (with_number all n) n)
index_kept n es below lists all index absent same = record {
  lists = λ p. same p ∙ index.lists p;
  numbers = numbers_undone n es all index.numbers absent;
}

list_undone : (b : Bool) (n : ℕ) (ks : List ℕ) → has_number ks n ≡ false → cond b (without_number (cond b (with_number ks n) ks) n) (cond b (with_number ks n) ks) ≡ ks
list_undone true n ks absent = undone n ks absent
list_undone false n ks absent = refl

pub index_undone : (n : ℕ) (o : Object) (es : Objects) (below hung lists : Numbered (List ℕ)) (all : List ℕ) → IsIndex es below all → numbered es n ≡ None
    → Relists (λ ks. with_number ks n) o below hung → Relists (λ ks. without_number ks n) o hung lists → IsIndex es lists (without_number (with_number all n) n)
index_undone n o es below hung lists all index absent with_it without_it = record {
  lists = λ p. without_it p
      ∙ ap (λ ks. cond (is_parent o.parent p) (without_number ks n) ks) (with_it p ∙ ap (λ ks. cond (is_parent o.parent p) (with_number ks n) ks) (index.lists p))
      ∙ list_undone (is_parent o.parent p) n (children_of es p) (absent_children n es p absent);
  numbers = numbers_undone n es all index.numbers absent;
}

-- ---- an object put below another one

moved_found : (f : Object → Object) (es : Objects) (n p : ℕ) (r : Option Object) → numbered es n ≡ r → is_some r ≡ true → IsStrictlySortedBy nat_cmp (keys_of es)
    → ((o : Object) → numbered es n ≡ Some o → children_of (set_value (is_at (nat_cmp n)) es (f o)) p ≡ changed_list n (is_parent o.parent p) (is_parent (f o).parent p) (children_of es p))
    → (parent : Option ℕ) → ((o : Object) → (f o).parent ≡ parent)
    → changed_list n (is_parent (option_and_then (λ o. o.parent) r) p) (is_parent parent p) (children_of es p) ≡ children_of (set_found f es n r) p
moved_found f es n p None is there sorted moved parent gives = cc
moved_found f es n p (Some o) is there sorted moved parent gives =
    ap (λ q. changed_list n (is_parent o.parent p) (is_parent q p) (children_of es p)) (sym (gives o)) ∙ sym (moved o is)

pub index_moved : (n : ℕ) (parent : Option ℕ) (es : Objects) (below lists : Numbered (List ℕ)) (all : List ℕ) → IsIndex es below all → is_some (numbered es n) ≡ true → IsStrictlySortedBy nat_cmp (keys_of es)
    → ((q : ℕ) → list_at lists q ≡ changed_list n (is_parent (parent_at es n) q) (is_parent parent q) (list_at below q))
    → IsIndex (changed (parented parent) es n) lists all
index_moved n parent es below lists all index there sorted rehung = record {
  lists = λ p. rehung p ∙ ap (changed_list n (is_parent (parent_at es n) p) (is_parent parent p)) (index.lists p)
      ∙ moved_found (parented parent) es n p (numbered es n) refl there sorted (λ o found. children_moved n o (parented parent o) es p sorted found) parent (λ o. refl);
  numbers = index.numbers ∙ sym (keys_changed (parented parent) es n);
}
