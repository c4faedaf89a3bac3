-- A change of one object in its place: its mark, or one of its components.
use Rattle.std.proofs.Common.{◌≡◌, ℕ, List, [], ◌∷◌, Bool, true, false, ◌&&◌, ◌||◌, cond, nat_eq, Option, Some, None, option_map, option_and_then, is_some, find, slice_set, refl, sym, ap, ◌∙◌, true≢false, arith}
use Rattle.std.proofs.lemmas.Bool.Decides.{nat_tests}
use Rattle.eb_schema.proofs.RowLaws.{found_with}
use Rattle.eb_schema.specs.Rows.{with_item}
use Rattle.eb_scene.specs.declared.objects.Object.{Object}
use Rattle.eb_scene.specs.declared.objects.Part.{Part}
use Rattle.eb_scene.specs.declared.objects.Given.{Given}
use Rattle.eb_scene.specs.declared.keys.Key.{Key}
use Rattle.eb_scene.specs.declared.keys.Key.TheVariants.{Comp, Parent, Children, Exists, Asset}
use Rattle.eb_scene.specs.Numbers.{without_item}
use Rattle.eb_scene.specs.Projects.{Objects, numbered, part_of, parent_at}
use Rattle.eb_scene.specs.Tables.{changed}
use Rattle.eb_scene.specs.Edits.{marked, with_part, without_part, with_value, set_part}
use Rattle.eb_scene.specs.Answers.{Answer, Values, Above, Below, There}
use Rattle.eb_scene.proofs.Children.{either, children_changed_alike}
use Rattle.eb_scene.proofs.KeyFacts.{told, Spares, others_false}
use Rattle.eb_scene.proofs.LookUps.{read_changed, found_changed_apart}

-- ---- changes that leave parents

-- f leaves the parent of each object
abbrev pub KeepsParents : (Object → Object) → Type 0
KeepsParents f = (o : Object) → (f o).parent ≡ o.parent

there_alike : (f : Object → Object) (r : Option Object) → is_some (option_map f r) ≡ is_some r
there_alike f None = refl
there_alike f (Some o) = refl

above_alike : (f : Object → Object) → KeepsParents f → (r : Option Object) → option_and_then (λ o. o.parent) (option_map f r) ≡ option_and_then (λ o. o.parent) r
above_alike f kept None = refl
above_alike f kept (Some o) = kept o

pub exists_alike : (f : Object → Object) (es : Objects) (n m : ℕ) → is_some (numbered (changed f es n) m) ≡ is_some (numbered es m)
exists_alike f es n m = read_changed is_some f es n m (there_alike f (numbered es m))

parent_alike : (f : Object → Object) → KeepsParents f → (es : Objects) (n m : ℕ) → parent_at (changed f es n) m ≡ parent_at es m
parent_alike f kept es n m = read_changed (option_and_then (λ o. o.parent)) f es n m (above_alike f kept (numbered es m))

-- ---- components of a type

-- the values of the component of a type, of an object that is there
abbrev pub part_values : ℕ → Option Object → Option (List Given)
part_values kind r = option_map (λ p. p.values) (option_and_then (λ o. part_of o.components kind) r)

-- f leaves the components of this type
abbrev pub KeepsParts : ℕ → (Object → Object) → Type 0
KeepsParts kind f = (o : Object) → part_of (f o).components kind ≡ part_of o.components kind

values_alike : (kind : ℕ) (f : Object → Object) → KeepsParts kind f → (r : Option Object) → part_values kind (option_map f r) ≡ part_values kind r
values_alike kind f kept None = refl
values_alike kind f kept (Some o) = ap (option_map (λ p. p.values)) (kept o)

pub comp_alike : (kind : ℕ) (f : Object → Object) → KeepsParts kind f → (es : Objects) (n m : ℕ) → part_values kind (numbered (changed f es n) m) ≡ part_values kind (numbered es m)
comp_alike kind f kept es n m = read_changed (part_values kind) f es n m (values_alike kind f kept (numbered es m))

-- ---- a component of one type

-- f changes at most the component of this type
abbrev pub ChangesPart : ℕ → (Object → Object) → Type 0
ChangesPart a f = (kind : ℕ) → nat_eq kind a ≡ false → KeepsParts kind f

part_where : (c d : Bool) (a kind : ℕ) (f : Object → Object) (es : Objects) (n m : ℕ) → nat_eq m n ≡ c → nat_eq kind a ≡ d → (c && d) ≡ false → ChangesPart a f
    → part_values kind (numbered (changed f es n) m) ≡ part_values kind (numbered es m)
part_where true true a kind f es n m here same apart changes = absurd (true≢false apart)
part_where true false a kind f es n m here same apart changes = comp_alike kind f (changes kind same) es n m
part_where false d a kind f es n m here same apart changes = ap (part_values kind) (found_changed_apart f es n m here)

pub spares_part : (s n a : ℕ) (f : Object → Object) (es : Objects) → KeepsParents f → ChangesPart a f → Spares s es (changed f es n) (Comp s n a ∷ [])
spares_part s n a f es kept changes (Comp t m kind) here object apart =
    let h = either (nat_eq t s && nat_eq m n && nat_eq kind a) false apart in
    ap Values (part_where (nat_eq m n) (nat_eq kind a) a kind f es n m refl refl (others_false (nat_eq t s) (nat_eq m n) (nat_eq kind a) here h.0) changes)
spares_part s n a f es kept changes (Parent t m) here object apart = ap Above (parent_alike f kept es n m)
spares_part s n a f es kept changes (Children t p) here object apart = ap Below (children_changed_alike f kept es n p)
spares_part s n a f es kept changes (Exists t m) here object apart = ap There (exists_alike f es n m)
spares_part s n a f es kept changes (Asset m) here object apart = refl

-- ---- the mark

pub spares_mark : (s n : ℕ) (mark : Option ℕ) (es : Objects) → Spares s es (changed (marked mark) es n) []
spares_mark s n mark es (Comp t m kind) here object apart = ap Values (comp_alike kind (marked mark) (λ o. refl) es n m)
spares_mark s n mark es (Parent t m) here object apart = ap Above (parent_alike (marked mark) (λ o. refl) es n m)
spares_mark s n mark es (Children t p) here object apart = ap Below (children_changed_alike (marked mark) (λ o. refl) es n p)
spares_mark s n mark es (Exists t m) here object apart = ap There (exists_alike (marked mark) es n m)
spares_mark s n mark es (Asset m) here object apart = refl

-- ---- what the edits of components change

pub put_changes : (part : Part) → ChangesPart part.kind (with_part part)
put_changes part kind apart o =
    let other : nat_eq part.kind kind ≡ false = grind (arith, nat_tests) in
    found_with (λ p. p.kind) part kind o.components ∙ ap (λ b. cond b (Some part) (part_of o.components kind)) other

taken_where : (t : Bool) (a kind : ℕ) (p : Part) (ps : List Part) → nat_eq p.kind a ≡ t → nat_eq kind a ≡ false → part_of (without_item (λ q. q.kind) ps a) kind ≡ part_of ps kind
    → part_of (cond t ps (p ∷ without_item (λ q. q.kind) ps a)) kind ≡ part_of (p ∷ ps) kind
taken_where true a kind p ps is apart later =
    let other : nat_eq p.kind kind ≡ false = grind (arith, nat_tests) in
    sym (ap (λ b. cond b (Some p) (part_of ps kind)) other)
taken_where false a kind p ps is apart later = ap (cond (nat_eq p.kind kind) (Some p)) later

parts_taken : (a kind : ℕ) (ps : List Part) → nat_eq kind a ≡ false → part_of (without_item (λ q. q.kind) ps a) kind ≡ part_of ps kind
parts_taken a kind [] apart = refl
parts_taken a kind (p ∷ ps) apart = taken_where (nat_eq p.kind a) a kind p ps refl apart (parts_taken a kind ps apart)

pub taken_changes : (a : ℕ) → ChangesPart a (without_part a)
taken_changes a kind apart o = parts_taken a kind o.components apart

valued_where : (t : Bool) (a kind place : ℕ) (value : Given) (p : Part) (ps : List Part) → nat_eq p.kind a ≡ t → nat_eq kind a ≡ false → part_of (set_part a place value ps) kind ≡ part_of ps kind
    → part_of (cond t (record p { values = slice_set p.values place value } ∷ ps) (p ∷ set_part a place value ps)) kind ≡ part_of (p ∷ ps) kind
valued_where true a kind place value p ps is apart later =
    let other : nat_eq p.kind kind ≡ false = grind (arith, nat_tests) in
    ap (λ b. cond b (Some (record p { values = slice_set p.values place value })) (part_of ps kind)) other ∙ sym (ap (λ b. cond b (Some p) (part_of ps kind)) other)
valued_where false a kind place value p ps is apart later = ap (cond (nat_eq p.kind kind) (Some p)) later

parts_valued : (a kind place : ℕ) (value : Given) (ps : List Part) → nat_eq kind a ≡ false → part_of (set_part a place value ps) kind ≡ part_of ps kind
parts_valued a kind place value [] apart = refl
parts_valued a kind place value (p ∷ ps) apart = valued_where (nat_eq p.kind a) a kind place value p ps refl apart (parts_valued a kind place value ps apart)

pub value_changes : (a place : ℕ) (value : Given) → ChangesPart a (with_value a place value)
value_changes a place value kind apart o = parts_valued a kind place value o.components apart
