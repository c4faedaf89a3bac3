-- Reads with `or` are in the grammar, where they are read.
use Rattle.std.proofs.Common.{◌≡◌, ℕ, zero, suc, ◌<◌, Bool, true, false, if◌then◌else◌, List, [], ◌∷◌, ◌++◌, length, Option, Some, Ok, refl, sym, ap, ◌∙◌, append_assoc, append-nil, rules}
use Rattle.eb_rule_text.specs.declared.lexemes.Lexeme.TheVariants as l
use Rattle.eb_rule_text.specs.declared.marks.Mark.{Mark}
use Rattle.eb_rule_text.specs.declared.marks.Mark.TheVariants as m
use Rattle.eb_rule_text.specs.declared.trees.Context.{Context}
use Rattle.eb_rule_text.specs.declared.trees.Context.TheVariants as c
use Rattle.eb_rule_text.specs.declared.trees.FieldPath.{FieldPath}
use Rattle.eb_rule_text.specs.declared.trees.Find.{Find}
use Rattle.eb_rule_text.specs.declared.trees.Find.TheVariants as f
use Rattle.eb_rule_text.specs.declared.trees.Reach.{Reach}
use Rattle.eb_rule_text.specs.Tokens.{Text}
use Rattle.eb_rule_text.specs.Input.{Input, go_on, pure, mark}
use Rattle.eb_rule_text.specs.Reading as spec
use Rattle.eb_rule_text.specs.Spelled.{path_then, kind_then, member_then, path_in_then, link_in_then, field_in_then, reach_mark, find_then, has_find}
use Rattle.eb_rule_text.specs.Grammar.{IsFind, AreFinds, no_find, a_find}
use Rattle.eb_rule_text.proofs.Steps.{went, moved, ok_value, ok_rest, expected, opened, named}

pub path_sound : (i j : Input) (x : FieldPath) → spec.path i ≡ Ok (x, j) → i ≡ path_then x j
unfolding spec.path
path_sound i j x h =
    let a = went _ _ x j h in
    let b = went _ _ x j a.onward in
    let d = went _ _ x j b.onward in
    let ea = named _ _ _ a.first in
    let eb = expected _ _ _ _ b.first in
    let ed = named _ _ _ d.first in
    let whole : i ≡ path_then (spec.path_of a.value d.value) d.rest = cc in
    whole ∙ moved path_then d.onward

pub of_kind_sound : (d : ℕ) (i j : Input) (x : Text) → spec.of_kind d i ≡ Ok (x, j) → (0 < d) × (i ≡ kind_then x j)
unfolding spec.of_kind
of_kind_sound d i j x h =
    let a = went _ _ x j h in
    let b = went _ _ x j a.onward in
    let e = went _ _ x j b.onward in
    let oa = opened _ _ _ _ _ a.first in
    let ta = oa.tokens in
    let tb = named _ _ _ b.first in
    let te = expected _ _ _ _ e.first in
    let whole : i ≡ kind_then b.value e.rest = cc in
    (oa.room, whole ∙ moved kind_then e.onward)

pub member_sound : (d : ℕ) (i j : Input) (x : FieldPath) → spec.member d i ≡ Ok (x, j) → (0 < d) × (i ≡ member_then x j)
unfolding spec.member
member_sound d i j x h =
    let a = went _ _ x j h in
    let b = went _ _ x j a.onward in
    let e = went _ _ x j b.onward in
    let oa = of_kind_sound _ _ _ _ a.first in
    let ta = oa.1 in
    let tb = expected _ _ _ _ b.first in
    let te = named _ _ _ e.first in
    let whole : i ≡ member_then (spec.path_of a.value e.value) e.rest = cc in
    (oa.0, whole ∙ moved member_then e.onward)

pub path_in_sound : (d : ℕ) (i j : Input) (x : FieldPath) → spec.path_in d i ≡ Ok (x, j) → (0 < d) × (i ≡ path_in_then x j)
unfolding spec.path_in
path_in_sound d i j x h =
    let a = went _ _ x j h in
    let b = went _ _ x j a.onward in
    let e = went _ _ x j b.onward in
    let oa = opened _ _ _ _ _ a.first in
    let ta = oa.tokens in
    let tb = path_sound _ _ _ b.first in
    let te = expected _ _ _ _ e.first in
    let whole : i ≡ path_in_then b.value e.rest = cc in
    (oa.room, whole ∙ moved path_in_then e.onward)

pub link_in_sound : (d : ℕ) (i j : Input) (x : FieldPath) → spec.link_in d i ≡ Ok (x, j) → (0 < d) × (i ≡ link_in_then x j)
unfolding spec.link_in
link_in_sound d i j x h =
    let a = went _ _ x j h in
    let b = went _ _ x j a.onward in
    let e = went _ _ x j b.onward in
    let g = went _ _ x j e.onward in
    let n = went _ _ x j g.onward in
    let oa = opened _ _ _ _ _ a.first in
    let ta = oa.tokens in
    let tb = expected _ _ _ _ b.first in
    let te = expected _ _ _ _ e.first in
    let tg = path_sound _ _ _ g.first in
    let tn = expected _ _ _ _ n.first in
    let whole : i ≡ link_in_then g.value n.rest = cc in
    (oa.room, whole ∙ moved link_in_then n.onward)

pub field_in_sound : (d : ℕ) (i j : Input) (x : Text) → spec.field_in d i ≡ Ok (x, j) → (0 < d) × (i ≡ field_in_then x j)
unfolding spec.field_in
field_in_sound d i j x h =
    let a = went _ _ x j h in
    let b = went _ _ x j a.onward in
    let e = went _ _ x j b.onward in
    let g = went _ _ x j e.onward in
    let n = went _ _ x j g.onward in
    let oa = opened _ _ _ _ _ a.first in
    let ta = oa.tokens in
    let tb = expected _ _ _ _ b.first in
    let te = expected _ _ _ _ e.first in
    let tg = named _ _ _ g.first in
    let tn = expected _ _ _ _ n.first in
    let whole : i ≡ field_in_then g.value n.rest = cc in
    (oa.room, whole ∙ moved field_in_then n.onward)

abbrev reach_then : Reach → Input → Input
reach_then over j = l.Mark (reach_mark over) ∷ j

reached_where : (i j : Input) (x : Reach) (next : Option Mark) → spec.reach_by next i ≡ Ok (x, j) → i ≡ reach_then x j
reached_where i j x (Some m.Children) h = let a = went _ _ x j h in expected _ _ _ _ a.first ∙ moved reach_then a.onward
reached_where i j x (Some m.Within) h = let a = went _ _ x j h in expected _ _ _ _ a.first ∙ moved reach_then a.onward
reached_where i j x _ h = absurd (search rules)

pub reached_sound : (i j : Input) (x : Reach) → spec.reached i ≡ Ok (x, j) → i ≡ reach_then x j
unfolding spec.reached
reached_sound i j x h = reached_where i j x (mark i) h

-- ---- reads that go on with `or`

found : (context : Context) (d : ℕ) (i j k : Input) (x y : Find) → has_find context y ≡ true → 0 < d → i ≡ find_then y k → pure y k ≡ Ok (x, j) → IsFind context d i x j
found context d i j k x y stands room e h =
    record { stands = ap (has_find context) (sym (ok_value h)) ∙ stands; room = room; tokens = e ∙ moved find_then h }

asset_sound : (d : ℕ) (i j : Input) (x : Find) → spec.asset d i ≡ Ok (x, j) → IsFind c.Baker d i x j
unfolding spec.asset
asset_sound d i j x h =
    let a = went _ _ x j h in
    let b = went _ _ x j a.onward in
    let e = went _ _ x j b.onward in
    let g = went _ _ x j e.onward in
    let ta = expected _ _ _ _ a.first in
    let ob = field_in_sound _ _ _ _ b.first in
    let tb = ob.1 in
    let te = expected _ _ _ _ e.first in
    let tg = named _ _ _ g.first in
    let whole : i ≡ find_then (f.Asset b.value g.value) g.rest = cc in
    found c.Baker d i j g.rest x (f.Asset b.value g.value) refl ob.0 whole g.onward

least_sound : (d : ℕ) (i j : Input) (x : Find) → spec.least d i ≡ Ok (x, j) → IsFind c.Baker d i x j
unfolding spec.least
least_sound d i j x h =
    let a = went _ _ x j h in
    let b = went _ _ x j a.onward in
    let e = went _ _ x j b.onward in
    let ta = expected _ _ _ _ a.first in
    let tb = reached_sound _ _ _ b.first in
    let oe = member_sound _ _ _ _ e.first in
    let te = oe.1 in
    let whole : i ≡ find_then (f.Min b.value e.value) e.rest = cc in
    found c.Baker d i j e.rest x (f.Min b.value e.value) refl oe.0 whole e.onward

greatest_sound : (d : ℕ) (i j : Input) (x : Find) → spec.greatest d i ≡ Ok (x, j) → IsFind c.Baker d i x j
unfolding spec.greatest
greatest_sound d i j x h =
    let a = went _ _ x j h in
    let b = went _ _ x j a.onward in
    let e = went _ _ x j b.onward in
    let ta = expected _ _ _ _ a.first in
    let tb = reached_sound _ _ _ b.first in
    let oe = member_sound _ _ _ _ e.first in
    let te = oe.1 in
    let whole : i ≡ find_then (f.Max b.value e.value) e.rest = cc in
    found c.Baker d i j e.rest x (f.Max b.value e.value) refl oe.0 whole e.onward

linked_sound : (context : Context) (d : ℕ) (i j : Input) (x : Find) → ((link p : FieldPath) → has_find context (f.At link p) ≡ true) → spec.linked d i ≡ Ok (x, j) → IsFind context d i x j
unfolding spec.linked
linked_sound context d i j x has h =
    let a = went _ _ x j h in
    let b = went _ _ x j a.onward in
    let e = went _ _ x j b.onward in
    let g = went _ _ x j e.onward in
    let ta = expected _ _ _ _ a.first in
    let ob = link_in_sound _ _ _ _ b.first in
    let tb = ob.1 in
    let te = expected _ _ _ _ e.first in
    let tg = path_sound _ _ _ g.first in
    let whole : i ≡ find_then (f.At b.value g.value) g.rest = cc in
    found context d i j g.rest x (f.At b.value g.value) (has _ _) ob.0 whole g.onward

greatest_of_all_sound : (d : ℕ) (i j : Input) (x : Find) → spec.greatest_of_all d i ≡ Ok (x, j) → IsFind c.System d i x j
unfolding spec.greatest_of_all
greatest_of_all_sound d i j x h =
    let a = went _ _ x j h in
    let b = went _ _ x j a.onward in
    let e = went _ _ x j b.onward in
    let ta = expected _ _ _ _ a.first in
    let tb = expected _ _ _ _ b.first in
    let oe = path_in_sound _ _ _ _ e.first in
    let te = oe.1 in
    let whole : i ≡ find_then (f.MaxAll e.value) e.rest = cc in
    found c.System d i j e.rest x (f.MaxAll e.value) refl oe.0 whole e.onward

baker_find_sound : (d : ℕ) (i j : Input) (x : Find) (next : Option Mark) → spec.baker_find d next i ≡ Ok (x, j) → IsFind c.Baker d i x j
baker_find_sound d i j x (Some m.Own) h =
    let a = went _ _ x j h in
    let b = went _ _ x j a.onward in
    let ta = expected _ _ _ _ a.first in
    let ob = member_sound _ _ _ _ b.first in
    let tb = ob.1 in
    let whole : i ≡ find_then (f.Own b.value) b.rest = cc in
    found c.Baker d i j b.rest x (f.Own b.value) refl ob.0 whole b.onward
baker_find_sound d i j x (Some m.Parent) h =
    let a = went _ _ x j h in
    let b = went _ _ x j a.onward in
    let ta = expected _ _ _ _ a.first in
    let ob = member_sound _ _ _ _ b.first in
    let tb = ob.1 in
    let whole : i ≡ find_then (f.Parent b.value) b.rest = cc in
    found c.Baker d i j b.rest x (f.Parent b.value) refl ob.0 whole b.onward
baker_find_sound d i j x (Some m.Asset) h = asset_sound d i j x h
baker_find_sound d i j x (Some m.Min) h = least_sound d i j x h
baker_find_sound d i j x (Some m.Max) h = greatest_sound d i j x h
baker_find_sound d i j x _ h = absurd (search rules)

system_find_sound : (d : ℕ) (i j : Input) (x : Find) (next : Option Mark) → spec.system_find d next i ≡ Ok (x, j) → IsFind c.System d i x j
system_find_sound d i j x (Some m.At) h = linked_sound c.System d i j x (λ _ _. refl) h
system_find_sound d i j x (Some m.Max) h = greatest_of_all_sound d i j x h
system_find_sound d i j x _ h = absurd (search rules)

job_find_sound : (d : ℕ) (i j : Input) (x : Find) (next : Option Mark) → spec.job_find d next i ≡ Ok (x, j) → IsFind c.Job d i x j
job_find_sound d i j x (Some m.At) h = linked_sound c.Job d i j x (λ _ _. refl) h
job_find_sound d i j x _ h = absurd (search rules)

find_by_sound : (context : Context) (d : ℕ) (i j : Input) (x : Find) (next : Option Mark) → spec.find_by context d next i ≡ Ok (x, j) → IsFind context d i x j
find_by_sound c.Baker d i j x next h = baker_find_sound d i j x next h
find_by_sound c.System d i j x next h = system_find_sound d i j x next h
find_by_sound c.Job d i j x next h = job_find_sound d i j x next h

or_moved : (context : Context) (d : ℕ) (i k n j : Input) (x y : Find) → IsFind context d i y k → k ≡ l.Mark m.Or ∷ n → pure y n ≡ Ok (x, j) → IsFind context d i x (l.Mark m.Or ∷ j)
or_moved context d i k n j x y is e h =
    record { stands = ap (has_find context) (sym (ok_value h)) ∙ is.stands; room = is.room; tokens = is.tokens ∙ ap (find_then y) e ∙ moved (λ z t. find_then z (l.Mark m.Or ∷ t)) h }

pub find_sound : (context : Context) (d : ℕ) (i j : Input) (x : Find) → spec.find context d i ≡ Ok (x, j) → IsFind context d i x (l.Mark m.Or ∷ j)
unfolding spec.find
find_sound context d i j x h =
    let a = went _ _ x j h in
    let b = went _ _ x j a.onward in
    or_moved context d i _ _ j x a.value (find_by_sound context d i _ _ (mark i) a.first) (expected _ _ _ _ b.first) b.onward

-- what was found before, and what is found from here on
pub record Goes (context : Context) (d : ℕ) (i : Input) (done x : List Find) (j : Input) : Type 0 where
  pub more : List Find
  pub whole : x ≡ done ++ more
  pub are : AreFinds context d i more j

stopped : (context : Context) (d : ℕ) (i j : Input) (done x : List Find) → pure done i ≡ Ok (x, j) → Goes context d i done x j
stopped context d i j done x h = record { more = []; whole = sym (ok_value h) ∙ sym (append-nil done); are = rw (← ok_rest h) no_find }

-- what is shown of a list of so many turns
abbrev Onward : Context → ℕ → ℕ → Type 0
Onward context d n = (i j : Input) (done x : List Find) → spec.finds_from context d n done i ≡ Ok (x, j) → Goes context d i done x j

finds_where : (context : Context) (d n : ℕ) (i j : Input) (done x : List Find) → Onward context d n → (b : Bool)
    → (if b then go_on (spec.find context d i) (λ y. spec.finds_from context d n (done ++ y ∷ [])) else Ok (done, i)) ≡ Ok (x, j) → Goes context d i done x j
finds_where context d n i j done x onward false h = stopped context d i j done x h
finds_where context d n i j done x onward true h =
    let a = went _ _ x j h in
    let rest = onward a.rest j (done ++ a.value ∷ []) x a.onward in
    record { more = a.value ∷ rest.more; whole = rest.whole ∙ append_assoc done (a.value ∷ []) rest.more; are = a_find (find_sound context d i a.rest a.value a.first) rest.are }

finds_from_sound : (context : Context) (d n : ℕ) → Onward context d n
finds_from_sound context d zero i j done x h = stopped context d i j done x h
finds_from_sound context d (suc n) i j done x h = finds_where context d n i j done x (finds_from_sound context d n) (spec.begins_find context (mark i)) h

pub finds_sound : (context : Context) (d : ℕ) (i j : Input) (x : List Find) → spec.finds context d i ≡ Ok (x, j) → AreFinds context d i x j
unfolding spec.finds
finds_sound context d i j x h = let a = finds_from_sound context d (length i) i j [] x h in rw a.whole a.are
