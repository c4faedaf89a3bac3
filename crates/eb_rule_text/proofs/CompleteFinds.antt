-- Reads of the grammar are read.
use Rattle.std.proofs.Common.{◌≡◌, ℕ, zero, suc, ◌+◌, ◌≤◌, ◌<◌, true, false, List, [], ◌∷◌, ◌++◌, length, Ok, refl, sym, ap, ◌∙◌, append_assoc, append-nil, arith, rules}
use Rattle.eb_rule_text.specs.declared.lexemes.Lexeme.TheVariants as l
use Rattle.eb_rule_text.specs.declared.marks.Mark.TheVariants as m
use Rattle.eb_rule_text.specs.declared.trees.Context.{Context}
use Rattle.eb_rule_text.specs.declared.trees.Context.TheVariants as c
use Rattle.eb_rule_text.specs.declared.trees.FieldPath.{FieldPath}
use Rattle.eb_rule_text.specs.declared.trees.Find.{Find}
use Rattle.eb_rule_text.specs.declared.trees.Find.TheVariants as f
use Rattle.eb_rule_text.specs.declared.trees.Reach.{Reach}
use Rattle.eb_rule_text.specs.declared.trees.Reach.TheVariants as reach
use Rattle.eb_rule_text.specs.declared.trees.Read.{Read}
use Rattle.eb_rule_text.specs.declared.trees.Read.TheVariants as r
use Rattle.eb_rule_text.specs.Tokens.{Text}
use Rattle.eb_rule_text.specs.Input.{Input, mark, sees, expect, same_mark, name}
use Rattle.eb_rule_text.specs.Reading as spec
use Rattle.eb_rule_text.specs.Spelled.{path_then, kind_then, member_then, path_in_then, link_in_then, field_in_then, reach_mark, find_then, has_find, read_then, has_read, read_levels}
use Rattle.eb_rule_text.specs.Grammar.{IsFind, AreFinds, no_find, a_find}
use Rattle.eb_rule_text.proofs.Takes.{opens_is}

path_is : (x : FieldPath) (j : Input) → spec.path (path_then x j) ≡ Ok (x, j)
unfolding spec.path name expect sees same_mark
path_is x j = refl

of_kind_is : (d : ℕ) (x : Text) (j : Input) → 0 < d → spec.of_kind d (kind_then x j) ≡ Ok (x, j)
unfolding spec.of_kind name expect sees same_mark
of_kind_is d x j room = rw (opens_is d m.LParen (l.Name x ∷ l.Mark m.RParen ∷ j) room) refl

member_is : (d : ℕ) (x : FieldPath) (j : Input) → 0 < d → spec.member d (member_then x j) ≡ Ok (x, j)
unfolding spec.member name expect sees same_mark
member_is d x j room = rw (of_kind_is d x.kind (l.Mark m.Dot ∷ l.Name x.field ∷ j) room) refl

path_in_is : (d : ℕ) (x : FieldPath) (j : Input) → 0 < d → spec.path_in d (path_in_then x j) ≡ Ok (x, j)
unfolding spec.path_in expect sees same_mark
path_in_is d x j room = rw (opens_is d m.LParen (path_then x (l.Mark m.RParen ∷ j)) room, path_is x (l.Mark m.RParen ∷ j)) refl

pub link_in_is : (d : ℕ) (x : FieldPath) (j : Input) → 0 < d → spec.link_in d (link_in_then x j) ≡ Ok (x, j)
unfolding spec.link_in expect sees same_mark
link_in_is d x j room = rw (opens_is d m.LParen (l.Mark m.This ∷ l.Mark m.Dot ∷ path_then x (l.Mark m.RParen ∷ j)) room, path_is x (l.Mark m.RParen ∷ j)) refl

field_in_is : (d : ℕ) (x : Text) (j : Input) → 0 < d → spec.field_in d (field_in_then x j) ≡ Ok (x, j)
unfolding spec.field_in name expect sees same_mark
field_in_is d x j room = rw (opens_is d m.LParen (l.Mark m.This ∷ l.Mark m.Dot ∷ l.Name x ∷ l.Mark m.RParen ∷ j) room) refl

reached_is : (x : Reach) (j : Input) → spec.reached (l.Mark (reach_mark x) ∷ j) ≡ Ok (x, j)
unfolding spec.reached expect sees same_mark
reached_is reach.Children j = refl
reached_is reach.Within j = refl

-- ---- reads that go on with `or`

linked_is : (d : ℕ) (link p : FieldPath) (j : Input) → 0 < d → spec.linked d (find_then (f.At link p) j) ≡ Ok (f.At link p, j)
unfolding spec.linked expect sees same_mark
linked_is d link p j room = rw (link_in_is d link (l.Mark m.Dot ∷ path_then p j) room, path_is p j) refl

find_by_is : (context : Context) (d : ℕ) (x : Find) (j : Input) → has_find context x ≡ true → 0 < d → spec.find_by context d (mark (find_then x j)) (find_then x j) ≡ Ok (x, j)
unfolding spec.asset spec.least spec.greatest spec.greatest_of_all name expect sees same_mark
find_by_is c.Baker d (f.Own p) j h room = rw (member_is d p j room) refl
find_by_is c.Baker d (f.Parent p) j h room = rw (member_is d p j room) refl
find_by_is c.Baker d (f.Asset a field) j h room = rw (field_in_is d a (l.Mark m.Dot ∷ l.Name field ∷ j) room) refl
find_by_is c.Baker d (f.Min over p) j h room = rw (reached_is over (member_then p j), member_is d p j room) refl
find_by_is c.Baker d (f.Max over p) j h room = rw (reached_is over (member_then p j), member_is d p j room) refl
find_by_is c.Baker d (f.At link p) j h room = absurd (search rules)
find_by_is c.Baker d (f.MaxAll p) j h room = absurd (search rules)
find_by_is c.System d (f.Own p) j h room = absurd (search rules)
find_by_is c.System d (f.Parent p) j h room = absurd (search rules)
find_by_is c.System d (f.Asset a field) j h room = absurd (search rules)
find_by_is c.System d (f.Min over p) j h room = absurd (search rules)
find_by_is c.System d (f.Max over p) j h room = absurd (search rules)
find_by_is c.System d (f.At link p) j h room = linked_is d link p j room
find_by_is c.System d (f.MaxAll p) j h room = rw (path_in_is d p j room) refl
find_by_is c.Job d (f.Own p) j h room = absurd (search rules)
find_by_is c.Job d (f.Parent p) j h room = absurd (search rules)
find_by_is c.Job d (f.Asset a field) j h room = absurd (search rules)
find_by_is c.Job d (f.Min over p) j h room = absurd (search rules)
find_by_is c.Job d (f.Max over p) j h room = absurd (search rules)
find_by_is c.Job d (f.At link p) j h room = linked_is d link p j room
find_by_is c.Job d (f.MaxAll p) j h room = absurd (search rules)

find_is : (context : Context) (d : ℕ) (i k : Input) (x : Find) → IsFind context d i x (l.Mark m.Or ∷ k) → spec.find context d i ≡ Ok (x, k)
unfolding spec.find expect sees same_mark
find_is context d i k x is = rw (is.tokens, find_by_is context d x (l.Mark m.Or ∷ k) is.stands is.room) refl

begins : (context : Context) (x : Find) (j : Input) → has_find context x ≡ true → spec.begins_find context (mark (find_then x j)) ≡ true
begins c.Baker (f.Own p) j h = refl
begins c.Baker (f.Parent p) j h = refl
begins c.Baker (f.Asset a field) j h = refl
begins c.Baker (f.Min over p) j h = refl
begins c.Baker (f.Max over p) j h = refl
begins c.Baker (f.At link p) j h = absurd (search rules)
begins c.Baker (f.MaxAll p) j h = absurd (search rules)
begins c.System (f.Own p) j h = absurd (search rules)
begins c.System (f.Parent p) j h = absurd (search rules)
begins c.System (f.Asset a field) j h = absurd (search rules)
begins c.System (f.Min over p) j h = absurd (search rules)
begins c.System (f.Max over p) j h = absurd (search rules)
begins c.System (f.At link p) j h = refl
begins c.System (f.MaxAll p) j h = refl
begins c.Job (f.Own p) j h = absurd (search rules)
begins c.Job (f.Parent p) j h = absurd (search rules)
begins c.Job (f.Asset a field) j h = absurd (search rules)
begins c.Job (f.Min over p) j h = absurd (search rules)
begins c.Job (f.Max over p) j h = absurd (search rules)
begins c.Job (f.At link p) j h = refl
begins c.Job (f.MaxAll p) j h = absurd (search rules)

-- a read with `or` takes some tokens
find_shrinks : (x : Find) (j : Input) → length j < length (find_then x j)
find_shrinks (f.Own p) j = omega arith
find_shrinks (f.Parent p) j = omega arith
find_shrinks (f.Asset a field) j = omega arith
find_shrinks (f.Min over p) j = omega arith
find_shrinks (f.Max over p) j = omega arith
find_shrinks (f.At link p) j = omega arith
find_shrinks (f.MaxAll p) j = omega arith

find_takes : (context : Context) (d : ℕ) (i k : Input) (x : Find) → IsFind context d i x (l.Mark m.Or ∷ k) → length k + 1 ≤ length i
find_takes context d i k x is = let s = find_shrinks x (l.Mark m.Or ∷ k) in rw is.tokens (omega arith)

pub finds_take : {context : Context} {d : ℕ} {i j : Input} {x : List Find} → AreFinds context d i x j → length x + length j ≤ length i
finds_take no_find = omega arith
finds_take {context = context} {d = d} {i = i} (a_find {k = k} {x = x} is more) = let a = find_takes context d i k x is in let b = finds_take more in omega arith

finds_go : (context : Context) (d n : ℕ) (i k : Input) (x : Find) (done : List Find) → IsFind context d i x (l.Mark m.Or ∷ k) → spec.finds_from context d (suc n) done i ≡ spec.finds_from context d n (done ++ x ∷ []) k
finds_go context d n i k x done is =
    let e : spec.begins_find context (mark i) ≡ true = rw is.tokens (begins context x (l.Mark m.Or ∷ k) is.stands) in
    rw (e, find_is context d i k x is) refl

finds_stop : (context : Context) (d n : ℕ) (done : List Find) (j : Input) → spec.begins_find context (mark j) ≡ false → spec.finds_from context d n done j ≡ Ok (done, j)
finds_stop context d zero done j h = refl
finds_stop context d (suc n) done j h = rw h refl

finds_from_is : {context : Context} {d : ℕ} {i j : Input} {x : List Find} → AreFinds context d i x j → (n : ℕ) (done : List Find) → length x ≤ n → spec.begins_find context (mark j) ≡ false
    → spec.finds_from context d n done i ≡ Ok (done ++ x, j)
finds_from_is {context = context} {d = d} {i = i} no_find n done few h = finds_stop context d n done i h ∙ ap (λ y. Ok (y, i)) (sym (append-nil done))
finds_from_is (a_find is more) zero done few h = absurd (omega arith)
finds_from_is {context = context} {d = d} {i = i} {j = j} (a_find {k = k} {x = x} {more = rest} is more) (suc n) done few h =
    finds_go context d n i k x done is ∙ finds_from_is more n (done ++ x ∷ []) (omega arith) h ∙ ap (λ y. Ok (y, j)) (append_assoc done (x ∷ []) rest)

pub finds_is : {context : Context} {d : ℕ} {i j : Input} {x : List Find} → AreFinds context d i x j → spec.begins_find context (mark j) ≡ false → spec.finds context d i ≡ Ok (x, j)
unfolding spec.finds
finds_is {i = i} {j = j} {x = x} are h = let a = finds_take are in finds_from_is are (length i) [] (omega arith) h

-- ---- reads that always have a value

entity_is : (context : Context) (d : ℕ) (i j : Input) (x : Read) → 0 < d → spec.entity_in context i ≡ Ok (x, l.Mark m.RParen ∷ j) → spec.entity context d (l.Mark m.Entity ∷ l.Mark m.LParen ∷ i) ≡ Ok (x, j)
unfolding spec.entity expect sees same_mark
entity_is context d i j x room h = rw (opens_is d m.LParen i room, h) refl

room_of : (d : ℕ) → 1 ≤ d → 0 < d
room_of d h = omega arith

read_by_is : (context : Context) (d : ℕ) (x : Read) (j : Input) → has_read context x ≡ true → read_levels x ≤ d → spec.read_by context d (mark (read_then x j)) (read_then x j) ≡ Ok (x, j)
unfolding spec.own_field spec.kind_field spec.sum spec.count spec.sum_of_all spec.count_of_all spec.entity_in name expect sees same_mark
read_by_is c.Baker d (r.This x) j h room = refl
read_by_is c.Baker d (r.Sum over p) j h room = rw (reached_is over (member_then p j), member_is d p j (room_of d room)) refl
read_by_is c.Baker d (r.Count over kind) j h room = rw (reached_is over (kind_then kind j), of_kind_is d kind j (room_of d room)) refl
read_by_is c.Baker d r.Entity j h room = entity_is c.Baker d (l.Mark m.This ∷ l.Mark m.RParen ∷ j) j r.Entity (room_of d room) refl
read_by_is c.Baker d (r.EntityAt x) j h room = entity_is c.Baker d (l.Mark m.This ∷ l.Mark m.Dot ∷ l.Name x ∷ l.Mark m.RParen ∷ j) j (r.EntityAt x) (room_of d room) refl
read_by_is c.Baker d (r.EntityOf x) j h room = entity_is c.Baker d (l.Name x ∷ l.Mark m.RParen ∷ j) j (r.EntityOf x) (room_of d room) refl
read_by_is c.Baker d (r.Field p) j h room = absurd (search rules)
read_by_is c.Baker d (r.SumAll p) j h room = absurd (search rules)
read_by_is c.Baker d (r.CountAll kind) j h room = absurd (search rules)
read_by_is c.System d (r.Field p) j h room = rw (path_is p j) refl
read_by_is c.System d (r.SumAll p) j h room = rw (path_in_is d p j (room_of d room)) refl
read_by_is c.System d (r.CountAll kind) j h room = rw (of_kind_is d kind j (room_of d room)) refl
read_by_is c.System d r.Entity j h room = entity_is c.System d (l.Mark m.This ∷ l.Mark m.RParen ∷ j) j r.Entity (room_of d room) refl
read_by_is c.System d (r.This x) j h room = absurd (search rules)
read_by_is c.System d (r.Sum over p) j h room = absurd (search rules)
read_by_is c.System d (r.Count over kind) j h room = absurd (search rules)
read_by_is c.System d (r.EntityAt x) j h room = absurd (search rules)
read_by_is c.System d (r.EntityOf x) j h room = absurd (search rules)
read_by_is c.Job d (r.Field p) j h room = rw (path_is p j) refl
read_by_is c.Job d r.Entity j h room = entity_is c.Job d (l.Mark m.This ∷ l.Mark m.RParen ∷ j) j r.Entity (room_of d room) refl
read_by_is c.Job d (r.EntityOf x) j h room = entity_is c.Job d (l.Name x ∷ l.Mark m.RParen ∷ j) j (r.EntityOf x) (room_of d room) refl
read_by_is c.Job d (r.This x) j h room = absurd (search rules)
read_by_is c.Job d (r.Sum over p) j h room = absurd (search rules)
read_by_is c.Job d (r.Count over kind) j h room = absurd (search rules)
read_by_is c.Job d (r.SumAll p) j h room = absurd (search rules)
read_by_is c.Job d (r.CountAll kind) j h room = absurd (search rules)
read_by_is c.Job d (r.EntityAt x) j h room = absurd (search rules)

pub read_is : (context : Context) (d : ℕ) (x : Read) (j : Input) → has_read context x ≡ true → read_levels x ≤ d → spec.read context d (read_then x j) ≡ Ok (x, j)
unfolding spec.read
read_is context d x j h room = read_by_is context d x j h room
