-- Reads that always have a value are in the grammar, where they are read.
use Rattle.std.proofs.Common.{◌≡◌, ℕ, ◌≤◌, ◌<◌, Bool, true, false, ◌∷◌, Option, Some, Ok, refl, sym, ap, ◌∙◌, arith, rules}
use Rattle.eb_rule_text.specs.declared.lexemes.Lexeme.TheVariants as l
use Rattle.eb_rule_text.specs.declared.marks.Mark.{Mark}
use Rattle.eb_rule_text.specs.declared.marks.Mark.TheVariants as m
use Rattle.eb_rule_text.specs.declared.trees.Context.{Context}
use Rattle.eb_rule_text.specs.declared.trees.Context.TheVariants as c
use Rattle.eb_rule_text.specs.declared.trees.FieldPath.{FieldPath}
use Rattle.eb_rule_text.specs.declared.trees.Read.{Read}
use Rattle.eb_rule_text.specs.declared.trees.Read.TheVariants as r
use Rattle.eb_rule_text.specs.Input.{Input, pure, mark}
use Rattle.eb_rule_text.specs.Reading as spec
use Rattle.eb_rule_text.specs.Spelled.{read_then, has_read, read_levels}
use Rattle.eb_rule_text.specs.Grammar.{IsRead}
use Rattle.eb_rule_text.proofs.Steps.{went, moved, ok_value, expected, opened, named}
use Rattle.eb_rule_text.proofs.SoundFinds.{path_sound, of_kind_sound, member_sound, path_in_sound, reached_sound}

-- ---- reads that always have a value

valued : (context : Context) (d : ℕ) (i j k : Input) (x y : Read) → has_read context y ≡ true → read_levels y ≤ d → i ≡ read_then y k → pure y k ≡ Ok (x, j) → IsRead context d i x j
valued context d i j k x y stands room e h =
    record { stands = ap (has_read context) (sym (ok_value h)) ∙ stands; room = rw (← ok_value h) room; tokens = e ∙ moved read_then h }

own_field_sound : (d : ℕ) (i j : Input) (x : Read) → spec.own_field i ≡ Ok (x, j) → IsRead c.Baker d i x j
unfolding spec.own_field
own_field_sound d i j x h =
    let a = went _ _ x j h in
    let b = went _ _ x j a.onward in
    let e = went _ _ x j b.onward in
    let ta = expected _ _ _ _ a.first in
    let tb = expected _ _ _ _ b.first in
    let te = named _ _ _ e.first in
    let whole : i ≡ read_then (r.This e.value) e.rest = cc in
    valued c.Baker d i j e.rest x (r.This e.value) refl (omega arith) whole e.onward

kind_field_sound : (context : Context) (d : ℕ) (i j : Input) (x : Read) → ((p : FieldPath) → has_read context (r.Field p) ≡ true) → spec.kind_field i ≡ Ok (x, j) → IsRead context d i x j
unfolding spec.kind_field
kind_field_sound context d i j x has h =
    let a = went _ _ x j h in
    let b = went _ _ x j a.onward in
    let e = went _ _ x j b.onward in
    let ta = expected _ _ _ _ a.first in
    let tb = expected _ _ _ _ b.first in
    let te = path_sound _ _ _ e.first in
    let whole : i ≡ read_then (r.Field e.value) e.rest = cc in
    valued context d i j e.rest x (r.Field e.value) (has _) (omega arith) whole e.onward

sum_sound : (d : ℕ) (i j : Input) (x : Read) → spec.sum d i ≡ Ok (x, j) → IsRead c.Baker d i x j
unfolding spec.sum
sum_sound d i j x h =
    let a = went _ _ x j h in
    let b = went _ _ x j a.onward in
    let e = went _ _ x j b.onward in
    let ta = expected _ _ _ _ a.first in
    let tb = reached_sound _ _ _ b.first in
    let oe = member_sound _ _ _ _ e.first in
    let te = oe.1 in
    let whole : i ≡ read_then (r.Sum b.value e.value) e.rest = cc in
    valued c.Baker d i j e.rest x (r.Sum b.value e.value) refl oe.0 whole e.onward

count_sound : (d : ℕ) (i j : Input) (x : Read) → spec.count d i ≡ Ok (x, j) → IsRead c.Baker d i x j
unfolding spec.count
count_sound d i j x h =
    let a = went _ _ x j h in
    let b = went _ _ x j a.onward in
    let e = went _ _ x j b.onward in
    let ta = expected _ _ _ _ a.first in
    let tb = reached_sound _ _ _ b.first in
    let oe = of_kind_sound _ _ _ _ e.first in
    let te = oe.1 in
    let whole : i ≡ read_then (r.Count b.value e.value) e.rest = cc in
    valued c.Baker d i j e.rest x (r.Count b.value e.value) refl oe.0 whole e.onward

sum_of_all_sound : (d : ℕ) (i j : Input) (x : Read) → spec.sum_of_all d i ≡ Ok (x, j) → IsRead c.System d i x j
unfolding spec.sum_of_all
sum_of_all_sound d i j x h =
    let a = went _ _ x j h in
    let b = went _ _ x j a.onward in
    let e = went _ _ x j b.onward in
    let ta = expected _ _ _ _ a.first in
    let tb = expected _ _ _ _ b.first in
    let oe = path_in_sound _ _ _ _ e.first in
    let te = oe.1 in
    let whole : i ≡ read_then (r.SumAll e.value) e.rest = cc in
    valued c.System d i j e.rest x (r.SumAll e.value) refl oe.0 whole e.onward

count_of_all_sound : (d : ℕ) (i j : Input) (x : Read) → spec.count_of_all d i ≡ Ok (x, j) → IsRead c.System d i x j
unfolding spec.count_of_all
count_of_all_sound d i j x h =
    let a = went _ _ x j h in
    let b = went _ _ x j a.onward in
    let e = went _ _ x j b.onward in
    let ta = expected _ _ _ _ a.first in
    let tb = expected _ _ _ _ b.first in
    let oe = of_kind_sound _ _ _ _ e.first in
    let te = oe.1 in
    let whole : i ≡ read_then (r.CountAll e.value) e.rest = cc in
    valued c.System d i j e.rest x (r.CountAll e.value) refl oe.0 whole e.onward

-- what stands between the parentheses of an entity
abbrev entity_then : Read → Input → Input
entity_then r.Entity j = l.Mark m.This ∷ j
entity_then (r.EntityAt x) j = l.Mark m.This ∷ l.Mark m.Dot ∷ l.Name x ∷ j
entity_then (r.EntityOf x) j = l.Name x ∷ j
entity_then _ j = j

abbrev is_entity : Read → Bool
is_entity r.Entity = true
is_entity (r.EntityAt x) = true
is_entity (r.EntityOf x) = true
is_entity _ = false

entity_whole : (x : Read) (j : Input) → is_entity x ≡ true → (read_levels x ≤ 1) × (l.Mark m.Entity ∷ l.Mark m.LParen ∷ entity_then x (l.Mark m.RParen ∷ j) ≡ read_then x j)
entity_whole r.Entity j e = (omega arith, refl)
entity_whole (r.EntityAt x) j e = (omega arith, refl)
entity_whole (r.EntityOf x) j e = (omega arith, refl)
entity_whole (r.This x) j e = absurd (search rules)
entity_whole (r.Field x) j e = absurd (search rules)
entity_whole (r.Sum over x) j e = absurd (search rules)
entity_whole (r.Count over x) j e = absurd (search rules)
entity_whole (r.SumAll x) j e = absurd (search rules)
entity_whole (r.CountAll x) j e = absurd (search rules)

record Inside (context : Context) (i : Input) (x : Read) (j : Input) : Type 0 where
  stands : has_read context x ≡ true
  kind : is_entity x ≡ true
  tokens : i ≡ entity_then x j

inside : (context : Context) (i j k : Input) (x y : Read) → has_read context y ≡ true → is_entity y ≡ true → i ≡ entity_then y k → pure y k ≡ Ok (x, j) → Inside context i x j
inside context i j k x y stands kind e h =
    record { stands = ap (has_read context) (sym (ok_value h)) ∙ stands; kind = ap is_entity (sym (ok_value h)) ∙ kind; tokens = e ∙ moved entity_then h }

entity_this_sound : (context : Context) (i j : Input) (x : Read) (next : Option Mark) → spec.entity_this context next i ≡ Ok (x, j) → Inside context (l.Mark m.This ∷ i) x j
entity_this_sound c.Baker i j x (Some m.Dot) h =
    let a = went _ _ x j h in
    let b = went _ _ x j a.onward in
    let ta = expected _ _ _ _ a.first in
    let tb = named _ _ _ b.first in
    let whole : l.Mark m.This ∷ i ≡ entity_then (r.EntityAt b.value) b.rest = cc in
    inside c.Baker _ j b.rest x (r.EntityAt b.value) refl refl whole b.onward
entity_this_sound c.Baker i j x _ h = inside c.Baker _ j i x r.Entity refl refl refl h
entity_this_sound c.System i j x _ h = inside c.System _ j i x r.Entity refl refl refl h
entity_this_sound c.Job i j x _ h = inside c.Job _ j i x r.Entity refl refl refl h

entity_name_sound : (context : Context) (i j : Input) (x : Read) → spec.entity_name context i ≡ Ok (x, j) → Inside context i x j
entity_name_sound c.Baker i j x h =
    let a = went _ _ x j h in inside c.Baker i j a.rest x (r.EntityOf a.value) refl refl (named _ _ _ a.first) a.onward
entity_name_sound c.System i j x h = absurd (search rules)
entity_name_sound c.Job i j x h =
    let a = went _ _ x j h in inside c.Job i j a.rest x (r.EntityOf a.value) refl refl (named _ _ _ a.first) a.onward

this_moved : (context : Context) (i k j : Input) (x : Read) → i ≡ l.Mark m.This ∷ k → Inside context (l.Mark m.This ∷ k) x j → Inside context i x j
this_moved context i k j x e is = record { stands = is.stands; kind = is.kind; tokens = e ∙ is.tokens }

entity_by_sound : (context : Context) (i j : Input) (x : Read) (next : Option Mark) → spec.entity_by context next i ≡ Ok (x, j) → Inside context i x j
entity_by_sound context i j x (Some m.This) h =
    let a = went _ _ x j h in this_moved context i a.rest j x (expected _ _ _ _ a.first) (entity_this_sound context a.rest j x (mark a.rest) a.onward)
entity_by_sound context i j x _ h = entity_name_sound context i j x h

entity_in_sound : (context : Context) (i j : Input) (x : Read) → spec.entity_in context i ≡ Ok (x, j) → Inside context i x j
unfolding spec.entity_in
entity_in_sound context i j x h = entity_by_sound context i j x (mark i) h

at_least : (n d : ℕ) → n ≤ 1 → 0 < d → n ≤ d
at_least n d h some = omega arith

entity_sound : (context : Context) (d : ℕ) (i j : Input) (x : Read) → spec.entity context d i ≡ Ok (x, j) → IsRead context d i x j
unfolding spec.entity
entity_sound context d i j x h =
    let a = went _ _ x j h in
    let b = went _ _ x j a.onward in
    let n = went _ _ x j b.onward in
    let o = went _ _ x j n.onward in
    let ta = expected _ _ _ _ a.first in
    let ob = opened _ _ _ _ _ b.first in
    let tb = ob.tokens in
    let is = entity_in_sound context _ _ _ n.first in
    let tn = is.tokens in
    let to = expected _ _ _ _ o.first in
    let long = entity_whole n.value o.rest is.kind in
    let spelled = long.1 in
    let whole : i ≡ read_then n.value o.rest = cc in
    valued context d i j o.rest x n.value is.stands (at_least _ d long.0 ob.room) whole o.onward

baker_read_sound : (d : ℕ) (i j : Input) (x : Read) (next : Option Mark) → spec.baker_read d next i ≡ Ok (x, j) → IsRead c.Baker d i x j
baker_read_sound d i j x (Some m.This) h = own_field_sound d i j x h
baker_read_sound d i j x (Some m.Sum) h = sum_sound d i j x h
baker_read_sound d i j x (Some m.Count) h = count_sound d i j x h
baker_read_sound d i j x (Some m.Entity) h = entity_sound c.Baker d i j x h
baker_read_sound d i j x _ h = absurd (search rules)

system_read_sound : (d : ℕ) (i j : Input) (x : Read) (next : Option Mark) → spec.system_read d next i ≡ Ok (x, j) → IsRead c.System d i x j
system_read_sound d i j x (Some m.This) h = kind_field_sound c.System d i j x (λ _. refl) h
system_read_sound d i j x (Some m.Sum) h = sum_of_all_sound d i j x h
system_read_sound d i j x (Some m.Count) h = count_of_all_sound d i j x h
system_read_sound d i j x (Some m.Entity) h = entity_sound c.System d i j x h
system_read_sound d i j x _ h = absurd (search rules)

job_read_sound : (d : ℕ) (i j : Input) (x : Read) (next : Option Mark) → spec.job_read d next i ≡ Ok (x, j) → IsRead c.Job d i x j
job_read_sound d i j x (Some m.This) h = kind_field_sound c.Job d i j x (λ _. refl) h
job_read_sound d i j x (Some m.Entity) h = entity_sound c.Job d i j x h
job_read_sound d i j x _ h = absurd (search rules)

read_by_sound : (context : Context) (d : ℕ) (i j : Input) (x : Read) (next : Option Mark) → spec.read_by context d next i ≡ Ok (x, j) → IsRead context d i x j
read_by_sound c.Baker d i j x next h = baker_read_sound d i j x next h
read_by_sound c.System d i j x next h = system_read_sound d i j x next h
read_by_sound c.Job d i j x next h = job_read_sound d i j x next h

pub read_sound : (context : Context) (d : ℕ) (i j : Input) (x : Read) → spec.read context d i ≡ Ok (x, j) → IsRead context d i x j
unfolding spec.read
read_sound context d i j x h = read_by_sound context d i j x (mark i) h
