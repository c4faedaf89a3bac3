-- The tokens of what is always spelled alike but for its names, and where it may stand.
use Rattle.std.specs.Prelude.{ℕ, Bool, true, false, ◌∷◌}
use Rattle.eb_rule_text.specs.declared.trees.{Context.Context, Reach.Reach, FieldPath.FieldPath, Find.Find, Read.Read, Target.Target}
use Rattle.eb_rule_text.specs.declared.marks.Mark.{Mark}
use Rattle.eb_rule_text.specs.declared.lexemes.Lexeme.TheVariants as l
use Rattle.eb_rule_text.specs.declared.marks.Mark.TheVariants as m
use Rattle.eb_rule_text.specs.declared.trees.Context.TheVariants as c
use Rattle.eb_rule_text.specs.declared.trees.Reach.TheVariants as reach
use Rattle.eb_rule_text.specs.declared.trees.Find.TheVariants as f
use Rattle.eb_rule_text.specs.declared.trees.Read.TheVariants as r
use Rattle.eb_rule_text.specs.declared.trees.Target.TheVariants as a_target
use Rattle.eb_rule_text.specs.{Tokens.Text, Input.Input}

-- T . f
abbrev pub path_then : FieldPath → Input → Input
path_then p j = l.Name p.kind ∷ l.Mark m.Dot ∷ l.Name p.field ∷ j

-- ( T )
abbrev pub kind_then : Text → Input → Input
kind_then kind j = l.Mark m.LParen ∷ l.Name kind ∷ l.Mark m.RParen ∷ j

-- ( T ) . f
abbrev pub member_then : FieldPath → Input → Input
member_then p j = kind_then p.kind (l.Mark m.Dot ∷ l.Name p.field ∷ j)

-- ( T . f )
abbrev pub path_in_then : FieldPath → Input → Input
path_in_then p j = l.Mark m.LParen ∷ path_then p (l.Mark m.RParen ∷ j)

-- ( this . T . r )
abbrev pub link_in_then : FieldPath → Input → Input
link_in_then p j = l.Mark m.LParen ∷ l.Mark m.This ∷ l.Mark m.Dot ∷ path_then p (l.Mark m.RParen ∷ j)

-- ( this . a )
abbrev pub field_in_then : Text → Input → Input
field_in_then x j = l.Mark m.LParen ∷ l.Mark m.This ∷ l.Mark m.Dot ∷ l.Name x ∷ l.Mark m.RParen ∷ j

-- children, within
abbrev pub reach_mark : Reach → Mark
reach_mark reach.Children = m.Children
reach_mark reach.Within = m.Within

-- ---- reads that go on with `or`

abbrev pub find_then : Find → Input → Input
find_then (f.Own p) j = l.Mark m.Own ∷ member_then p j
find_then (f.Parent p) j = l.Mark m.Parent ∷ member_then p j
find_then (f.Asset a field) j = l.Mark m.Asset ∷ field_in_then a (l.Mark m.Dot ∷ l.Name field ∷ j)
find_then (f.Min over p) j = l.Mark m.Min ∷ l.Mark (reach_mark over) ∷ member_then p j
find_then (f.Max over p) j = l.Mark m.Max ∷ l.Mark (reach_mark over) ∷ member_then p j
find_then (f.At link p) j = l.Mark m.At ∷ link_in_then link (l.Mark m.Dot ∷ path_then p j)
find_then (f.MaxAll p) j = l.Mark m.Max ∷ l.Mark m.All ∷ path_in_then p j

-- the reads of a baker, of a system, of a job
abbrev pub has_find : Context → Find → Bool
has_find c.Baker (f.Own p) = true
has_find c.Baker (f.Parent p) = true
has_find c.Baker (f.Asset a field) = true
has_find c.Baker (f.Min over p) = true
has_find c.Baker (f.Max over p) = true
has_find c.System (f.At link p) = true
has_find c.System (f.MaxAll p) = true
has_find c.Job (f.At link p) = true
has_find _ _ = false

-- ---- reads that always have a value

abbrev pub read_then : Read → Input → Input
read_then (r.This x) j = l.Mark m.This ∷ l.Mark m.Dot ∷ l.Name x ∷ j
read_then (r.Field p) j = l.Mark m.This ∷ l.Mark m.Dot ∷ path_then p j
read_then (r.Sum over p) j = l.Mark m.Sum ∷ l.Mark (reach_mark over) ∷ member_then p j
read_then (r.Count over kind) j = l.Mark m.Count ∷ l.Mark (reach_mark over) ∷ kind_then kind j
read_then (r.SumAll p) j = l.Mark m.Sum ∷ l.Mark m.All ∷ path_in_then p j
read_then (r.CountAll kind) j = l.Mark m.Count ∷ l.Mark m.All ∷ kind_then kind j
read_then r.Entity j = l.Mark m.Entity ∷ l.Mark m.LParen ∷ l.Mark m.This ∷ l.Mark m.RParen ∷ j
read_then (r.EntityAt x) j = l.Mark m.Entity ∷ l.Mark m.LParen ∷ l.Mark m.This ∷ l.Mark m.Dot ∷ l.Name x ∷ l.Mark m.RParen ∷ j
read_then (r.EntityOf x) j = l.Mark m.Entity ∷ l.Mark m.LParen ∷ l.Name x ∷ l.Mark m.RParen ∷ j

abbrev pub has_read : Context → Read → Bool
has_read c.Baker (r.This x) = true
has_read c.Baker (r.Sum over p) = true
has_read c.Baker (r.Count over kind) = true
has_read c.Baker r.Entity = true
has_read c.Baker (r.EntityAt x) = true
has_read c.Baker (r.EntityOf x) = true
has_read c.System (r.Field p) = true
has_read c.System (r.SumAll p) = true
has_read c.System (r.CountAll kind) = true
has_read c.System r.Entity = true
has_read c.Job (r.Field p) = true
has_read c.Job r.Entity = true
has_read c.Job (r.EntityOf x) = true
has_read _ _ = false

-- how many levels it opens
abbrev pub read_levels : Read → ℕ
read_levels (r.This x) = 0
read_levels (r.Field p) = 0
read_levels _ = 1

-- ---- targets of commands

abbrev pub target_then : Target → Input → Input
target_then a_target.This j = l.Mark m.This ∷ j
target_then (a_target.Name x) j = l.Name x ∷ j
target_then (a_target.At link) j = l.Mark m.At ∷ link_in_then link j
