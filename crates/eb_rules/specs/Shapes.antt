-- What values are, and what operators make of them.
use Rattle.std.specs.Prelude.{Bool, true, false, Option, Some, None}
use Rattle.eb_rule_text.specs.declared.trees.Op.{Op}
use Rattle.eb_rule_text.specs.declared.trees.Op.TheVariants as op
use Rattle.eb_schema.specs.declared.kinds.Kind.{Kind}
use Rattle.eb_schema.specs.declared.kinds.Kind.TheVariants as kind
use Rattle.eb_rules.specs.declared.plans.{FindTerm.FindTerm, ReadTerm.ReadTerm}
use Rattle.eb_rules.specs.declared.shapes.Shape.{Shape}
use Rattle.eb_rules.specs.declared.plans.FindTerm.TheVariants as found
use Rattle.eb_rules.specs.declared.plans.ReadTerm.TheVariants as value
use Rattle.eb_rules.specs.declared.shapes.Shape.TheVariants as shape

abbrev pub shape_of : Kind → Option Shape
shape_of kind.I8 = Some shape.Int
shape_of kind.I16 = Some shape.Int
shape_of kind.I32 = Some shape.Int
shape_of kind.I64 = Some shape.Int
shape_of kind.Fix = Some shape.Fix
shape_of kind.Ref = Some shape.Ref
shape_of kind.Asset = None

-- of a field that holds numbers
abbrev pub number_of : Kind → Option Shape
number_of kind.I8 = Some shape.Int
number_of kind.I16 = Some shape.Int
number_of kind.I32 = Some shape.Int
number_of kind.I64 = Some shape.Int
number_of kind.Fix = Some shape.Fix
number_of kind.Ref = None
number_of kind.Asset = None

abbrev pub is_ref : Kind → Bool
is_ref kind.Ref = true
is_ref _ = false

abbrev pub is_asset : Kind → Bool
is_asset kind.Asset = true
is_asset _ = false

abbrev pub same_shape : Shape → Shape → Bool
same_shape shape.Int shape.Int = true
same_shape shape.Fix shape.Fix = true
same_shape shape.Bool shape.Bool = true
same_shape shape.Ref shape.Ref = true
same_shape _ _ = false

-- two numbers of one shape
abbrev pub of_numbers : Shape → Shape → Option Shape
of_numbers shape.Int shape.Int = Some shape.Int
of_numbers shape.Fix shape.Fix = Some shape.Fix
of_numbers _ _ = None

abbrev pub of_order : Option Shape → Option Shape
of_order (Some _) = Some shape.Bool
of_order None = None

abbrev pub of_truths : Shape → Shape → Option Shape
of_truths shape.Bool shape.Bool = Some shape.Bool
of_truths _ _ = None

abbrev pub of_equals : Shape → Shape → Option Shape
of_equals shape.Bool b = of_truths shape.Bool b
of_equals shape.Int b = of_order (of_numbers shape.Int b)
of_equals shape.Fix b = of_order (of_numbers shape.Fix b)
of_equals shape.Ref b = of_order (of_numbers shape.Ref b)

abbrev pub of_op : Op → Shape → Shape → Option Shape
of_op op.Either a b = of_truths a b
of_op op.And a b = of_truths a b
of_op op.Equal a b = of_equals a b
of_op op.NotEqual a b = of_equals a b
of_op op.Less a b = of_order (of_numbers a b)
of_op op.AtMost a b = of_order (of_numbers a b)
of_op op.Greater a b = of_order (of_numbers a b)
of_op op.AtLeast a b = of_order (of_numbers a b)
of_op op.Plus a b = of_numbers a b
of_op op.Minus a b = of_numbers a b
of_op op.Times a b = of_numbers a b
of_op op.Over a b = of_numbers a b

abbrev pub of_minus : Shape → Option Shape
of_minus a = of_numbers a a

abbrev pub of_not : Shape → Option Shape
of_not a = of_truths a a

abbrev pub of_fix : Shape → Option Shape
of_fix shape.Int = Some shape.Fix
of_fix _ = None

abbrev pub of_int : Shape → Option Shape
of_int shape.Fix = Some shape.Int
of_int _ = None

-- this shape, where one is wanted
abbrev pub fits : Option Shape → Shape → Bool
fits (Some s) t = same_shape s t
fits None t = false

-- ---- reads

abbrev pub only_where : Bool → Option Shape → Option Shape
only_where true s = s
only_where false s = None

-- of the number that the read finds, where its fields may be read so
abbrev pub found_shape : FindTerm → Option Shape
found_shape (found.Own x) = number_of x.field.kind
found_shape (found.Parent x) = number_of x.field.kind
found_shape (found.Asset a f) = only_where (is_asset a.kind) (number_of f.kind)
found_shape (found.Min over x) = number_of x.field.kind
found_shape (found.Max over x) = number_of x.field.kind
found_shape (found.At link x) = only_where (is_ref link.field.kind) (number_of x.field.kind)
found_shape (found.MaxAll x) = number_of x.field.kind

-- of the read's value
abbrev pub read_shape : ReadTerm → Option Shape
read_shape (value.This x) = number_of x.kind
read_shape (value.Field x) = shape_of x.field.kind
read_shape (value.Sum over x) = number_of x.field.kind
read_shape (value.Count over kind) = Some shape.Int
read_shape (value.SumAll x) = number_of x.field.kind
read_shape (value.CountAll kind) = Some shape.Int
read_shape value.Entity = Some shape.Ref
read_shape (value.EntityAt x) = only_where (is_ref x.kind) (Some shape.Ref)
