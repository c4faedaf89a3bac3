-- What operators give. The tags of the operands decide; operands that stand together in no well-typed expression give the
-- whole number 0, and none of them counts as true.
use Rattle.std.specs.Prelude.{ℤ, pos, Bool, false, not, ◌&&◌, ◌||◌, int_lt, int_le, Result, Ok, Err}
use Rattle.std.specs.Bool.{beq}
use Rattle.std.specs.Ordering.{int_eq}
use Rattle.eb_base.specs.Arithmetic.{sum_of, difference_of, product_of, quotient_of, fixed_product_of, fixed_quotient_of}
use Rattle.eb_base.specs.declared.calc.CalcFault.{CalcFault}
use Rattle.eb_base.specs.declared.calc.CalcFault.TheVariants as calc
use Rattle.eb_rule_text.specs.declared.trees.Op.{Op}
use Rattle.eb_rule_text.specs.declared.trees.Op.TheVariants as op
use Rattle.eb_meaning.specs.declared.operators.Scale.{Scale}
use Rattle.eb_meaning.specs.declared.operators.Scale.TheVariants as scale
use Rattle.eb_meaning.specs.declared.values.RunFault.{RunFault}
use Rattle.eb_meaning.specs.declared.values.RunFault.TheVariants as f
use Rattle.eb_meaning.specs.declared.values.Value.{Value}
use Rattle.eb_meaning.specs.declared.values.Value.TheVariants as v

-- what ill-typed operands give
abbrev pub no_value : Value
no_value = v.Int (pos 0)

-- whether a value counts as true
abbrev pub truth : Value → Bool
truth (v.Truth b) = b
truth _ = false

-- ---- numbers

abbrev pub fault_of : CalcFault → RunFault
fault_of calc.Overflow = f.Overflow
fault_of calc.DivZero = f.DivZero

-- a number of a scale
abbrev pub number : Scale → ℤ → Value
number scale.Whole n = v.Int n
number scale.Fixed n = v.Fix n

abbrev pub product : Scale → ℤ → ℤ → Result ℤ CalcFault
product scale.Whole = product_of
product scale.Fixed = fixed_product_of

abbrev pub quotient : Scale → ℤ → ℤ → Result ℤ CalcFault
quotient scale.Whole = quotient_of
quotient scale.Fixed = fixed_quotient_of

-- the number of a calculation, or its fault
abbrev pub calculated : Scale → Result ℤ CalcFault → Result Value RunFault
calculated k (Ok n) = Ok (number k n)
calculated k (Err e) = Err (fault_of e)

abbrev pub compared : Op → ℤ → ℤ → Bool
compared op.Equal a b = int_eq a b
compared op.NotEqual a b = not (int_eq a b)
compared op.Less a b = int_lt a b
compared op.AtMost a b = int_le a b
compared op.Greater a b = int_lt b a
compared op.AtLeast a b = int_le b a
compared _ a b = false

-- an operator between two numbers of one scale
abbrev pub of_numbers : Scale → Op → ℤ → ℤ → Result Value RunFault
of_numbers k op.Plus a b = calculated k (sum_of a b)
of_numbers k op.Minus a b = calculated k (difference_of a b)
of_numbers k op.Times a b = calculated k (product k a b)
of_numbers k op.Over a b = calculated k (quotient k a b)
of_numbers k o a b = Ok (v.Truth (compared o a b))

-- ---- truths

abbrev pub of_truths : Op → Bool → Bool → Bool
of_truths op.Either a b = a || b
of_truths op.And a b = a && b
of_truths op.Equal a b = beq a b
of_truths op.NotEqual a b = not (beq a b)
of_truths _ a b = false

-- whether the left operand alone decides
abbrev pub left_decides : Op → Value → Bool
left_decides op.Either x = truth x
left_decides op.And x = not (truth x)
left_decides _ x = false

-- ---- values

-- an operator between two operands
abbrev pub applied : Op → Value → Value → Result Value RunFault
applied o (v.Int a) (v.Int b) = of_numbers scale.Whole o a b
applied o (v.Fix a) (v.Fix b) = of_numbers scale.Fixed o a b
applied o (v.Truth a) (v.Truth b) = Ok (v.Truth (of_truths o a b))
applied o _ _ = Ok no_value

-- -e: 0 minus e
abbrev pub negated : Value → Result Value RunFault
negated (v.Int n) = calculated scale.Whole (difference_of (pos 0) n)
negated (v.Fix n) = calculated scale.Fixed (difference_of (pos 0) n)
negated _ = Ok no_value

-- fix(e)
abbrev pub to_fix : Value → Result Value RunFault
to_fix (v.Int n) = calculated scale.Fixed (product_of n (pos 65536))
to_fix _ = Ok no_value

-- int(e): the floor, which is always there
abbrev pub to_int : Value → Result Value RunFault
to_int (v.Fix n) = calculated scale.Whole (quotient_of n (pos 65536))
to_int _ = Ok no_value
