-- Values as the fields of a component hold them.
use Rattle.std.specs.Prelude.{ℤ, pos, negsuc, Bool, true, false, Result, Ok, Err}
use Rattle.std.specs.Ordering.{int_eq}
use Rattle.eb_base.specs.Arithmetic.{fits_i64}
use Rattle.eb_schema.specs.declared.kinds.Kind.{Kind}
use Rattle.eb_schema.specs.declared.kinds.Kind.TheVariants.{I8, I16, I32, I64, Fix, Ref, Asset}
use Rattle.eb_schema.specs.declared.rows.Val.{Val}
use Rattle.eb_schema.specs.declared.rows.Val.TheVariants as val
use Rattle.eb_scene.specs.Fits.{lies}
use Rattle.eb_meaning.specs.declared.values.Link.{Link}
use Rattle.eb_meaning.specs.declared.values.Link.TheVariants as link
use Rattle.eb_meaning.specs.declared.values.RunFault.{RunFault}
use Rattle.eb_meaning.specs.declared.values.RunFault.TheVariants as f
use Rattle.eb_meaning.specs.declared.values.Value.{Value}
use Rattle.eb_meaning.specs.declared.values.Value.TheVariants as v

-- whether a number lies in the range of a kind
abbrev pub in_range : Kind → ℤ → Bool
in_range I8 n = lies (negsuc 127) (pos 127) n
in_range I16 n = lies (negsuc 32767) (pos 32767) n
in_range I32 n = lies (negsuc 2147483647) (pos 2147483647) n
in_range I64 n = fits_i64 n
in_range Fix n = fits_i64 n
in_range Ref n = false
in_range Asset n = int_eq n (pos 0)

abbrev pub unless_out : Bool → ℤ → Result Val RunFault
unless_out true n = Ok (val.Num n)
unless_out false n = Err f.Range

-- a reference in a field. A created entity has no name there
abbrev pub linked : Link → Val
linked link.Null = val.Null
linked link.Gone = val.Gone
linked (link.To name) = val.To name
linked (link.Created n) = val.Null

-- a value in a field of a kind, or the fault Range
abbrev pub tested : Kind → Value → Result Val RunFault
tested kind (v.Int n) = unless_out (in_range kind n) n
tested kind (v.Fix n) = unless_out (in_range kind n) n
tested kind (v.Truth b) = Ok (val.Num (pos 0))
tested kind (v.Link l) = Ok (linked l)
