-- Where a field stands, or would stand, among the columns of a layout, which are in the order of types and fields.
use Rattle.std.specs.Prelude.{ℕ, suc, List, [], ◌∷◌, cond}
use Rattle.std.specs.Ordering.{is_lt}
use Rattle.eb_schema.specs.declared.layouts.Column.{Column}
use Rattle.eb_schema.specs.Layouts.{field_cmp}

-- how many columns come before that of a field
abbrev pub place_of : ℕ → ℕ → List Column → ℕ
place_of kind field [] = 0
place_of kind field (c ∷ cs) = cond (is_lt (field_cmp c kind field)) (suc (place_of kind field cs)) 0
