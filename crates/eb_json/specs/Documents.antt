-- The document that bytes are, and the plain values in one.
use Rattle.std.specs.Prelude.{ℕ, ◌&&◌, ◌==◌, ℤ, int_le, List, length, Bool, true, false, if◌then◌else◌, Option, Some, None, is_some, option_and_then}
use Rattle.std.specs.List.{list_all}
use Rattle.std.specs.Str.{bytes_eq, is_utf8}
use Rattle.serde_json.specs.Data.{Data, Members}
use Rattle.serde_json.specs.Read.{read}
use Rattle.serde_json.specs.Find.{get, as_null, as_number, as_object, as_str, as_i64}
use Rattle.serde_json.specs.Events.{members_len}

abbrev pub document_where : Bool → List ℕ → Option Data
document_where true bytes = read bytes
document_where false bytes = None

-- the JSON value that the bytes spell
unfoldable pub document_of : List ℕ → Option Data
document_of bytes = document_where (is_utf8 bytes) bytes

-- a number without point and exponent that fits i64
abbrev pub whole_number_of : Data → Option ℤ
whole_number_of d = option_and_then as_i64 (as_number d)

-- what was found, where it is in the range
abbrev pub within : ℤ → ℤ → Option ℤ → Option ℤ
within least most None = None
within least most (Some z) = if int_le least z && int_le z most then Some z else None

abbrev pub is_null : Data → Bool
is_null d = is_some (as_null d)

abbrev pub is_some_text : List ℕ → Option (List ℕ) → Bool
is_some_text text None = false
is_some_text text (Some found) = bytes_eq found text

abbrev pub is_text : List ℕ → Data → Bool
is_text text d = is_some_text text (as_str d)

-- a member for each of the keys
unfoldable pub has_each : List (List ℕ) → Data → Bool
has_each keys d = list_all (λ k. is_some (get k d)) keys

-- as many members as there are keys, where it is an object
abbrev pub has_members : ℕ → Option Members → Bool
has_members count None = false
has_members count (Some ms) = members_len ms == count

-- an object whose keys are exactly these, for keys that differ: as many members, and one for each key
unfoldable pub has_keys : List (List ℕ) → Data → Bool
has_keys keys d = has_members (length keys) (as_object d) && has_each keys d
