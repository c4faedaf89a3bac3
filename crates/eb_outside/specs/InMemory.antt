-- What contracts see of a shelf, a source and a sink in memory.
use Rattle.std.specs.Prelude.{ℕ, min, List, length, map, Vec, Option, Some, None, refl, nat_lt, cond}
use Rattle.std.specs.List.{position_or_len}
use Rattle.std.specs.Str.{bytes_eq}
use Rattle.std.specs.Coded.{Coded, code_by, coded×, coded_ℕ, coded_list}
use Rattle.std.specs.FinMap.{from_entries, code}
use Rattle.std.specs.declared.alloc.Global.{Global}
use Rattle.eb_outside.specs.Shelves.{Files}
use Rattle.eb_outside.specs.Calls.{CallCount}

pub record ShelfState : Type 0 where
  pub files : Files
  pub calls : CallCount

pub record SourceState : Type 0 where
  pub left : List ℕ
  pub piece : ℕ
  pub calls : CallCount

pub record SinkState : Type 0 where
  pub put : List ℕ
  pub calls : CallCount

abbrev pub call_count_code : Coded CallCount
call_count_code =
    code_by (ℕ × (List ℕ × ℕ)) (coded× coded_ℕ (coded× (coded_list coded_ℕ) coded_ℕ)) (λ c. (c.made, (c.fails, c.faults))) (λ p. record { made = p.0; fails = p.1.0; faults = p.1.1 }) (λ _. refl)

abbrev pub shelf_state_code : Coded ShelfState
shelf_state_code =
    code_by (Files × CallCount) (coded× (code (coded_list coded_ℕ) (coded_list coded_ℕ)) call_count_code) (λ s. (s.files, s.calls)) (λ p. record { files = p.0; calls = p.1 }) (λ _. refl)

-- names and bytes as they lie in a list
abbrev pub entries_of : List (List ℕ × Vec ℕ Global) → List (List ℕ × List ℕ)
entries_of files = map (λ f. (f.0, f.1.items)) files

-- the files of a list; of a name that stands twice, the first
abbrev pub files_of : List (List ℕ × Vec ℕ Global) → Files
files_of files = from_entries (entries_of files)

-- the place of the first file of this name, or the length of the list
abbrev pub place_or_len : List (List ℕ × Vec ℕ Global) → List ℕ → ℕ
place_or_len files name = position_or_len (λ f. bytes_eq f.0 name) files

-- that place, where there is such a file
abbrev pub place_of : List (List ℕ × Vec ℕ Global) → List ℕ → Option ℕ
place_of files name = cond (nat_lt (place_or_len files name) (length files)) (Some (place_or_len files name)) None

-- how many bytes a source gives to a buffer of this length
abbrev pub amount : SourceState → ℕ → ℕ
amount source room = min source.piece (min (length source.left) room)
