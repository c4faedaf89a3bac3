-- What the parts of a case say of the end of its run.
use Rattle.std.specs.Prelude.{◌≡◌, ◌++◌, ◌&&◌, if◌then◌else◌, ℕ, Bool, List, [], ◌∷◌, Option, Some, None, All, codes}
use Rattle.std.specs.Str.{bytes_eq}
use Rattle.std.specs.Fmt.{decimal}
use Rattle.std.specs.FinMap.{get}
use Rattle.eb_outside.specs.Shelves.{Files}
use Rattle.case_parts.specs.declared.parts.Part.{Part}

-- the head of a part has this word and this name
unfoldable pub has_head : Part → List ℕ → List ℕ → Bool
has_head part word name = bytes_eq part.word word && bytes_eq part.name name

-- the body of the first part of this word and this name
abbrev pub body_in : List Part → List ℕ → List ℕ → Option (List ℕ)
body_in [] word name = None
body_in (part ∷ rest) word name = if has_head part word name then Some part.body else body_in rest word name

-- a case's own part of a word, or else that of all cases of its file
abbrev pub body_or : Option (List ℕ) → Option (List ℕ) → Option (List ℕ)
body_or (Some own) shared = Some own
body_or None shared = shared

-- the status that must come, as a line
abbrev pub status_line : Option (List ℕ) → List ℕ
status_line (Some line) = line
status_line None = codes "0\n"

-- the status that a case says by its own parts or else by those of its file, as a line
abbrev pub wanted_status : List Part → List Part → List ℕ
wanted_status own shared = status_line (body_or (body_in own (codes "status") []) (body_in shared (codes "status") []))

-- a file that a part names is as the part says
pub record IsKept (files : Files) (part : Part) : Type 0 where
  pub after : part.word ≡ codes "after" → get files part.name ≡ Some part.body
  pub gone : part.word ≡ codes "gone" → get files part.name ≡ None
