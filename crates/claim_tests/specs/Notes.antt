-- What the recorder of the tests records of each item.
use Rattle.std.specs.Prelude.{ℕ, ℤ, pos, neg_ℤ, Bool, true, false, ◌==◌, List, [], ◌∷◌}
use mathlib.Core.Path.{refl}
use Rattle.eb_worker.specs.Recording.{SortKey, IsNumbered}
use Rattle.claim_tests.specs.declared.notes.Note.{Note}

abbrev pub key_of : Note → SortKey
key_of n = (n.key, n.item, n.place)

abbrev pub note : ℤ → ℕ → ℕ → ℕ → Note
note key item place value = record { key = key; item = item; place = place; value = value }

-- by whether the item is 0, and whether it is 2
abbrev pub notes_as : Bool → Bool → ℕ → List Note
notes_as true two item = note (pos 9) item 0 70 ∷ note (neg_ℤ (pos 4)) item 1 71 ∷ []
notes_as false true item = note (neg_ℤ (pos 4)) item 0 72 ∷ []
notes_as false false item = []

abbrev pub notes_of : ℕ → List Note
notes_of item = notes_as (item == 0) (item == 2) item

pub numbered_as : (zero two : Bool) (item : ℕ) → IsNumbered key_of item 0 (notes_as zero two item)
numbered_as true two item = (refl, refl, (refl, refl, tt))
numbered_as false true item = (refl, refl, tt)
numbered_as false false item = tt

pub notes_numbered : (item : ℕ) → IsNumbered key_of item 0 (notes_of item)
notes_numbered item = numbered_as (item == 0) (item == 2) item
