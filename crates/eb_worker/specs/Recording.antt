-- Recording by workers: what they record of the items is the sorted list of all items' lists. No worker stands in it.
use Rattle.std.specs.Prelude.{◌≡◌, ℕ, ℤ, ◌+◌, ◌<◌, List, [], ◌∷◌, flat_map, IsPermutation, IsSortedByKey}
use Rattle.std.specs.List.{range_with_len}
use Rattle.std.specs.Ordering.{nat_cmp, int_cmp, ordering_then}
use Rattle.std.specs.declared.cmp.Ordering.{Ordering}
use Rattle.eb_claims.specs.Seats.{Known, Held, IsSeatOf}

-- the key, the item, and the place in the item's list
abbrev pub SortKey : Type 0
SortKey = ℤ × ℕ × ℕ

-- by key, then by item, then by place
abbrev pub key_cmp : SortKey → SortKey → Ordering
key_cmp a b = ordering_then (ordering_then (int_cmp a.0 b.0) (nat_cmp a.1 b.1)) (nat_cmp a.2 b.2)

module _ {E : Type 0} where
  -- the entries have this item, and the places from this one on
  abbrev pub IsNumbered : (E → SortKey) → ℕ → ℕ → List E → Type 0
  IsNumbered key item place [] = Unit {0}
  IsNumbered key item place (x ∷ xs) = ((key x).1 ≡ item) × ((key x).2 ≡ place) × IsNumbered key item (place + 1) xs

  -- the lists of the items from 0 on, one after another
  abbrev pub lists_of : (ℕ → List E) → ℕ → List E
  lists_of lists items = flat_map lists (range_with_len 0 items)

  -- the same entries, sorted
  pub record IsSortOf (key : E → SortKey) (entries sorted : List E) : Type 0 where
    pub same : IsPermutation entries sorted
    pub rises : IsSortedByKey key key_cmp sorted

  -- whoever sorts the lists of so many items, has one list
  abbrev pub HasOneSort : (E → SortKey) → (ℕ → List E) → Type 0
  HasOneSort key lists = (items : ℕ) (xs ys : List E) → IsSortOf key (lists_of lists items) xs → IsSortOf key (lists_of lists items) ys → xs ≡ ys

  -- a seat of so many workers, one of which found no item, and the lists of the items that it claimed
  pub record HasRecorded (c : Known) (lists : ℕ → List E) (workers : ℕ) (s : Held) (entries : List E) : Type 0 where
    pub of : IsSeatOf c s
    pub share : s.view.share ≡ workers
    pub stop : 0 < s.view.stops
    pub entries_are : entries ≡ flat_map lists s.view.list

-- a seat of so many workers that has claimed nothing yet
pub record IsFresh (workers : ℕ) (s : Held) : Type 0 where
  pub list : s.view.list ≡ []
  pub stops : s.view.stops ≡ 0
  pub share : s.view.share ≡ workers
