-- The calls of an object in memory: how many there were, which of them fail, and how many have failed.
use Rattle.std.specs.Prelude.{ℕ, ◌+◌, ◌-◌, ◌^◌, min, List, Bool, true, false, nat_eq}
use Rattle.std.specs.List.{list_any}

-- the numbers of the calls that fail count from 0
pub record CallCount : Type 0 where
  pub made : ℕ
  pub fails : List ℕ
  pub faults : ℕ

-- no call has been made
abbrev pub no_calls : List ℕ → CallCount
no_calls fails = record { made = 0; fails = fails; faults = 0 }

-- the next call is one of those that fail
abbrev pub next_fails : CallCount → Bool
next_fails calls = list_any (λ n. nat_eq n calls.made) calls.fails

-- one more, where a count stands still at 2^64 - 1
abbrev pub one_more : ℕ → ℕ
one_more n = min (n + 1) (2 ^ 64 - 1)

abbrev pub counted_as : Bool → CallCount → CallCount
counted_as true calls = record { made = one_more calls.made; fails = calls.fails; faults = one_more calls.faults }
counted_as false calls = record { made = one_more calls.made; fails = calls.fails; faults = calls.faults }

-- the calls with the next one among them
abbrev pub counted : CallCount → CallCount
counted calls = counted_as (next_fails calls) calls
