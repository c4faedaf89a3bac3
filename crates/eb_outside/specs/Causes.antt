-- Why a call at the outside fails: the object's count of faults rose.
use Rattle.std.specs.Prelude.{◌+◌, ◌-◌, ◌^◌, ◌≤◌, ℕ, min, Result, OnErr, IsErrOf}
use Rattle.eb_outside.specs.declared.errors.OutsideError.{OutsideError}
use Rattle.eb_outside.specs.declared.errors.OutsideError.TheVariants.{Fault}

-- a count rose; at 2^64 - 1, where it stands still, this counts as met
abbrev pub Rose : ℕ → ℕ → Type 0
Rose before now = min (before + 1) (2 ^ 64 - 1) ≤ now

-- a count never falls, and an error comes only where it rose
pub record HasCause {T E : Type 0} (before now : ℕ) (result : Result T E) : Type 0 where
  pub later : before ≤ now
  pub failed : OnErr result (Rose before now)

-- a count never falls, and `Fault` comes only where it rose; `Memory` has no cause
pub record HasFaultCause {T : Type 0} (before now : ℕ) (result : Result T OutsideError) : Type 0 where
  pub later : before ≤ now
  pub failed : IsErrOf result Fault → Rose before now
