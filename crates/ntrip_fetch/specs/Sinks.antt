-- What calls do to the count of a sink's faults: it never falls, a call that is answered leaves it
-- as it was, and one fails for the sink's sake only where it rose.
use Rattle.std.specs.Prelude.{◌≡◌, ℕ, ◌≤◌, Result, OnOk, OnErr, IsErrOf}
use Rattle.cast_io.specs.Causes.{Rose}
use Rattle.ntrip_fetch.specs.declared.left.FetchFault.{FetchFault}
use Rattle.ntrip_fetch.specs.declared.left.FetchFault.TheVariants as faults

-- of a call that fails only where a write failed
pub record Counts {T E : Type 0} (before now : ℕ) (result : Result T E) : Type 0 where
  pub later : before ≤ now
  pub unharmed : OnOk result (now ≡ before)
  pub cause : OnErr result (Rose before now)

-- of a call that fails where memory was lacking, too; that leaves the count as it was
pub record CountsFor {T : Type 0} (before now : ℕ) (result : Result T FetchFault) : Type 0 where
  pub later : before ≤ now
  pub unharmed : OnOk result (now ≡ before)
  pub calm : IsErrOf result faults.Memory → now ≡ before
  pub cause : IsErrOf result faults.Sink → Rose before now
