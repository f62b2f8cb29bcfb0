-- Why callers stopped.
use Rattle.std.proofs.Common.{◌≡◌, ℕ, zero, suc, List, [], ◌∷◌}
use mathlib.Core.Option.{some}
use lib.ListN.{get_elem?}
use Rattle.caster_keep.specs.declared.stop.Stop.{Stop}
use Rattle.caster_keep.specs.declared.stop.Stop.TheVariants as stops
use Rattle.caster_keep.specs.Keeping.{first_stop}

pub all_over : (list : List Stop) (k : ℕ) (stop : Stop) → first_stop list ≡ stops.Over
    → get_elem? list k ≡ some stop → stop ≡ stops.Over
all_over [] k stop is at = absurd cc
all_over (stops.Over ∷ more) zero stop is at = cc
all_over (stops.Over ∷ more) (suc k) stop is at = all_over more k stop is at
all_over (stops.Failed ∷ more) k stop is at = absurd (let clash : stops.Failed ≡ stops.Over = is in cc)
