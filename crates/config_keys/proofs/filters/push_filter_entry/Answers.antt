use Rattle.config_keys.specs.Types.{push}
use Rattle.config_keys.proofs.FaultLemmas.{pushed_fails}
use Rattle.config_keys.proofs.filters.push_filter_entry.Goals as goal

pub returns-in-Err : goal.returns-in-Err
returns-in-Err c all one h k = rw c.with_fault.ensures (pushed_fails push _ _ all one (rw c.in-Err.is at h) k)
