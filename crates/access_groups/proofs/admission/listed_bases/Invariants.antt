use Rattle.std.proofs.Common.{◌≡◌, take}
use Rattle.std.specs.Prelude.{filter}
use Rattle.access_groups.specs.Admission.{hears}
use Rattle.access_groups.proofs.admission.listed_bases.Given as goal

abbrev pub invariant-loop-base : goal.invariant-loop-base
invariant-loop-base l = l.listed.items ≡ filter (hears l.config l.group) (take l.base-index l.bases)
