use Rattle.std.proofs.Common.{◌≡◌, drop}
use Rattle.ntrip_head.specs.Fields.{fields_at, value_in}
use Rattle.ntrip_head.proofs.fields.value_in.Given as goal

abbrev pub invariant-loop-place : goal.invariant-loop-place
invariant-loop-place l =
    value_in l.name (fields_at l.bytes (drop l.place l.headers)) ≡ value_in l.name (fields_at l.bytes l.headers)
