use Rattle.std.proofs.Common.{◌≡◌, map, drop, []}
use Rattle.config_keys.specs.Lists.{each_of}
use Rattle.config_keys.specs.Records.{record_at}
use Rattle.config_keys.proofs.records.each_record.Given as goal

abbrev pub invariant-loop-line : goal.invariant-loop-line
invariant-loop-line l =
    each_of (record_at l.key) l.records.items (map (λ t. t.now) (drop l.line-index l.lines)) ≡ each_of (record_at l.key)
    [] (map (λ t. t.now) l.lines)
