-- the first bytes are numbers below 256
use Rattle.std.proofs.Common.{◌≡◌, nat_lt, true, take}
use Rattle.std.specs.List.{list_all}
use Rattle.caster_record.proofs.hearing.are_bytes.Given as goal

abbrev pub invariant-loop-byte : goal.invariant-loop-byte
invariant-loop-byte l = list_all (λ b. nat_lt b 256) (take l.byte-index l.piece) ≡ true
