-- the parts so far stand in the text
use Rattle.std.proofs.Common.{◌≡◌, take}
use Rattle.ntrip_client.specs.Request.{joined}
use Rattle.ntrip_client.proofs.request.join_parts.Given as goal

abbrev pub invariant-loop-part : goal.invariant-loop-part
invariant-loop-part l = l.text.items ≡ joined (take l.part-index l.parts)
