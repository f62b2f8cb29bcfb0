-- What was noted of a run: what an event sent, and what each connection was sent.
use Rattle.std.specs.Prelude.{ℕ, ◌==◌, if◌then◌else◌, List, [], Option, None, Some, Vec}
use Rattle.std.specs.Ordering.{nat_cmp}
use Rattle.std.specs.Global.{Global}
use Rattle.std.specs.BTreeMap.{BTreeMap, get}
use Rattle.caster_warm.specs.declared.parts.Part.{Part}

-- the bytes of a part, if it is of this connection
abbrev pub part_to : ℕ → Part → List ℕ
part_to n part = if part.number == n then part.bytes.items else []

-- the bytes, if there are any
abbrev pub items_of : Option (Vec ℕ Global) → List ℕ
items_of None = []
items_of (Some bytes) = bytes.items

-- the bytes that the connection of this number was sent
abbrev pub sent_to : ℕ → BTreeMap ℕ (Vec ℕ Global) → List ℕ
sent_to n sent = items_of (get nat_cmp sent n)
