-- What contracts see of the network as a yard, as lists.
use Rattle.std.specs.Prelude.{map}
use Rattle.caster_logged.specs.Keepers.{YardList}
use Rattle.caster_net.specs.Gates.{YardLog, gate_logged}

-- what it was asked, and the gates and the places for lines that came back
abbrev pub yard_list : YardLog → YardList
yard_list log =
    record { asked = log.asked; gates = map gate_logged log.gates; notes = log.notes }
