use Rattle.caster_logged.proofs.KeeperLemmas.{kept_all}
use Rattle.caster_logged.proofs.laws.kept_links_are_logged.Goals as goal

pub returns : goal.returns
returns g c = λ door text logs notes_log.
    kept_all g.N.Gate.Door.told g.N.Gate.Gate.over g.N.Gate.Gate.peer g.N.Gate.Gate.origin g.N.Notes.Sink.taken
    g.N.Notes.Sink.faults door text logs notes_log
