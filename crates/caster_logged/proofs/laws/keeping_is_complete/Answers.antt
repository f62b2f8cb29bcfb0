use Rattle.caster_top.specs.Given.{FileCame}
use Rattle.cast_io.specs.Causes.{Rose}
use Rattle.caster_logged.proofs.CompleteLemmas.{keeping_ends}
use Rattle.caster_logged.proofs.laws.keeping_is_complete.Goals as goal

pub returns : goal.returns
returns g c = λ door text logs notes_log files opened closed config addr quiet old new f g2 h i back_before back_now
    read_before read_now written now_written first now status has gives whole store yard output.
    keeping_ends g.N.Gate.Door.told g.N.Gate.Gate.over g.N.Gate.Gate.peer g.N.Gate.Gate.origin g.N.Notes.Sink.taken
    g.N.Notes.Sink.faults door text logs notes_log (FileCame files opened closed) config addr quiet old new f g2 h i
    back_before back_now (Rose read_before read_now) written now_written first now status has gives whole store yard
    output
