use Rattle.keep_promise.proofs.WholeLemmas.{all_promised}
use Rattle.keep_promise.proofs.laws.keepers_are_promised.Goals as goal

pub returns : goal.returns
returns g c =
    all_promised g.N.Gate.Door.told g.N.Gate.Gate.over g.N.Gate.Gate.peer g.N.Gate.Gate.origin g.N.Notes.Sink.taken
    g.N.Notes.Sink.faults
