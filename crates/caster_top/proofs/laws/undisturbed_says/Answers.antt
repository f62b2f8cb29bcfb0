use Rattle.caster_top.specs.declared.command.RoverStart.TheVariants.{Cold, Warm}
use Rattle.caster_top.proofs.CallLemmas.{complete_bare, complete_make, complete_over, complete_played}
use Rattle.caster_top.proofs.laws.undisturbed_says.Goals as goal

pub returns-clause-complete : goal.returns-clause-complete
returns-clause-complete c = complete_bare

pub returns-clause-complete_over : goal.returns-clause-complete_over
returns-clause-complete_over c = complete_over

pub returns-clause-complete_replay : goal.returns-clause-complete_replay
returns-clause-complete_replay c call meets config session setting events are is played read write =
    complete_played call meets Cold config session setting events are is played read write

pub returns-clause-complete_warm : goal.returns-clause-complete_warm
returns-clause-complete_warm c call meets config session setting events are is played read write =
    complete_played call meets Warm config session setting events are is played read write

pub returns-clause-complete_make : goal.returns-clause-complete_make
returns-clause-complete_make c = complete_make
