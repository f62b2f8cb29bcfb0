-- the first connections were closed, whatever events were played before
use Rattle.std.proofs.Common.{◌≡◌, List, length, take}
use Rattle.session_script.specs.declared.Event.{Event}
use Rattle.cast_config.specs.declared.config.Config.{Config}
use Rattle.caster_replay.specs.RunConnections.{AreOver}
use Rattle.caster_replay.specs.Lives.{lives_in}
use Rattle.caster_replay.specs.Scripts.{IsShort, Stands}
use Rattle.caster_replay.specs.Sends.{IsSilent}
use Rattle.caster_replay.proofs.ReplayLemmas.{Closes}
use Rattle.caster_replay.proofs.lives.close_all.Given as goal

abbrev pub invariant-loop-place : goal.invariant-loop-place
invariant-loop-place g l = record {
  count : length l.entries.items ≡ length l.fn.entries.items;
  over : AreOver (take l.place (lives_in l.entries.items));
  closes : (c : Config) (script : List Event) → IsShort script → Stands c script l.fn.entries.items l.fn.desks
      → Closes c script l.place l.entries.items l.desks;
  silent : IsSilent (lives_in l.fn.entries.items) (lives_in l.entries.items);
}
