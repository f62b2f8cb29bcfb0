-- Each step of bytes holds some.
use Rattle.std.proofs.Common.{IsTrue}
use Rattle.std.specs.List.{list_all}
use Rattle.cast_io.specs.FakeLinks.{has_bytes}
use Rattle.caster_cases.proofs.links.push_idle.Given as goal

abbrev pub invariant-loop : goal.invariant-loop
invariant-loop l = IsTrue (list_all has_bytes l.steps.items)
