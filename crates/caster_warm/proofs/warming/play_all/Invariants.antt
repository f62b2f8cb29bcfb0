-- the run stands for the events so far, and what each connection was sent is noted
use Rattle.std.proofs.Common.{◌≡◌, ℕ, [], take}
use Rattle.session_model.specs.Headings.{Heading}
use Rattle.session_model.specs.Reports.{AreHeadings}
use Rattle.session_model.specs.Run.{after_events}
use Rattle.caster_replay.specs.Kept.{StandsFor}
use Rattle.caster_warm.specs.Parts.{sent_to}
use Rattle.caster_warm.specs.Warm.{sent_by_events}
use Rattle.caster_warm.proofs.warming.play_all.Given as goal

abbrev pub invariant-loop-event : goal.invariant-loop-event
invariant-loop-event l = record {
  stands : StandsFor l.config (take l.event-index l.events) l.run;
  sent : (headings : ℕ → Heading) (n : ℕ) → AreHeadings l.events headings
      → sent_to n l.sent
      ≡ sent_by_events l.config headings (after_events l.config headings []) (take l.event-index l.events) n;
}
