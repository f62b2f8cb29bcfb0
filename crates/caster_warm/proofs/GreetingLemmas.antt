-- The greeting that a run keeps is that of its histories.
use Rattle.std.proofs.Common.{◌≡◌, ◌∙◌, ◌++◌, ℕ, List, [], length, sym, ap, Option, None, Some}
use Rattle.mount_ring.specs.declared.shape.RingShape.{RingShape}
use Rattle.last_frames.specs.Greeted.{greeted_since}
use Rattle.session_calls.specs.Rings.{history_at, shape_at}
use Rattle.session_script.specs.declared.Event.{Event}
use Rattle.cast_config.specs.declared.config.Config.{Config}
use Rattle.session_core.specs.declared.rover_state.RoverState.{RoverState}
use Rattle.session_model.specs.Headings.{Heading}
use Rattle.session_model.specs.Reports.{AreHeadings}
use Rattle.session_model.specs.Run.{Histories, after_events}
use Rattle.session_model.specs.Setting.{shapes}
use Rattle.caster_replay.specs.declared.run.Run.{Run}
use Rattle.caster_replay.specs.Kept.{StandsFor}
use Rattle.caster_warm.specs.declared.place.GreetingPlace.{GreetingPlace}
use Rattle.caster_warm.specs.Places.{greeting_since}
use Rattle.caster_warm.specs.Warm.{greeting_text, greeting_for}

module _ (c : Config) (script later : List Event) (headings : ℕ → Heading) (run : Run GreetingPlace) (old : Histories)
    (stands : StandsFor c script run) (are : AreHeadings (script ++ later) headings) where
  abbrev now : Histories
  now = (after_events c headings script).histories

  since : (mount : ℕ) → greeting_since old run mount
      ≡ greeted_since (shape_at (shapes c) mount) (length (history_at old.rings mount)) (history_at now.rings mount)
  since mount =
      ap (λ (l : List RingShape). greeted_since (shape_at l mount) (length (history_at old.rings mount))
      (history_at run.desks.seen.rings mount)) stands.stands.places.rings
      ∙ ap (λ (h : Histories). greeted_since (shape_at (shapes c) mount) (length (history_at old.rings mount))
      (history_at h.rings mount)) (sym (stands.stands.runs.stands later headings are).histories)

  -- of a rover that stands so
  pub greets_rover : (rover : RoverState) (among : Option RoverState) → Some rover ≡ among
      → greeting_text rover.version (greeting_since old run rover.mount) ≡ greeting_for c old now among
  greets_rover rover among is =
      ap (greeting_text rover.version) (since rover.mount) ∙ ap (greeting_for c old now) is

  pub greets_none : (among : Option RoverState) → None ≡ among → [] ≡ greeting_for c old now among
  greets_none among is = ap (greeting_for c old now) is
