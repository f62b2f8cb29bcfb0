-- Where the rovers of a run stand, as what is kept of its connections tells.
use Rattle.std.proofs.Common.{◌≡◌, ◌≢◌, ◌∙◌, ◌<◌, ◌++◌, ℕ, zero, suc, Bool, false, List, [], ◌∷◌, length, get_or, refl, ap, subst, arith, Option, None}
use Rattle.std.specs.Prelude.{if◌then◌else◌}
use Rattle.session_script.specs.declared.Event.{Event}
use Rattle.cast_config.specs.declared.config.Config.{Config}
use Rattle.session_core.specs.declared.rover_state.RoverState.{RoverState}
use Rattle.session_model.specs.Headings.{Heading}
use Rattle.session_model.specs.Reports.{AreHeadings}
use Rattle.session_model.specs.Run.{Histories, Connected, World, is_concerned, is_opened, after_events}
use Rattle.caster_replay.specs.declared.run_connection.State.{State}
use Rattle.caster_replay.specs.RunConnections.{rover_at}
use Rattle.caster_replay.specs.Going.{rover_of, rover_among}
use Rattle.caster_replay.specs.Lives.{Live, live_of}
use Rattle.caster_replay.specs.Runs.{Runs, IsIncreasing}
use Rattle.caster_replay.proofs.WorldListLemmas.{above_at, none_above, apart_first, none_later}
use Rattle.caster_replay.proofs.WorldRunLemmas.{IsRunAt}
use Rattle.caster_replay.proofs.WorldRunnerLemmas.{said_of, nobody, there, IsFound, found, IsAbsent, absent_from}
use Rattle.caster_replay.proofs.GoingLemmas.{going_apart, kept_going}
use Rattle.caster_replay.proofs.PlayLemmas.{run_of}
use Rattle.caster_replay.proofs.StateLemmas.{kept_rover}

-- ---- among connections in increasing order of number

module _ (c : Config) (headings : ℕ → Heading) (number : ℕ) where
  rover_past : (d : Connected) (ds : List Connected) → d.number ≢ number
      → rover_among c headings number (d ∷ ds) ≡ rover_among c headings number ds
  rover_past d ds apart =
      ap (λ (b : Bool). if b then rover_of c (headings d.number) d else rover_among c headings number ds)
      (going_apart c headings number d apart)

  rover_none : (ds : List Connected) → is_opened number ds ≡ false → rover_among c headings number ds ≡ None
  rover_none [] none = refl
  rover_none (d ∷ ds) none =
      rover_past d ds (apart_first number d ds none) ∙ rover_none ds (none_later number d ds none)

  -- the rover that stands at a connection, if this one goes on
  abbrev rover_here : Connected → Option RoverState
  rover_here d =
      if is_concerned c (headings d.number) number d then rover_of c (headings d.number) d else None

  rover_by : (ds : List Connected) (at : ℕ) (x : Connected) → IsIncreasing ds → at < length ds
      → (get_or ds at x).number ≡ number → rover_among c headings number ds ≡ rover_here (get_or ds at x)
  rover_by [] at x order within here = absurd (omega (arith, within))
  rover_by (d ∷ ds) zero x order within here =
      ap (λ (r : Option RoverState). if is_concerned c (headings d.number) number d then
      rover_of c (headings d.number) d else r)
      (rover_none ds (subst (λ (n : ℕ). is_opened n ds ≡ false) here (none_above d.number ds order.0)))
  rover_by (d ∷ ds) (suc at) x order within here =
      let below : d.number < (get_or ds at x).number = above_at d.number ds at x order.0 (omega (arith, within)) in
      rover_past d ds (λ e. absurd (omega (arith, below, here, e)))
      ∙ rover_by ds at x order.1 (omega (arith, within)) here

-- ---- of a run

module _ (c : Config) (script : List Event) (lives : List Live) (now : Histories) (run : Runs c script lives now)
    (more : List Event) (headings : ℕ → Heading) (are : AreHeadings (script ++ more) headings) (number : ℕ) where
  abbrev w : World
  w = after_events c headings script

  at_now : IsRunAt c headings w lives now
  at_now = (run_of c script lives now run).stands more headings are

  pub rover_missing : (y : Live) → IsAbsent number lives y → rover_among c headings number w.connections ≡ None
  rover_missing y absent =
      rover_none c headings number w.connections (absent_from c headings w lives now number y at_now absent)

  pub rover_found : (at : ℕ) (y : Live) (state : State) (bytes : List ℕ) → at < length lives
      → get_or lives at y ≡ live_of number state bytes
      → rover_among c headings number w.connections ≡ rover_at state
  rover_found at y state bytes within is =
      let f : IsFound c headings script now at number state bytes =
      found c headings script lives now at y number state bytes (run.known headings) at_now within is in
      let d : Connected = there c headings script at in
      let said = said_of c script more headings d are f.known in
      rover_by c headings number w.connections at nobody at_now.order f.within f.here
      ∙ ap (λ (b : Bool). if b then rover_of c (headings d.number) d else None)
      (kept_going c headings number now d state bytes said.0 f.kept said.1 f.here)
      ∙ kept_rover c (headings d.number) now d state bytes said.0 f.kept said.1
