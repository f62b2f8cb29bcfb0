-- Where the rover of one connection stands.
use Rattle.std.proofs.Common.{◌≡◌, ◌∙◌, ◌++◌, ℕ, List, [], refl, sym, ap, Option, None, Some}
use Rattle.std.specs.Prelude.{if◌then◌else◌, unwrap_or}
use Rattle.ntrip_head.specs.declared.request.Version.{Version}
use Rattle.ntrip_head.specs.declared.request.Version.TheVariants.{One}
use Rattle.rover_cursor.specs.declared.segment.Segment.{Segment}
use Rattle.rover_session.specs.Made.{segments_after}
use Rattle.session_calls.specs.Steps.{Step}
use Rattle.cast_config.specs.declared.config.Config.{Config}
use Rattle.session_model.specs.declared.ending.Ending.{Ending}
use Rattle.session_core.specs.declared.session_stage.SessionStage.{SessionStage}
use Rattle.session_core.specs.declared.session_stage.SessionStage.TheVariants as stages
use Rattle.session_model.specs.Headings.{Heading}
use Rattle.session_model.specs.Judged.{Opening, Judged}
use Rattle.session_model.specs.Owed.{Came, came_to}
use Rattle.session_model.specs.Replies.{version_of}
use Rattle.session_model.specs.Reports.{IsHeadingOf}
use Rattle.session_model.specs.Run.{Histories, Connected}
use Rattle.session_core.specs.Standing.{IsAtStage, is_halted}
use Rattle.session_core.specs.States.{state_in, state_at}
use Rattle.session_core.proofs.ReceiptLemmas.{rover_inside}
use Rattle.caster_replay.specs.declared.run_connection.State.{State}
use Rattle.caster_replay.specs.declared.run_connection.State.TheVariants.{Open, Closed}
use Rattle.caster_replay.specs.RunConnections.{is_open_at, rover_at}
use Rattle.caster_replay.specs.Going.{rover_of}
use Rattle.caster_replay.specs.Lives.{IsKept}
use Rattle.caster_replay.proofs.WorldStepLemmas.{judged_so}

no_rover : (version : Version) (segments : List Segment) → segments ≡ [] → None ≡ state_in version segments
no_rover version segments none = sym (ap (state_in version) none)

stage_rover : (c : Config) (me : ℕ) (h : Histories) (o : Opening) (j : Judged) (text : List ℕ) (steps : List Step)
    (stage : SessionStage) → IsAtStage c me h o j text steps stage
    → state_at None stage ≡ state_in (version_of (came_to j steps)) (segments_after [] steps)
stage_rover c me h o j text steps (stages.Head head) s =
    no_rover (version_of (came_to j steps)) (segments_after [] steps) (ap (segments_after []) s.2)
stage_rover c me h o j text steps stages.Over s =
    no_rover (version_of (came_to j steps)) (segments_after [] steps) s.segments
stage_rover c me h o j text steps (stages.Source mount session) s =
    no_rover (version_of (came_to j steps)) (segments_after [] steps) s.segments
stage_rover c me h o j text steps (stages.Relay mount session) s =
    no_rover (version_of (came_to j steps)) (segments_after [] steps) s.segments
stage_rover c me h o j text steps (stages.Rover account session) s =
    ap (λ (v : Version). state_in v session.segments) s.version
    ∙ ap (state_in (unwrap_or s.terms.version One)) s.stands.segments
    ∙ ap (λ (l : List Step). state_in (unwrap_or s.terms.version One) (segments_after [] l)) (sym s.steps_are)
    ∙ ap (λ (x : Came). state_in (version_of x) (segments_after [] steps))
    (sym (rover_inside c me h j steps account session s))

pub kept_rover : (c : Config) (heading : Heading) (now : Histories) (d : Connected) (state : State) (bytes rest : List ℕ)
    → IsKept c heading now d state bytes → IsHeadingOf (Some d.opening) (d.text ++ rest) heading
    → (if is_open_at state then rover_of c heading d else None) ≡ rover_at state
kept_rover c heading now d (Open session) bytes rest kept said =
    let so = judged_so c heading kept.histories d session bytes rest kept.stands
    (ap is_halted kept.goes) said in
    ap (λ (j : Judged). state_in (version_of (came_to j d.steps)) (segments_after [] d.steps)) so
    ∙ sym (stage_rover c session.me kept.histories d.opening _ d.text d.steps session.stage kept.stands.stage)
    ∙ ap (λ (e : Option Ending). state_at e session.stage) (sym kept.goes)
kept_rover c heading now d (Closed receipt) bytes rest kept said = refl
