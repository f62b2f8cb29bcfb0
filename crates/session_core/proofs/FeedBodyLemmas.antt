-- What a call tells of the places that it was given, as a configuration names them.
use Rattle.std.proofs.Common.{◌≡◌, ◌∙◌, ◌<◌, ℕ, Bool, IsTrue, List, length, map, sym, ap, subst, arith, Option, Result}
use Rattle.std.specs.Option.{option_map}
use Rattle.std.specs.Result.{result_err}
use Rattle.std.proofs.lemmas.List.{length-map}
use Rattle.turn_log.specs.History.{History}
use Rattle.mount_ring.specs.declared.call.RingCall.{RingCall}
use Rattle.mount_ring.specs.declared.shape.RingShape.{RingShape}
use Rattle.gga_read.specs.declared.Position.{Position}
use Rattle.rover_cursor.specs.declared.segment.Segment.{Segment}
use Rattle.session_calls.specs.Steps.{Step}
use Rattle.upstream_relay.specs.declared.session.RelaySession.{RelaySession}
use Rattle.rover_session.specs.Standing.{Rover, IsResumable, Told, frames_sent}
use Rattle.cast_config.specs.declared.config.Config.{Config}
use Rattle.session_model.specs.declared.ending.Ending.{Ending}
use Rattle.session_model.specs.Setting.{shapes}
use Rattle.session_core.proofs.Published.{Published, RelayFed}
use Rattle.session_core.proofs.BegunLemmas.{went_as}
use Rattle.session_core.proofs.HeldLemmas.{length_shapes}

-- as many places as mountpoints
pub within_places : {P : Type 0} (shape : P → RingShape) (places : List P) (c : Config) (mount : ℕ)
    → map shape places ≡ shapes c → mount < length c.mount → mount < length places
within_places shape places c mount same within =
    omega (arith, within, length-map places shape, ap length same, length_shapes c)

pub as_many_places : {P : Type 0} (shape : P → RingShape) (places : List P) (c : Config)
    → map shape places ≡ shapes c → length c.mount ≡ length places
as_many_places shape places c same = omega (arith, length-map places shape, ap length same, length_shapes c)

pub published_as : (c : Config) (given : List RingShape) (less alone : Bool) (old now : List (History RingCall))
    (me mount claim : ℕ) (refused : Bool) (frames : List (List ℕ)) → given ≡ shapes c → (IsTrue less → IsTrue alone)
    → Published given alone old now me mount claim refused frames
    → Published (shapes c) less old now me mount claim refused frames
published_as c given less alone old now me mount claim refused frames same from p = record {
  more = p.more;
  went = went_as c given less alone old now me p.more same from p.went;
  made = p.made;
}

pub relay_fed_as : (c : Config) (given : List RingShape) (less alone : Bool) (old now : List (History RingCall))
    (me mount : ℕ) (session : RelaySession) (answer : List ℕ) (steps : List Step) → given ≡ shapes c
    → (IsTrue less → IsTrue alone) → RelayFed given alone old now me mount session answer steps
    → RelayFed (shapes c) less old now me mount session answer steps
relay_fed_as c given less alone old now me mount session answer steps same from p = record {
  more = p.more;
  went = went_as c given less alone old now me p.more same from p.went;
  stands = p.stands;
}

pub told_by : (c : Config) (given : List RingShape) (less alone : Bool) (old now : List (History RingCall))
    (rover : Rover) (first : Option Position) (bytes : List ℕ) (steps : List Step) → given ≡ shapes c
    → (IsTrue less → IsTrue alone) → Told given alone old now rover first bytes steps
    → Told (shapes c) less old now rover first bytes steps
told_by c given less alone old now rover first bytes steps same from p = record {
  more = p.more;
  went = went_as c given less alone old now rover.me p.more same from p.went;
  no_read = p.no_read;
  stands = p.stands;
}

pub resumes_as : (c : Config) (given : List RingShape) (me : ℕ) (now : List (History RingCall))
    (segments : List Segment) → given ≡ shapes c → IsResumable given me now segments
    → IsResumable (shapes c) me now segments
resumes_as c given me now segments same is = subst (λ (s : List RingShape). IsResumable s me now segments) same is

pub sent_as : (c : Config) (given : List RingShape) (old now : List (History RingCall)) (before after : List Segment)
    → given ≡ shapes c → frames_sent given now after ≡ frames_sent given old before
    → frames_sent (shapes c) now after ≡ frames_sent (shapes c) old before
sent_as c given old now before after same is =
    subst (λ (s : List RingShape). frames_sent s now after ≡ frames_sent s old before) same is

-- ---- how it ended

pub ended_as : {K H : Type 0} (end : K → H → Ending) (r : Result (Unit {0}) H) (halt : Option H) (told claim : K)
    (ended : Option Ending) → ended ≡ option_map (end told) (result_err r) → told ≡ claim → halt ≡ result_err r
    → ended ≡ option_map (end claim) halt
ended_as {K} end r halt told claim ended is same fed =
    is ∙ ap (λ (k : K). option_map (end k) (result_err r)) same ∙ ap (option_map (end claim)) (sym fed)
