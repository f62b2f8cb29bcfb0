use Rattle.std.proofs.Common.{ℕ, ◌++◌, Bool, List, Option, length, map, refl, sym, subst}
use Rattle.std.specs.Prelude.{reverse}
use Rattle.cast_text.specs.Lines as lines
use Rattle.turn_log.specs.History.{History}
use Rattle.mount_ring.specs.declared.call.RingCall.{RingCall}
use Rattle.mount_ring.specs.declared.shape.RingShape.{RingShape}
use Rattle.rover_cursor.specs.declared.segment.Segment.{Segment}
use Rattle.rover_cursor.specs.declared.fault.SegFault.{SegFault}
use Rattle.session_calls.specs.Rings.{AllSpeak, all_alone}
use Rattle.rover_session.specs.Owed.{heeds}
use Rattle.rover_session.specs.Made.{present_base}
use Rattle.rover_session.specs.Standing.{Rover, AreWithin, KnowsFilter, WasResumable, SentSoFar, frames_sent, Followed, Stands, Told}
use Rattle.rover_session.specs.Kept.{rover_in}
use Rattle.rover_session.proofs.SegmentLemmas.{was_resumable}
use Rattle.rover_session.proofs.StandsLemmas.{told_fed, told_halted, none_of_err}
use Rattle.rover_session.proofs.session.RoverSession.feed.Goals as goal

pub heed_all-fed-requires-clause-within : goal.heed_all-fed-requires-clause-within
heed_all-fed-requires-clause-within g c =
    subst (λ (r : Rover). AreWithin (length c.args.places.now) r.terms.bases) (sym c.self.view_is) c.requires.within

pub heed_all-fed-requires-clause-speaks : goal.heed_all-fed-requires-clause-speaks
heed_all-fed-requires-clause-speaks g c =
    subst (λ (r : Rover). AllSpeak g.T.Turns.speaks c.args.places.now r.me) (sym c.self.view_is) c.requires.speaks

pub heed_all-fed-requires-clause-filter : goal.heed_all-fed-requires-clause-filter
heed_all-fed-requires-clause-filter g c =
    subst (λ (r : Rover). KnowsFilter (map g.T.Turns.shape c.args.places.now) r.terms.filter) (sym c.self.view_is)
    c.requires.filter

pub returns-in-Some-clause-told : goal.returns-in-Some-clause-told
returns-in-Some-clause-told g c =
    let shapes : List RingShape = map g.T.Turns.shape c.args.places.now in
    let alone : Bool = all_alone g.T.Turns.alone c.args.places.now in
    let histories : List (History RingCall) = map g.T.Turns.seen c.args.places.now in
    λ first before steps stands.
    subst (λ (r : Rover). Told shapes alone histories histories r first (before ++ c.args.bytes.now) steps)
    c.self.view_is
    (told_halted shapes alone histories (rover_in c.self.inside) c.in-Some.fault first before c.args.bytes.now steps
    c.in-Some.is (subst (λ (r : Rover). Stands r first before steps) (sym c.self.view_is) stands))

pub returns-in-Some-clause-sent : goal.returns-in-Some-clause-sent
returns-in-Some-clause-sent g c = record {
  resumable = was_resumable _ _ _ _ c.requires.resumes;
  sent = refl;
}

pub returns-in-None-clause-told : goal.returns-in-None-clause-told
returns-in-None-clause-told g c = λ first before steps stands.
    let place = g.T.Turns in
    let shapes : List RingShape = map place.shape c.args.places.now in
    let alone : Bool = all_alone place.alone c.args.places.now in
    let old : List (History RingCall) = map place.seen c.args.places.now in
    let now : List (History RingCall) = map place.seen c.heed_all-fed.new.places in
    let rover : Rover = rover_in c.self.inside in
    let stood : Stands rover first before steps =
    subst (λ (r : Rover). Stands r first before steps) (sym c.self.view_is) stands in
    let after : List Segment = reverse c.heed_all-fed.new.segments.items in
    let line = stood.line c.in-None.is in
    let told = c.heed_all-fed.ensures.followed before line in
    told_fed shapes alone old now rover c.heed_all-fed.new.reader after c.err-self-inside.result first before c.args.bytes.now
    steps
    told.0 c.in-None.is
    (λ none. none_of_err ((b : List ℕ) → lines.StandsFor c.self.inside.reports b
    → lines.StandsFor c.heed_all-fed.new.reader (b ++ c.args.bytes.now)) c.heed_all-fed.result c.err-self-inside.result
    c.err-self-inside.ensures.value c.heed_all-fed.ensures.line none before line)
    told.1
    (subst (λ (halt : Option SegFault). Followed shapes alone old now rover.me
    (heeds rover.terms.near rover.terms (present_base rover.segments) told.0) halt rover.segments after)
    (sym c.err-self-inside.ensures.value) told.2)
    stood

pub returns-in-None-clause-sent : goal.returns-in-None-clause-sent
returns-in-None-clause-sent g c =
    let shapes : List RingShape = map g.T.Turns.shape c.args.places.now in
    let old : List (History RingCall) = map g.T.Turns.seen c.args.places.now in
    let now : List (History RingCall) = map g.T.Turns.seen c.heed_all-fed.new.places in
    subst (λ (r : Rover). SentSoFar shapes r.me now (reverse c.heed_all-fed.new.segments.items)
    (frames_sent shapes old r.segments)) c.self.view_is
    (c.heed_all-fed.ensures.keeps (was_resumable _ _ _ _
    (subst (λ (r : Rover). WasResumable shapes r.me old r.segments) (sym c.self.view_is) c.requires.resumes)))
