use Rattle.std.proofs.Common.{ℕ, ◌<◌, Bool, List, [], ◌∷◌, Option, None, Some, length, map, refl, sym, ap, subst, ◌∙◌}
use Rattle.std.specs.Prelude.{reverse}
use Rattle.std.specs.Result.{result_err}
use Rattle.std.specs.List.{All}
use Rattle.std.proofs.lemmas.Result.{err_from_is_err_and}
use Rattle.turn_log.specs.History.{History}
use Rattle.base_select.specs.declared.Base.{Base}
use Rattle.base_select.specs.Measure.{IsOnEarth}
use Rattle.mount_ring.specs.declared.call.RingCall.{RingCall}
use Rattle.mount_ring.specs.declared.shape.RingShape.{RingShape}
use Rattle.rover_cursor.specs.declared.segment.Segment.{Segment}
use Rattle.rover_cursor.specs.declared.fault.SegFault.{SegFault}
use Rattle.session_calls.specs.Plans.{done}
use Rattle.session_calls.specs.Rings.{all_alone}
use Rattle.session_calls.proofs.PlaceLemmas.{speak_same, alone_same, length_same}
use Rattle.rover_session.specs.Owed.{Terms, joins, follows}
use Rattle.rover_session.specs.Made.{present_base}
use Rattle.rover_session.specs.Standing.{terms_of, AreWithin, AskedEach, AskedFirst, Followed}
use Rattle.rover_session.proofs.FollowedLemmas.{followed_none, followed_after, followed_first, followed_as, err_at, changed_named}
use Rattle.rover_session.proofs.BaseLemmas.{asked_such}
use Rattle.rover_session.proofs.follow.follow.Goals as goal

pub returns-in_err-held-clause-followed : goal.returns-in_err-held-clause-followed
returns-in_err-held-clause-followed g c =
    let place = g.T.Turns in
    let shapes : List RingShape = map place.shape c.args.places.now in
    let old : List (History RingCall) = map place.seen c.args.places.now in
    let now : List (History RingCall) = map place.seen c.held_among.new.places in
    let before : List Segment = reverse c.args.segments.now.items in
    let terms : Terms = terms_of c.args.admitted.now in
    let p = err_from_is_err_and c.from_residual.result c.from_residual.ensures.1 in
    err_at (λ (refused : Option SegFault). Followed shapes (all_alone place.alone c.args.places.now) old now
    c.args.admitted.now.me (follows terms (present_base before) (c.args.rover ∷ [])) refused before before)
    c.from_residual.result p.0 p.1
    (followed_first shapes (all_alone place.alone c.args.places.now) old now c.args.admitted.now.me terms
    (present_base before) c.args.rover p.0 before
    (subst (AskedFirst shapes (all_alone place.alone c.args.places.now) old now c.args.admitted.now.me)
    c.as_slice.ensures.value c.in_err-held.ensures.first))

pub next_base-requires-clause-bases : goal.next_base-requires-clause-bases
next_base-requires-clause-bases g c =
    subst (All (λ (base : Base). IsOnEarth base.at)) (sym c.as_slice-3.ensures.value)
    (asked_such (λ (base : Base). IsOnEarth base.at) _ _ _ _ _ _ _ c.in_ok-held.ensures.each
    (subst (All (λ (base : Base). IsOnEarth base.at)) (sym c.as_slice.ensures.value) c.args.admitted.now.on_earth))

pub begin_segment-requires-clause-within : goal.begin_segment-requires-clause-within
begin_segment-requires-clause-within g c =
    let count : ℕ = length c.held_among.new.places in
    c.in-Some.ensures.within count
    (subst (AreWithin count) (sym c.as_slice-3.ensures.value)
    (asked_such (λ (base : Base). base.mount < count) _ _ _ _ _ _ _ c.in_ok-held.ensures.each
    (subst (AreWithin count) (sym c.as_slice.ensures.value)
    (subst (λ (n : ℕ). AreWithin n c.args.admitted.now.bases.items)
    (sym (length_same g.T.Turns.shape c.args.places.now c.held_among.new.places c.held_among.ensures.stay.same.0))
    c.requires.within))))

pub begin_segment-requires-clause-speaks : goal.begin_segment-requires-clause-speaks
begin_segment-requires-clause-speaks g c =
    speak_same g.T.Turns.speaks c.args.places.now c.held_among.new.places c.args.admitted.now.me
    c.held_among.ensures.stay.same.1 c.requires.speaks

pub returns-in-Some-clause-followed : goal.returns-in-Some-clause-followed
returns-in-Some-clause-followed g c =
    let place = g.T.Turns in
    let old = c.args.places.now in
    let mid = c.held_among.new.places in
    let shapes : List RingShape = map place.shape old in
    let alone : Bool = all_alone place.alone old in
    let at_mid : List (History RingCall) = map place.seen mid in
    let now : List (History RingCall) = map place.seen c.begin_segment.new.places in
    let me : ℕ = c.args.admitted.now.me in
    let terms : Terms = terms_of c.args.admitted.now in
    let before : List Segment = reverse c.args.segments.now.items in
    let after : List Segment = reverse c.begin_segment.new.segments.items in
    let held : List Base = c.in_ok-held.held.items in
    followed_after shapes alone (map place.seen old) at_mid now me terms (present_base before) c.args.rover held
    (result_err c.begin_segment.result) before after
    (subst (λ (bases : List Base). AskedEach shapes alone (map place.seen old) at_mid me bases held)
    c.as_slice.ensures.value c.in_ok-held.ensures.each)
    (subst (λ (to : Option ℕ). Followed shapes alone at_mid now me (joins terms.filter to done)
    (result_err c.begin_segment.result) before after)
    (sym (changed_named terms.hysteresis (Some c.in-Some.mount) (present_base before) c.present_of-present.result
    c.args.rover held c.as_slice-3.result.now c.in-Some.ensures.choice
    (c.present_of-present.ensures ∙ ap (λ (l : List Segment). present_base (reverse l)) c.as_slice-2.ensures.value)
    c.as_slice-3.ensures.value))
    (followed_as shapes (map place.shape mid) alone (all_alone place.alone mid) at_mid now me
    (joins terms.filter (Some c.in-Some.mount) done) (result_err c.begin_segment.result) before after
    c.held_among.ensures.stay.same.0 (alone_same place.alone old mid c.held_among.ensures.stay.same.3)
    c.begin_segment.ensures.followed))

pub returns-clause-followed : goal.returns-clause-followed
returns-clause-followed g c =
    let place = g.T.Turns in
    let old = c.args.places.now in
    let shapes : List RingShape = map place.shape old in
    let alone : Bool = all_alone place.alone old in
    let at_mid : List (History RingCall) = map place.seen c.held_among.new.places in
    let me : ℕ = c.args.admitted.now.me in
    let terms : Terms = terms_of c.args.admitted.now in
    let before : List Segment = reverse c.args.segments.now.items in
    let held : List Base = c.in_ok-held.held.items in
    followed_after shapes alone (map place.seen old) at_mid at_mid me terms (present_base before) c.args.rover held None
    before before
    (subst (λ (bases : List Base). AskedEach shapes alone (map place.seen old) at_mid me bases held)
    c.as_slice.ensures.value c.in_ok-held.ensures.each)
    (subst (λ (to : Option ℕ). Followed shapes alone at_mid at_mid me (joins terms.filter to done) None before before)
    (sym (changed_named terms.hysteresis None (present_base before) c.present_of-present.result c.args.rover held
    c.as_slice-3.result.now c.in-None.ensures.choice
    (c.present_of-present.ensures ∙ ap (λ (l : List Segment). present_base (reverse l)) c.as_slice-2.ensures.value)
    c.as_slice-3.ensures.value))
    (followed_none shapes alone at_mid me done None before refl))
