-- By stage. The bytes of a source or a relay come to calls at the ring of its mountpoint.
use Rattle.std.proofs.Common.{◌≡◌, ◌∙◌, ◌++◌, ℕ, IsTrue, List, length, map, set, refl, sym, ap, subst, arith, Option}
use Rattle.std.specs.Prelude.{IfErr, IfNone}
use Rattle.std.specs.Result.{result_err}
use Rattle.std.proofs.lemmas.Bool.{and_parts}
use Rattle.turn_log.specs.History.{History}
use Rattle.mount_ring.specs.declared.call.RingCall.{RingCall}
use Rattle.mount_ring.specs.declared.shape.RingShape.{RingShape}
use Rattle.session_calls.specs.Rings.{all_alone}
use Rattle.session_calls.proofs.PlaceLemmas.{length_same}
use Rattle.source_session.specs.declared.fault.SourceHalt.{SourceHalt}
use Rattle.source_session.specs.Body.{completed}
use Rattle.source_session.specs.Calls.{HeldSince, IsHolding}
use Rattle.source_session.specs.Standing.{is_chunked, is_cut_short}
use Rattle.source_session.specs.Taken.{HasTaken}
use Rattle.upstream_relay.specs.declared.fault.RelayHalt.{RelayHalt}
use Rattle.upstream_relay.specs.Called.{IsHeldAt, IsHoldingBy}
use Rattle.upstream_relay.specs.Halts as relay_halts
use Rattle.upstream_relay.specs.Standing.{claim_at, halt_at}
use Rattle.rover_cursor.specs.declared.fault.SegFault.{SegFault}
use Rattle.rover_session.specs.Made.{IsRefusedBy}
use Rattle.rover_session.specs.Standing.{AreWithin, KnowsFilter, WasResumable}
use Rattle.rover_session.proofs.AtLemmas.{history_new}
use Rattle.session_model.specs.Run.{Histories}
use Rattle.session_model.specs.Setting.{shapes}
use Rattle.session_model.specs.Called.{OthersCalled}
use Rattle.session_core.specs.declared.session.Session.{Session}
use Rattle.session_core.specs.declared.session_stage.SessionStage.TheVariants as stages
use Rattle.session_core.specs.Beginnings.{ended_joining, histories_of}
use Rattle.session_core.specs.Feeding.{FedOn, end_of_relay, end_of_source}
use Rattle.session_core.specs.Places.{alone_in, seen_in}
use Rattle.session_core.proofs.AskingLemmas.{asks_same, tells_on}
use Rattle.session_core.proofs.EnteredLemmas.{back_whole, cause_joined, entered_back, worn_back}
use Rattle.session_core.proofs.FeedBodyLemmas.{as_many_places, ended_as, published_as, relay_fed_as, resumes_as, sent_as, told_by, within_places}
use Rattle.session_core.proofs.FeedRelayLemmas.{relay_fed_on}
use Rattle.session_core.proofs.FeedRoverLemmas.{rover_fed_on}
use Rattle.session_core.proofs.FeedSourceLemmas.{source_fed_on}
use Rattle.session_core.proofs.FollowLemmas.{relay_ready, rover_ready, source_ready}
use Rattle.session_core.proofs.HoldingLemmas.{relay_on, rover_on, source_on}
use Rattle.session_core.proofs.PickLemmas.{added_picked, history_picked, published_picked, relay_cause_picked, source_cause_picked, speaks_picked, stay_picked, stays_still}
use Rattle.session_core.proofs.session.Session.feed_behind.Goals as goal

-- ---- a source

pub index_mut-requires : goal.index_mut-requires
index_mut-requires g c =
    let follows = c.requires.follows in
    let within = within_places g.T.Turns.shape c.args.places.now.rings.items follows.0 c.in-Source.mount follows.2
    (source_ready follows.0 c.args.self.now (seen_in g.T.Turns g.B.Turns c.args.places.now) (length c.args.bytes.now)
    c.in-Source.mount c.in-Source.session c.in-Source.is c.requires.goes_on follows.3).within in
    omega (arith, within, c.args.places.now.rings.ok)

pub feed-fed-requires-clause-speaks : goal.feed-fed-requires-clause-speaks
feed-fed-requires-clause-speaks g c =
    let follows = c.requires.follows in
    let rings = c.args.places.now.rings.items in
    let ready = source_ready follows.0 c.args.self.now (seen_in g.T.Turns g.B.Turns c.args.places.now)
    (length c.args.bytes.now) c.in-Source.mount c.in-Source.session c.in-Source.is c.requires.goes_on follows.3 in
    speaks_picked g.T.Turns rings c.in-Source.mount c.index_mut.result.now c.args.self.now.me c.in-Source.session.me
    (within_places g.T.Turns.shape rings follows.0 c.in-Source.mount follows.2 ready.within)
    c.index_mut.ensures.value ready.caller c.requires.rings

pub feed-fed-requires-clause-held : goal.feed-fed-requires-clause-held
feed-fed-requires-clause-held g c =
    let follows = c.requires.follows in
    let rings = c.args.places.now.rings.items in
    let inner = c.in-Source.session in
    let ready = source_ready follows.0 c.args.self.now (seen_in g.T.Turns g.B.Turns c.args.places.now)
    (length c.args.bytes.now) c.in-Source.mount inner c.in-Source.is c.requires.goes_on follows.3 in
    subst (λ (halt : Option SourceHalt). IfNone halt (HeldSince inner.me inner.claim (g.T.Turns.seen
    c.index_mut.result.now))) (sym ready.goes)
    (subst (HeldSince inner.me inner.claim)
    (history_picked g.T.Turns rings c.in-Source.mount c.index_mut.result.now
    (within_places g.T.Turns.shape rings follows.0 c.in-Source.mount follows.2 ready.within) c.index_mut.ensures.value)
    ready.held)

pub feed-fed-requires-clause-few : goal.feed-fed-requires-clause-few
feed-fed-requires-clause-few g c =
    let follows = c.requires.follows in
    (source_ready follows.0 c.args.self.now (seen_in g.T.Turns g.B.Turns c.args.places.now) (length c.args.bytes.now)
    c.in-Source.mount c.in-Source.session c.in-Source.is c.requires.goes_on follows.3).few

pub returns-in-Source-clause-stay : goal.returns-in-Source-clause-stay
returns-in-Source-clause-stay g c = record {
  at_rings = stay_picked g.T.Turns c.args.places.now.rings.items c.in-Source.mount c.index_mut.result.now
      c.feed-fed.new.place c.index_mut.ensures.value c.feed-fed.ensures.stays;
  at_book = stays_still g.B.Turns c.args.places.now.book;
}

pub returns-in-Source-clause-asks : goal.returns-in-Source-clause-asks
returns-in-Source-clause-asks g c = λ opening text tells.
    tells_on c.args.self.now opening text c.args.bytes.now _ c.requires.goes_on c.requires.behind tells

pub returns-in-Source-clause-itself : goal.returns-in-Source-clause-itself
returns-in-Source-clause-itself g c = record {
  me = refl;
  holds = source_on c.args.self.now c.in-Source.mount c.in-Source.session c.feed-fed.new.self c.in-Source.is
      c.feed-fed.ensures.source.1;
  asks = asks_same c.args.self.now.stage _ _ refl;
}

pub returns-in-Source-clause-fed : goal.returns-in-Source-clause-fed
returns-in-Source-clause-fed g c = λ config opening text steps histories sent same stands others.
    let follows = c.requires.follows in
    let places = c.args.places.now in
    let rings = places.rings.items in
    let inner = c.in-Source.session in
    let mount = c.in-Source.mount in
    let fed = c.feed-fed.ensures in
    let after = c.feed-fed.new.self in
    let alone = alone_in g.T.Turns g.B.Turns places in
    let old : Histories = seen_in g.T.Turns g.B.Turns places in
    let seen = map g.T.Turns.seen (set rings mount c.feed-fed.new.place) in
    let ready = source_ready follows.0 c.args.self.now old (length c.args.bytes.now) mount inner c.in-Source.is
    c.requires.goes_on follows.3 in
    let within = within_places g.T.Turns.shape rings follows.0 mount follows.2 ready.within in
    source_fed_on config alone old (histories_of seen (g.B.Turns.seen places.book)) histories c.args.self.now _ opening
    text c.args.bytes.now steps sent mount inner after (
      c.in-Source.is,
      c.requires.goes_on,
      refl,
      refl,
      ended_as end_of_source c.feed-fed.result after.halt c.claim_number.result after.claim c.ended_source-self.result
          c.ended_source-self.ensures c.claim_number.ensures fed.halt,
      fed.source.0,
      fed.source.1,
      fed.source.2,
    )
    stands fed.stands
    (λ body is. published_as config (map g.T.Turns.shape rings) alone (all_alone g.T.Turns.alone rings)
    (map g.T.Turns.seen rings) seen inner.me mount inner.claim (is_cut_short after.halt)
    (completed (is_chunked inner) body c.args.bytes.now) same
    (λ both. (and_parts (all_alone g.T.Turns.alone rings) (g.B.Turns.alone places.book) both).0)
    (published_picked g.T.Turns rings mount c.index_mut.result.now c.feed-fed.new.place inner.me inner.claim
    (completed (is_chunked inner) body c.args.bytes.now) (result_err c.feed-fed.result) after.halt within
    c.index_mut.ensures.value (fed.heard body is) fed.halt))
    (subst (IsHolding inner.me inner.claim) (sym (history_new g.T.Turns.seen rings mount c.feed-fed.new.place within))
    (subst (λ (halt : Option SourceHalt). IfNone halt (HasTaken g.T.Turns c.index_mut.result.now c.feed-fed.new.place
    inner after c.args.bytes.now c.feed-fed.result)) ready.goes fed.taken).holds)
    refl

pub returns-in-Source-clause-cause : goal.returns-in-Source-clause-cause
returns-in-Source-clause-cause g c =
    let follows = c.requires.follows in
    let rings = c.args.places.now.rings.items in
    let ready = source_ready follows.0 c.args.self.now (seen_in g.T.Turns g.B.Turns c.args.places.now)
    (length c.args.bytes.now) c.in-Source.mount c.in-Source.session c.in-Source.is c.requires.goes_on follows.3 in
    source_cause_picked g.T.Turns rings c.in-Source.mount c.feed-fed.new.place (g.T.Turns.may_lack
    c.index_mut.result.now) (g.B.Turns.worn c.args.places.now.book) c.claim_number.result c.feed-fed.result
    c.ended_source-self.result
    (within_places g.T.Turns.shape rings follows.0 c.in-Source.mount follows.2 ready.within)
    c.ended_source-self.ensures
    (subst (λ (halt : Option SourceHalt). IfNone halt (HasTaken g.T.Turns c.index_mut.result.now c.feed-fed.new.place
    c.in-Source.session c.feed-fed.new.self c.args.bytes.now c.feed-fed.result)) ready.goes
    c.feed-fed.ensures.taken).cause

-- ---- a relay

pub index_mut-requires-in-Relay : goal.index_mut-requires-in-Relay
index_mut-requires-in-Relay g c =
    let follows = c.requires.follows in
    let within = within_places g.T.Turns.shape c.args.places.now.rings.items follows.0 c.in-Relay.mount follows.2
    (relay_ready follows.0 c.args.self.now (seen_in g.T.Turns g.B.Turns c.args.places.now) (length c.args.bytes.now)
    c.in-Relay.mount c.in-Relay.session c.in-Relay.is c.requires.goes_on follows.3).within in
    omega (arith, within, c.args.places.now.rings.ok)

pub feed-fed-requires-in-Relay-clause-speaks : goal.feed-fed-requires-in-Relay-clause-speaks
feed-fed-requires-in-Relay-clause-speaks g c =
    let follows = c.requires.follows in
    let rings = c.args.places.now.rings.items in
    let ready = relay_ready follows.0 c.args.self.now (seen_in g.T.Turns g.B.Turns c.args.places.now)
    (length c.args.bytes.now) c.in-Relay.mount c.in-Relay.session c.in-Relay.is c.requires.goes_on follows.3 in
    speaks_picked g.T.Turns rings c.in-Relay.mount c.index_mut-in-Relay.result.now c.args.self.now.me
    c.in-Relay.session.me (within_places g.T.Turns.shape rings follows.0 c.in-Relay.mount follows.2 ready.within)
    c.index_mut-in-Relay.ensures.value ready.caller c.requires.rings

pub feed-fed-requires-in-Relay-clause-held : goal.feed-fed-requires-in-Relay-clause-held
feed-fed-requires-in-Relay-clause-held g c =
    let follows = c.requires.follows in
    let rings = c.args.places.now.rings.items in
    let inner = c.in-Relay.session in
    let ready = relay_ready follows.0 c.args.self.now (seen_in g.T.Turns g.B.Turns c.args.places.now)
    (length c.args.bytes.now) c.in-Relay.mount inner c.in-Relay.is c.requires.goes_on follows.3 in
    subst (IsHeldAt inner.me inner.stage)
    (history_picked g.T.Turns rings c.in-Relay.mount c.index_mut-in-Relay.result.now
    (within_places g.T.Turns.shape rings follows.0 c.in-Relay.mount follows.2 ready.within)
    c.index_mut-in-Relay.ensures.value) ready.held

pub returns-in-Relay-clause-stay : goal.returns-in-Relay-clause-stay
returns-in-Relay-clause-stay g c = record {
  at_rings = stay_picked g.T.Turns c.args.places.now.rings.items c.in-Relay.mount c.index_mut-in-Relay.result.now
      c.feed-fed-in-Relay.new.place c.index_mut-in-Relay.ensures.value c.feed-fed-in-Relay.ensures.stays;
  at_book = stays_still g.B.Turns c.args.places.now.book;
}

pub returns-in-Relay-clause-asks : goal.returns-in-Relay-clause-asks
returns-in-Relay-clause-asks g c = λ opening text tells.
    tells_on c.args.self.now opening text c.args.bytes.now _ c.requires.goes_on c.requires.behind tells

pub returns-in-Relay-clause-itself : goal.returns-in-Relay-clause-itself
returns-in-Relay-clause-itself g c =
    let follows = c.requires.follows in
    let inner = c.in-Relay.session in
    let few = (relay_ready follows.0 c.args.self.now (seen_in g.T.Turns g.B.Turns c.args.places.now)
    (length c.args.bytes.now) c.in-Relay.mount inner c.in-Relay.is c.requires.goes_on follows.3).few in
    let more = c.feed-fed-in-Relay.ensures.adds c.in-Relay.mount few.0 few.1 few.2 in record {
      me = refl;
      holds = relay_on c.args.self.now c.in-Relay.mount inner.me c.feed-fed-in-Relay.new.self.me inner
          c.feed-fed-in-Relay.new.self few.0 (few.0 ++ c.args.bytes.now) few.1 more.0 c.in-Relay.is few.2
          more.2;
      asks = asks_same c.args.self.now.stage _ _ refl;
    }

pub returns-in-Relay-clause-fed : goal.returns-in-Relay-clause-fed
returns-in-Relay-clause-fed g c = λ config opening text steps histories sent same stands others.
    let follows = c.requires.follows in
    let places = c.args.places.now in
    let rings = places.rings.items in
    let inner = c.in-Relay.session in
    let mount = c.in-Relay.mount in
    let fed = c.feed-fed-in-Relay.ensures in
    let after = c.feed-fed-in-Relay.new.self in
    let new = c.feed-fed-in-Relay.new.place in
    let alone = alone_in g.T.Turns g.B.Turns places in
    let old : Histories = seen_in g.T.Turns g.B.Turns places in
    let seen = map g.T.Turns.seen (set rings mount new) in
    let ready = relay_ready follows.0 c.args.self.now old (length c.args.bytes.now) mount inner c.in-Relay.is
    c.requires.goes_on follows.3 in
    let within = within_places g.T.Turns.shape rings follows.0 mount follows.2 ready.within in
    relay_fed_on config alone old (histories_of seen (g.B.Turns.seen places.book)) histories c.args.self.now _ opening
    text c.args.bytes.now steps sent mount inner after c.in-Relay.is c.requires.goes_on refl refl
    (ended_as end_of_relay c.feed-fed-in-Relay.result (halt_at after.stage) c.claim_number-in-Relay.result
    (claim_at after.stage) c.ended_relay-self.result c.ended_relay-self.ensures c.claim_number-in-Relay.ensures fed.fed)
    stands fed.relay.0
    (λ before ss is. relay_fed_as config (map g.T.Turns.shape rings) alone (all_alone g.T.Turns.alone rings)
    (map g.T.Turns.seen rings) seen inner.me mount after _ ss same
    (λ both. (and_parts (all_alone g.T.Turns.alone rings) (g.B.Turns.alone places.book) both).0)
    (added_picked g.T.Turns rings mount c.index_mut-in-Relay.result.now new inner.me after (before ++ c.args.bytes.now)
    ss within c.index_mut-in-Relay.ensures.value (fed.adds mount before ss is)))
    (subst (IsHoldingBy inner.me (claim_at after.stage)) (sym (history_new g.T.Turns.seen rings mount new within))
    (subst (λ (halt : Option RelayHalt). IfNone halt (IsHoldingBy inner.me (claim_at after.stage)
    (g.T.Turns.seen new))) ready.goes fed.holds))
    refl

pub returns-in-Relay-clause-cause : goal.returns-in-Relay-clause-cause
returns-in-Relay-clause-cause g c =
    let follows = c.requires.follows in
    let rings = c.args.places.now.rings.items in
    let fed = c.feed-fed-in-Relay in
    let ready = relay_ready follows.0 c.args.self.now (seen_in g.T.Turns g.B.Turns c.args.places.now)
    (length c.args.bytes.now) c.in-Relay.mount c.in-Relay.session c.in-Relay.is c.requires.goes_on follows.3 in
    relay_cause_picked g.T.Turns rings c.in-Relay.mount fed.new.place
    (g.T.Turns.may_lack c.index_mut-in-Relay.result.now) (g.B.Turns.worn c.args.places.now.book)
    c.claim_number-in-Relay.result fed.result c.ended_relay-self.result
    (within_places g.T.Turns.shape rings follows.0 c.in-Relay.mount follows.2 ready.within) c.ended_relay-self.ensures
    (subst (λ (halt : Option RelayHalt). IfNone halt (IfErr fed.result (relay_halts.IsHaltOf
    (g.T.Turns.may_lack c.index_mut-in-Relay.result.now) (g.T.Turns.worn fed.new.place)))) ready.goes fed.ensures.cause)

-- ---- a rover, at all rings

pub feed-requires-clause-within : goal.feed-requires-clause-within
feed-requires-clause-within g c =
    let follows = c.requires.follows in
    subst (λ (n : ℕ). AreWithin n c.in-Rover.session.terms.bases)
    (as_many_places g.T.Turns.shape c.args.places.now.rings.items follows.0 follows.2
    ∙ sym (ap length c.as_mut_slice.ensures.value))
    (rover_ready follows.0 c.args.self.now (seen_in g.T.Turns g.B.Turns c.args.places.now) (length c.args.bytes.now)
    c.in-Rover.account c.in-Rover.session follows.1 c.in-Rover.is c.requires.goes_on follows.3).within

pub feed-requires-clause-filter : goal.feed-requires-clause-filter
feed-requires-clause-filter g c =
    let follows = c.requires.follows in
    subst (λ (s : List RingShape). KnowsFilter s c.in-Rover.session.terms.filter)
    (sym (ap (map g.T.Turns.shape) c.as_mut_slice.ensures.value ∙ follows.2))
    (rover_ready follows.0 c.args.self.now (seen_in g.T.Turns g.B.Turns c.args.places.now) (length c.args.bytes.now)
    c.in-Rover.account c.in-Rover.session follows.1 c.in-Rover.is c.requires.goes_on follows.3).filter

pub feed-requires-clause-resumes : goal.feed-requires-clause-resumes
feed-requires-clause-resumes g c =
    let follows = c.requires.follows in
    let there = c.as_mut_slice.ensures.value in
    subst (λ (s : List RingShape). WasResumable s c.in-Rover.session.me
    (map g.T.Turns.seen c.as_mut_slice.result.now) c.in-Rover.session.segments)
    (sym (ap (map g.T.Turns.shape) there ∙ follows.2))
    (subst (λ (h : List (History RingCall)). WasResumable (shapes follows.0) c.in-Rover.session.me h
    c.in-Rover.session.segments) (sym (ap (map g.T.Turns.seen) there))
    (rover_ready follows.0 c.args.self.now (seen_in g.T.Turns g.B.Turns c.args.places.now) (length c.args.bytes.now)
    c.in-Rover.account c.in-Rover.session follows.1 c.in-Rover.is c.requires.goes_on follows.3).resumes)

pub returns-in-Rover-clause-asks : goal.returns-in-Rover-clause-asks
returns-in-Rover-clause-asks g c = λ opening text tells.
    tells_on c.args.self.now opening text c.args.bytes.now _ c.requires.goes_on c.requires.behind tells

pub returns-in-Rover-clause-itself : goal.returns-in-Rover-clause-itself
returns-in-Rover-clause-itself g c = record {
  me = refl;
  holds = rover_on c.args.self.now.stage c.in-Rover.account c.in-Rover.session c.feed.new.self c.in-Rover.is;
  asks = asks_same c.args.self.now.stage _ _ refl;
}

pub returns-in-Rover-clause-fed : goal.returns-in-Rover-clause-fed
returns-in-Rover-clause-fed g c = λ config opening text steps histories sent same stands others.
    let places = c.args.places.now in
    let items = places.rings.items in
    let there : c.as_mut_slice.result.now ≡ items = c.as_mut_slice.ensures.value in
    let slice = c.as_mut_slice.result.now in
    let fed = c.feed.ensures in
    let new = c.feed.new.places in
    let book = g.B.Turns.seen places.book in
    let alone = alone_in g.T.Turns g.B.Turns places in
    let long : length new ≡ length items = length_same g.T.Turns.shape slice new fed.stay.same.0 ∙ ap length there in
    let shaped : map g.T.Turns.shape slice ≡ shapes config = ap (map g.T.Turns.shape) there ∙ same in
    let from = λ (both : IsTrue alone). ap (all_alone g.T.Turns.alone) there
    ∙ (and_parts (all_alone g.T.Turns.alone items) (g.B.Turns.alone places.book) both).0 in
    let session : Session = record {
      alloc = c.args.self.now.alloc;
      me = c.args.self.now.me;
      stage = stages.Rover c.in-Rover.account c.feed.new.self;
      ended = c.halt_of-self.result;
      asked = c.args.self.now.asked;
    } in
    entered_back g.T.Turns.seen g.B.Turns.seen new items places.rings.len places.book
    (λ (h : Histories). FedOn config alone (seen_in g.T.Turns g.B.Turns places) h session opening
    (text ++ c.args.bytes.now) steps sent)
    (back_whole new items places.rings.len long (omega (arith, places.rings.ok)))
    (subst (λ (h : List (History RingCall)). FedOn config alone (histories_of h book)
    (histories_of (map g.T.Turns.seen new) book) session opening (text ++ c.args.bytes.now) steps sent)
    (ap (map g.T.Turns.seen) there)
    (rover_fed_on config alone (histories_of (map g.T.Turns.seen slice) book)
    (histories_of (map g.T.Turns.seen new) book) histories c.args.self.now session opening text
    c.args.bytes.now steps sent c.in-Rover.account c.in-Rover.session c.feed.new.self c.in-Rover.is
    c.requires.goes_on refl refl (c.halt_of-self.ensures ∙ ap ended_joining (sym fed.halt)) stands
    (subst (λ (h : List (History RingCall)). OthersCalled histories (histories_of h book) c.args.self.now.me)
    (ap (map g.T.Turns.seen) (sym there)) others) fed.admission
    (λ first before ss is. told_by config (map g.T.Turns.shape slice) alone (all_alone g.T.Turns.alone slice)
    (map g.T.Turns.seen slice) (map g.T.Turns.seen new) c.feed.new.self first _ ss shaped from
    (fed.told first before ss is))
    (resumes_as config (map g.T.Turns.shape slice) c.in-Rover.session.me
    (map g.T.Turns.seen new) c.feed.new.self.segments shaped fed.sent.resumable)
    (sent_as config (map g.T.Turns.shape slice) (map g.T.Turns.seen slice)
    (map g.T.Turns.seen new) c.in-Rover.session.segments
    c.feed.new.self.segments shaped fed.sent.sent)
    refl))

pub returns-in-Rover-clause-cause : goal.returns-in-Rover-clause-cause
returns-in-Rover-clause-cause g c =
    let follows = c.requires.follows in
    let items = c.args.places.now.rings.items in
    let new = c.feed.new.places in
    let ready = rover_ready follows.0 c.args.self.now (seen_in g.T.Turns g.B.Turns c.args.places.now)
    (length c.args.bytes.now) c.in-Rover.account c.in-Rover.session follows.1 c.in-Rover.is c.requires.goes_on
    follows.3 in
    let long : length new ≡ length items =
    length_same g.T.Turns.shape c.as_mut_slice.result.now new c.feed.ensures.stay.same.0
    ∙ ap length c.as_mut_slice.ensures.value in
    worn_back g.T.Turns.worn g.B.Turns.worn new items c.args.places.now.rings.len c.args.places.now.book
    c.halt_of-self.result
    (back_whole new items c.args.places.now.rings.len long (omega (arith, c.args.places.now.rings.ok)))
    (cause_joined (map g.T.Turns.worn new) (g.B.Turns.worn c.args.places.now.book) c.feed.result c.halt_of-self.result
    c.halt_of-self.ensures (subst (λ (halt : Option SegFault). IfNone halt (IfErr c.feed.result (IsRefusedBy
    (map g.T.Turns.worn new)))) ready.goes c.feed.ensures.cause))
