-- All is written, and the session does what is due for a read.
use Rattle.std.proofs.Common.{◌≡◌, ◌∙◌, ◌^◌, ◌≤◌, ◌⊎◌, IsTrue, [], ◌++◌, length, take, arith, refl, sym, inl, inr, length-take, None}
use Rattle.std.specs.Prelude.{is_some}
use Rattle.cast_io.specs.declared.link.Got.TheVariants as got
use Rattle.cast_io.specs.declared.steps.Step.TheVariants as took
use Rattle.session_model.specs.Called.{alone_at, seen_at}
use Rattle.session_model.specs.Courses.{steps_of, text_of}
use Rattle.session_core.proofs.AskingLemmas.{asks_both, asks_held, asks_on, same_on}
use Rattle.session_core.proofs.HoldingLemmas.{holds_both}
use Rattle.caster_link.proofs.CalledLemmas.{others_none}
use Rattle.caster_link.proofs.LinkLemmas.{link_step}
use Rattle.caster_link.proofs.PlaceLemmas.{fit_kept, speak_by}
use Rattle.caster_link.proofs.ReachLemmas.{ended_flow, follows_fed}
use Rattle.caster_link.proofs.ServingLemmas.{sent_on, torn, stops, ends_so, fails_so, going_by, follows_serving}
use Rattle.caster_link.proofs.SteppedLemmas.{served_ended, served_idle, served_turned}
use Rattle.caster_link.proofs.WornLemmas.{stay_both, stay_known, stay_none}
use Rattle.caster_link.proofs.service.Service.step.Goals.{then-ended-via-then-ended, then-ended-via-else-ended+then-self-ge-MAX_LINK_BYTES}
use Rattle.caster_link.proofs.service.Service.step.Goals as goal

-- ---- with no read

pub returns-in_default-clause-closes : goal.returns-in_default-clause-closes
returns-in_default-clause-closes g c = record {
  stopped = c.in_default.ensures.err;
  still = refl;
  came = λ opening me start before so_far.
      torn _ _ _ _ _ _ _ _ _ _ _ (omega (arith, so_far.few)) so_far.serving c.in_default.ensures.err;
}

pub returns-in_default-clause-stay : goal.returns-in_default-clause-stay
returns-in_default-clause-stay g c = stay_none _ _

pub returns-then-ended-clause-closes : goal.returns-then-ended-clause-closes
returns-then-ended-clause-closes g c =
    let enough : IsTrue (is_some c.args.self.now.session.ended) ⊎ (2 ^ 62 ≤ c.args.self.now.given) =
    elim c.then-ended.branch [
      | then-ended-via-then-ended w ↦ inl (sym c.whereabouts-ended.ensures.ended ∙ w.if-ended.true)
      | then-ended-via-else-ended+then-self-ge-MAX_LINK_BYTES w ↦ inr w.if-self-ge-MAX_LINK_BYTES.true
    ] in record {
      stopped = inr (c.in-Ok.ensures.ok, enough);
      still = refl;
      came = λ opening me start before so_far.
          stops _ _ _ _ _ _ _ _ _ (omega (arith, so_far.few))
          (sent_on _ _ _ _ _ _ _ _ _ _ _ so_far.serving c.in-Ok.ensures.ok) enough;
    }

pub returns-then-ended-clause-stay : goal.returns-then-ended-clause-stay
returns-then-ended-clause-stay g c = stay_none _ _

-- ---- bytes

pub feed-requires-clause-goes_on : goal.feed-requires-clause-goes_on
feed-requires-clause-goes_on g c = going_by _ _ c.if-ended.false c.whereabouts-ended.ensures.ended

pub feed-requires-clause-rings : goal.feed-requires-clause-rings
feed-requires-clause-rings g c =
    speak_by g.T.Turns.speaks c.args.places.now.rings.items c.args.self.now.session.me c.requires.fit.rings

pub feed-requires-clause-follows : goal.feed-requires-clause-follows
feed-requires-clause-follows g c =
    let so_far = c.requires.served.4 in
    follows_serving _ _ _ _ _ _ _ _ _ _ _ so_far.serving
    (omega (
      arith,
      length-take c.in-Bytes.count c.read.new.buf,
      c.in-Bytes.ensures.bound.1,
      c.read.auto.buf,
      so_far.size,
      so_far.few,
    ))

pub returns-in-Ended-clause-stay : goal.returns-in-Ended-clause-stay
returns-in-Ended-clause-stay g c =
    stay_known g.T.Turns g.B.Turns c.args.places.now c.feed.new.places c.feed.ensures.stay

pub returns-in-Ended-clause-goes_on : goal.returns-in-Ended-clause-goes_on
returns-in-Ended-clause-goes_on g c =
    let t = g.T.Turns in let b = g.B.Turns in
    let count = c.in-Bytes.count in
    let buf = c.read.new.buf in
    let now = seen_at t.seen b.seen c.args.places.now.rings.items c.args.places.now.book in
    let going : c.args.self.now.session.ended ≡ None = going_by _ _ c.if-ended.false c.whereabouts-ended.ensures.ended in
    let long : length (take count buf) ≡ count =
    omega (arith, length-take count buf, c.in-Bytes.ensures.bound.1, c.read.auto.buf) in
    record {
      was = record { goes_on = going; few = omega (arith, c.if-self-ge-MAX_LINK_BYTES.false) };
      took = took.Bytes (take count buf);
      no_end = refl;
      link = link_step _ _ _ [] _ (got.Bytes count) buf c.in-Ok.ensures.ok c.in-Bytes.ensures.read;
      rests = refl;
      holds = c.feed.ensures.itself.holds;
      asks = λ opening me start before so_far.
          asks_on opening (text_of so_far.serving.whats) _ _ c.feed.ensures.itself so_far.serving.reached.asks;
      asks_still = λ is. asks_held _ _ c.feed.ensures.itself is;
      served = λ opening me start before so_far.
          let s = sent_on _ _ _ _ _ _ _ _ _ _ _ so_far.serving c.in-Ok.ensures.ok in
          record {
            serving = served_ended _ _ _ _ _ now _ _ _ _ _ _ _ count buf _ _ s going c.in-Bytes.ensures.read
                c.in-Ok.ensures.empty long c.feed.ensures.itself.me
                (ended_flow c.feed.new.self.ended c.in-Ended.ensures.flow)
                (c.feed.ensures.fed opening (text_of s.whats) (steps_of s.reached.events) now (s.written ++ [])
                s.reached.stands (others_none now c.args.self.now.session.me))
                (c.feed.ensures.asks opening (text_of s.whats) s.reached.asks);
            few = omega (arith, c.if-self-ge-MAX_LINK_BYTES.false, c.in-Bytes.ensures.bound.1, so_far.size);
            size = c.read.auto.buf ∙ so_far.size;
          };
    }

pub take_turn-requires-clause-ready : goal.take_turn-requires-clause-ready
take_turn-requires-clause-ready g c =
    let t = g.T.Turns in let b = g.B.Turns in
    let items = c.args.places.now.rings.items in
    let book = c.args.places.now.book in
    let new = c.feed.new.places in
    let so_far = c.requires.served.4 in (
      c.args.setup.now.config.now,
      fit_kept _ _ _ _ _ c.feed.ensures.itself.me (stay_known t b c.args.places.now new c.feed.ensures.stay).known
          c.requires.fit,
      follows_fed c.args.setup.now.config.now (alone_at t.alone b.alone items book) (seen_at t.seen b.seen items book)
          (seen_at t.seen b.seen new.rings.items new.book) c.args.self.now.session c.feed.new.self _ _
          (take c.in-Bytes.count c.read.new.buf)
          (follows_serving _ _ _ _ _ _ _ _ _ _ _ so_far.serving
          (omega (
            arith,
            length-take c.in-Bytes.count c.read.new.buf,
            c.in-Bytes.ensures.bound.1,
            c.read.auto.buf,
            so_far.size,
            so_far.few,
          ))) c.feed.ensures.fed,
    )

pub returns-in-Open-clause-stay : goal.returns-in-Open-clause-stay
returns-in-Open-clause-stay g c =
    stay_both _ _ _ _ _ _ (stay_known g.T.Turns g.B.Turns c.args.places.now c.feed.new.places c.feed.ensures.stay)
    c.take_turn.ensures.stay

pub returns-in-Open-clause-goes_on : goal.returns-in-Open-clause-goes_on
returns-in-Open-clause-goes_on g c =
    let t = g.T.Turns in let b = g.B.Turns in
    let count = c.in-Bytes.count in
    let buf = c.read.new.buf in
    let now = seen_at t.seen b.seen c.args.places.now.rings.items c.args.places.now.book in
    let going : c.args.self.now.session.ended ≡ None = going_by _ _ c.if-ended.false c.whereabouts-ended.ensures.ended in
    let config = c.args.setup.now.config.now in
    let new = c.feed.new.places in
    let long : length (take count buf) ≡ count =
    omega (arith, length-take count buf, c.in-Bytes.ensures.bound.1, c.read.auto.buf) in
    record {
      was = record { goes_on = going; few = omega (arith, c.if-self-ge-MAX_LINK_BYTES.false) };
      took = took.Bytes (take count buf);
      no_end = refl;
      link = link_step _ _ _ [] _ (got.Bytes count) buf c.in-Ok.ensures.ok c.in-Bytes.ensures.read;
      rests = refl;
      holds = holds_both _ _ _ c.feed.ensures.itself.holds c.take_turn.ensures.holds;
      asks = λ opening me start before so_far.
          asks_both _ _ _
          (asks_on opening (text_of so_far.serving.whats) _ _ c.feed.ensures.itself so_far.serving.reached.asks)
          (same_on _ _ c.take_turn.ensures.asks_still);
      asks_still = λ is. c.take_turn.ensures.asks_still ∙ asks_held _ _ c.feed.ensures.itself is;
      served = λ opening me start before so_far.
          let s = sent_on _ _ _ _ _ _ _ _ _ _ _ so_far.serving c.in-Ok.ensures.ok in
          let fit = fit_kept config c.args.self.now.session.me me _ _ (sym s.reached.caller)
          (stay_known t b c.args.places.now new c.feed.ensures.stay).known c.requires.fit in
          record {
            serving = served_turned _ _ _ _ _ now _ _ _ _ _ _ _ _ _ count buf _ _ _ s going c.in-Bytes.ensures.read
                c.in-Ok.ensures.empty long c.feed.ensures.itself.me
                (c.feed.ensures.fed opening (text_of s.whats) (steps_of s.reached.events) now (s.written ++ [])
                s.reached.stands (others_none now c.args.self.now.session.me))
                (c.feed.ensures.asks opening (text_of s.whats) s.reached.asks)
                (λ sent whats reached. c.take_turn.ensures.turned config opening me start sent whats fit reached);
            few = omega (arith, c.if-self-ge-MAX_LINK_BYTES.false, c.in-Bytes.ensures.bound.1, so_far.size);
            size = c.read.auto.buf ∙ so_far.size;
          };
    }

-- ---- nothing there

pub take_turn-self-requires-clause-goes_on : goal.take_turn-self-requires-clause-goes_on
take_turn-self-requires-clause-goes_on g c = going_by _ _ c.if-ended.false c.whereabouts-ended.ensures.ended

pub take_turn-self-requires-clause-ready : goal.take_turn-self-requires-clause-ready
take_turn-self-requires-clause-ready g c = (
  c.args.setup.now.config.now,
  c.requires.fit,
  follows_serving _ _ _ _ _ _ _ _ _ _ _ c.requires.served.4.serving (omega (arith, c.requires.served.4.few)),
)

pub returns-in-Idle-clause-goes_on : goal.returns-in-Idle-clause-goes_on
returns-in-Idle-clause-goes_on g c =
    let buf = c.read.new.buf in
    let going : c.args.self.now.session.ended ≡ None = going_by _ _ c.if-ended.false c.whereabouts-ended.ensures.ended in
    record {
      was = record { goes_on = going; few = omega (arith, c.if-self-ge-MAX_LINK_BYTES.false) };
      took = took.Idle;
      no_end = refl;
      link = link_step _ _ _ [] _ got.Idle buf c.in-Ok.ensures.ok c.in-Idle.ensures.read;
      rests = c.take_turn-self.ensures.rests;
      holds = c.take_turn-self.ensures.holds;
      asks = λ opening me start before so_far. same_on _ _ c.take_turn-self.ensures.asks_still;
      asks_still = λ is. c.take_turn-self.ensures.asks_still;
      served = λ opening me start before so_far.
          let s = sent_on _ _ _ _ _ _ _ _ _ _ _ so_far.serving c.in-Ok.ensures.ok in
          let turned = c.take_turn-self.ensures.turned c.args.setup.now.config.now opening me start (s.written ++ [])
          s.whats (fit_kept _ _ _ _ _ (sym s.reached.caller) refl c.requires.fit) s.reached in
          record {
            serving = served_idle _ _ _ _ _ _ _ _ _ _ _ _ buf _ _ s going c.in-Idle.ensures.read
                c.in-Ok.ensures.empty turned;
            few = so_far.few;
            size = c.read.auto.buf ∙ so_far.size;
          };
    }

-- ---- the end of the link, or a read that failed

pub returns-in-End-clause-closes : goal.returns-in-End-clause-closes
returns-in-End-clause-closes g c = record {
  stopped = inl (
    record {
      goes_on = going_by _ _ c.if-ended.false c.whereabouts-ended.ensures.ended;
      few = omega (arith, c.if-self-ge-MAX_LINK_BYTES.false);
    },
    link_step _ _ _ [] _ got.End _ c.in-Ok.ensures.ok c.in-End.ensures.read,
  );
  still = refl;
  came = λ opening me start before so_far.
      ends_so _ _ _ _ _ _ _ _ _ _ _ (omega (arith, so_far.few))
      (sent_on _ _ _ _ _ _ _ _ _ _ _ so_far.serving c.in-Ok.ensures.ok) c.in-End.ensures.read;
}

pub returns-in-Failed-clause-closes : goal.returns-in-Failed-clause-closes
returns-in-Failed-clause-closes g c = record {
  stopped = (
    record {
      goes_on = going_by _ _ c.if-ended.false c.whereabouts-ended.ensures.ended;
      few = omega (arith, c.if-self-ge-MAX_LINK_BYTES.false);
    },
    link_step _ _ _ [] _ got.Failed _ c.in-Ok.ensures.ok c.in-Failed.ensures.read,
  );
  still = refl;
  came = λ opening me start before so_far.
      fails_so _ _ _ _ _ _ _ _ _ _ _ (omega (arith, so_far.few))
      (sent_on _ _ _ _ _ _ _ _ _ _ _ so_far.serving c.in-Ok.ensures.ok) c.in-Failed.ensures.read;
}

pub returns-in-End-clause-stay : goal.returns-in-End-clause-stay
returns-in-End-clause-stay g c = stay_none _ _

pub returns-in-Failed-clause-stay : goal.returns-in-Failed-clause-stay
returns-in-Failed-clause-stay g c = stay_none _ _
