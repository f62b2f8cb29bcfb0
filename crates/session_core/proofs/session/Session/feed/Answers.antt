-- By whether the head is awaited, and what became of it.
use Rattle.std.proofs.Common.{◌≡◌, ◌∙◌, ◌-◌, ◌++◌, List, ℕ, length, take, drop, refl, sym, ap, subst, arith, rules, Option, None, IfNone, IfSome}
use Rattle.std.proofs.lemmas.List.{take_all}
use Rattle.ntrip_head.specs.declared.buffer.HeadEnd.{HeadEnd}
use Rattle.ntrip_head.specs.Ends.{IsEndOf}
use Rattle.ntrip_head.specs.Head.{IsOpen}
use Rattle.session_calls.proofs.PlaceLemmas.{speak_same}
use Rattle.session_model.specs.Judged.{sends_head}
use Rattle.session_core.specs.declared.session.Session.{Session}
use Rattle.session_core.specs.declared.session_stage.SessionStage.TheVariants.{Head}
use Rattle.session_core.specs.Feeding.{FedOn}
use Rattle.session_core.specs.Places.{alone_in, seen_in}
use Rattle.session_core.specs.Standing.{Follows}
use Rattle.session_core.proofs.FeedHeadLemmas.{alone_as, begun_as, begun_behind, begun_follows, ended_front, fed_behind, fed_ended, fed_on, fed_open, is_awaited, none_of, rest_of, some_of}
use Rattle.session_core.proofs.AskingLemmas.{awaited_stays, tells_begun, tells_ended, tells_rest}
use Rattle.session_core.proofs.session.Session.feed.Goals as goal

pub returns-in_default : goal.returns-in_default
returns-in_default g c = record {
  stay = c.feed_behind.ensures.stay;
  itself = c.feed_behind.ensures.itself;
  asks = c.feed_behind.ensures.asks;
  flow = c.flow_after.ensures;
  fed = λ opening text steps histories sent stands others.
      fed_on c.args.config.now (alone_in g.T.Turns g.B.Turns c.args.places.now)
      (seen_in g.T.Turns g.B.Turns c.args.places.now) (seen_in g.T.Turns g.B.Turns c.feed_behind.new.places)
      c.args.self.now c.feed_behind.new.self opening text c.args.bytes.now steps histories sent c.args.out.now.items
      c.requires.goes_on stands
      (λ s. c.feed_behind.ensures.fed c.args.config.now opening text steps histories sent c.requires.shapes s others);
  cause = c.feed_behind.ensures.cause;
}

pub returns-in_default-end-clause-fed : goal.returns-in_default-end-clause-fed
returns-in_default-end-clause-fed g c = λ opening text steps histories sent stands others.
    let was = c.args.self.now in
    let bytes = c.args.bytes.now in
    let taken = c.read-count in
    let goes_on : taken.result.1 ≡ None = search rules in
    let all : taken.result.0 ≡ length bytes =
    subst (λ (e : Option HeadEnd). IfNone e (taken.result.0 ≡ length bytes)) goes_on taken.ensures.all in
    fed_open c.args.config.now (alone_in g.T.Turns g.B.Turns c.args.places.now)
    (seen_in g.T.Turns g.B.Turns c.args.places.now) (record was { stage = Head taken.new.self }) opening text bytes steps
    sent c.in-Head.head taken.new.self c.args.out.now.items
    (is_awaited c.args.config.now was opening text steps histories sent c.in-Head.head c.in-Head.is c.requires.goes_on
    stands) c.requires.goes_on refl
    (taken.ensures.bytes ∙ ap (λ (l : List ℕ). c.in-Head.head ++ l)
    (take_all taken.result.0 bytes (omega (arith, all))))
    (subst (λ (e : Option HeadEnd). IfNone e (IsOpen taken.new.self)) goes_on taken.ensures.goes_on)

pub begin-begun-requires-clause-ended : goal.begin-begun-requires-clause-ended
begin-begun-requires-clause-ended g c = (
  c.read-count.new.self,
  subst (λ (e : Option HeadEnd). IfSome e (IsEndOf c.read-count.new.self)) c.in-Some.is
      c.read-count.ensures.ends,
)

pub returns-then-is_some-clause-fed : goal.returns-then-is_some-clause-fed
returns-then-is_some-clause-fed g c = λ opening text steps histories sent stands others.
    let config = c.args.config.now in
    let was = c.args.self.now in
    let begun = c.begin-begun in
    let session : Session = record c.args.self.now {
      stage = c.replace.new.dest;
      asked = c.replace-2.new.dest;
      ended = begun.result.0.ended;
    } in
    let old = seen_in g.T.Turns g.B.Turns c.args.places.now in
    let now = seen_in g.T.Turns g.B.Turns begun.new.places in
    let alone = alone_in g.T.Turns g.B.Turns c.args.places.now in
    let count = c.read-count.result.0 in
    let front : List ℕ = c.in-Head.head ++ take count c.args.bytes.now in
    let ended = (ended_front c.in-Some.end c.read-count.new.self c.in-Head.head c.args.bytes.now c.read-count.result.0 c.read-count.ensures.bytes
    (subst (λ (e : Option HeadEnd). IfSome e (IsEndOf c.read-count.new.self)) c.in-Some.is c.read-count.ensures.ends)) in
    let end = some_of session.ended (sym c.is_some.ensures ∙ c.if-is_some.true) in
    fed_ended config alone old now was.me session opening text c.args.bytes.now steps sent c.in-Head.head
    c.args.out.now.items begun.new.out.items count end.0
    (is_awaited config was opening text steps histories sent c.in-Head.head c.in-Head.is c.requires.goes_on stands)
    refl end.1
    (begun_as config alone old now was.me front begun.result.0 session.stage
    c.args.out.now.items begun.new.out.items c.replace.ensures.after
    (begun.ensures.begun front ended))

pub feed_behind-requires-2-clause-behind : goal.feed_behind-requires-2-clause-behind
feed_behind-requires-2-clause-behind g c =
    let was = c.args.self.now in
    let begun = c.begin-begun in
    let session : Session = record c.args.self.now {
      stage = c.replace.new.dest;
      asked = c.replace-2.new.dest;
      ended = begun.result.0.ended;
    } in
    let old = seen_in g.T.Turns g.B.Turns c.args.places.now in
    let now = seen_in g.T.Turns g.B.Turns begun.new.places in
    let alone = alone_in g.T.Turns g.B.Turns c.args.places.now in
    let front : List ℕ = c.in-Head.head ++ take c.read-count.result.0 c.args.bytes.now in
    let ended = (ended_front c.in-Some.end c.read-count.new.self c.in-Head.head c.args.bytes.now c.read-count.result.0 c.read-count.ensures.bytes
    (subst (λ (e : Option HeadEnd). IfSome e (IsEndOf c.read-count.new.self)) c.in-Some.is c.read-count.ensures.ends)) in
    begun_behind c.args.config.now alone old now was.me front session.stage session.ended
    c.args.out.now.items begun.new.out.items (none_of session.ended (sym c.is_some.ensures ∙ c.if-is_some.false))
    (begun_as c.args.config.now alone old now was.me front begun.result.0 session.stage
    c.args.out.now.items begun.new.out.items c.replace.ensures.after
    (begun.ensures.begun front ended))

pub feed_behind-requires-2-clause-rings : goal.feed_behind-requires-2-clause-rings
feed_behind-requires-2-clause-rings g c =
    speak_same g.T.Turns.speaks c.args.places.now.rings.items c.begin-begun.new.places.rings.items
    c.args.self.now.me c.begin-begun.ensures.stay.at_rings.same.1 c.requires.rings

pub feed_behind-requires-2-clause-follows : goal.feed_behind-requires-2-clause-follows
feed_behind-requires-2-clause-follows g c =
    let config = c.args.config.now in
    let was = c.args.self.now in
    let begun = c.begin-begun in
    let session : Session = record c.args.self.now {
      stage = c.replace.new.dest;
      asked = c.replace-2.new.dest;
      ended = begun.result.0.ended;
    } in
    let follows = c.requires.follows in
    let bytes = c.args.bytes.now in
    let taken = c.read-count in
    let count = taken.result.0 in
    let old = seen_in g.T.Turns g.B.Turns c.args.places.now in
    let now = seen_in g.T.Turns g.B.Turns begun.new.places in
    let alone = alone_in g.T.Turns g.B.Turns c.args.places.now in
    let front : List ℕ = c.in-Head.head ++ take count bytes in
    let ended = (ended_front c.in-Some.end c.read-count.new.self c.in-Head.head c.args.bytes.now c.read-count.result.0 c.read-count.ensures.bytes
    (subst (λ (e : Option HeadEnd). IfSome e (IsEndOf c.read-count.new.self)) c.in-Some.is c.read-count.ensures.ends)) in (
      config,
      c.requires.kept,
      begun.ensures.stay.at_rings.same.0 ∙ c.requires.shapes,
      subst (λ (l : List ℕ). Follows config session now (length l)) (sym (rest_of bytes count taken.ensures.within))
          (begun_follows config alone old now was.me session follows.0 follows.1 bytes follows.2
          follows.4 c.in-Head.head c.args.out.now.items begun.new.out.items count
          (is_awaited config was follows.0 follows.1 follows.2 follows.3 follows.4 c.in-Head.head
          c.in-Head.is c.requires.goes_on follows.5)
          refl
          (none_of session.ended (sym c.is_some.ensures ∙ c.if-is_some.false)) taken.ensures.within follows.7
          (begun_as config alone old now was.me front begun.result.0 session.stage
          c.args.out.now.items begun.new.out.items c.replace.ensures.after
          (begun.ensures.begun front ended))),
    )

pub returns-clause-fed : goal.returns-clause-fed
returns-clause-fed g c = λ opening text steps histories sent stands others.
    let config = c.args.config.now in
    let was = c.args.self.now in
    let begun = c.begin-begun in
    let session : Session = record c.args.self.now {
      stage = c.replace.new.dest;
      asked = c.replace-2.new.dest;
      ended = begun.result.0.ended;
    } in
    let bytes = c.args.bytes.now in
    let taken = c.read-count in
    let count = taken.result.0 in
    let stay = begun.ensures.stay in
    let old = seen_in g.T.Turns g.B.Turns c.args.places.now in
    let mid = seen_in g.T.Turns g.B.Turns begun.new.places in
    let now = seen_in g.T.Turns g.B.Turns c.feed_behind-2.new.places in
    let alone = alone_in g.T.Turns g.B.Turns c.args.places.now in
    let same : alone_in g.T.Turns g.B.Turns begun.new.places ≡ alone = alone_as g.T.Turns.alone g.B.Turns.alone
    c.args.places.now.rings.items begun.new.places.rings.items c.args.places.now.book begun.new.places.book
    stay.at_rings.same.3 stay.at_book.same.3 in
    let front : List ℕ = c.in-Head.head ++ take count bytes in
    let ended = (ended_front c.in-Some.end c.read-count.new.self c.in-Head.head c.args.bytes.now c.read-count.result.0 c.read-count.ensures.bytes
    (subst (λ (e : Option HeadEnd). IfSome e (IsEndOf c.read-count.new.self)) c.in-Some.is c.read-count.ensures.ends)) in
    fed_behind config alone old mid now was.me session c.feed_behind-2.new.self opening text
    bytes steps sent c.in-Head.head c.args.out.now.items begun.new.out.items count
    (is_awaited config was opening text steps histories sent c.in-Head.head c.in-Head.is c.requires.goes_on stands)
    refl
    (none_of session.ended (sym c.is_some.ensures ∙ c.if-is_some.false))
    c.feed_behind-2.ensures.itself.me
    (begun_as config alone old mid was.me front begun.result.0 session.stage
    c.args.out.now.items begun.new.out.items c.replace.ensures.after
    (begun.ensures.begun front ended))
    (λ o before ss h so_far s between.
    subst (λ l. FedOn config alone mid now c.feed_behind-2.new.self o (before ++ l) ss so_far)
    (rest_of bytes count taken.ensures.within)
    (subst (λ a. FedOn config a mid now c.feed_behind-2.new.self o
    (before ++ take (length bytes - count) (drop count bytes)) ss so_far) same
    (c.feed_behind-2.ensures.fed config o before ss h so_far (stay.at_rings.same.0 ∙ c.requires.shapes) s between)))

-- ---- what stays

pub returns-in_default-end-clause-itself : goal.returns-in_default-end-clause-itself
returns-in_default-end-clause-itself g c = awaited_stays c.args.self.now _ c.in-Head.head c.in-Head.is refl

pub returns-then-is_some-clause-itself : goal.returns-then-is_some-clause-itself
returns-then-is_some-clause-itself g c = awaited_stays c.args.self.now _ c.in-Head.head c.in-Head.is refl

pub returns-clause-itself : goal.returns-clause-itself
returns-clause-itself g c =
    awaited_stays c.args.self.now _ c.in-Head.head c.in-Head.is c.feed_behind-2.ensures.itself.me

-- ---- what it asked

pub returns-then-is_some-clause-asks : goal.returns-then-is_some-clause-asks
returns-then-is_some-clause-asks g c = λ opening text tells.
    let config = c.args.config.now in
    let was = c.args.self.now in
    let begun = c.begin-begun in
    let old = seen_in g.T.Turns g.B.Turns c.args.places.now in
    let now = seen_in g.T.Turns g.B.Turns begun.new.places in
    let alone = alone_in g.T.Turns g.B.Turns c.args.places.now in
    let count = c.read-count.result.0 in
    let front : List ℕ = c.in-Head.head ++ take count c.args.bytes.now in
    let ended = (ended_front c.in-Some.end c.read-count.new.self c.in-Head.head c.args.bytes.now c.read-count.result.0 c.read-count.ensures.bytes
    (subst (λ (e : Option HeadEnd). IfSome e (IsEndOf c.read-count.new.self)) c.in-Some.is c.read-count.ensures.ends)) in
    tells_ended config alone old now was.me c.replace.new.dest begun.result.0.ended
    c.args.out.now.items begun.new.out.items c.replace-2.new.dest begun.result.1 was opening text c.args.bytes.now
    c.in-Head.head count c.replace-2.ensures.after
    (begun_as config alone old now was.me front begun.result.0 c.replace.new.dest
    c.args.out.now.items begun.new.out.items c.replace.ensures.after
    (begun.ensures.begun front ended))
    (begun.ensures.asks front ended) c.in-Head.is tells

pub returns-clause-asks : goal.returns-clause-asks
returns-clause-asks g c = λ opening text tells.
    let config = c.args.config.now in
    let was = c.args.self.now in
    let begun = c.begin-begun in
    let bytes = c.args.bytes.now in
    let old = seen_in g.T.Turns g.B.Turns c.args.places.now in
    let now = seen_in g.T.Turns g.B.Turns begun.new.places in
    let alone = alone_in g.T.Turns g.B.Turns c.args.places.now in
    let count = c.read-count.result.0 in
    let front : List ℕ = c.in-Head.head ++ take count bytes in
    let ended = (ended_front c.in-Some.end c.read-count.new.self c.in-Head.head c.args.bytes.now c.read-count.result.0 c.read-count.ensures.bytes
    (subst (λ (e : Option HeadEnd). IfSome e (IsEndOf c.read-count.new.self)) c.in-Some.is c.read-count.ensures.ends)) in
    tells_rest was c.feed_behind-2.new.self opening text bytes c.in-Head.head count c.read-count.ensures.within
    c.in-Head.is tells
    (c.feed_behind-2.ensures.asks sends_head front
    (tells_begun config alone old now was.me front c.replace.new.dest begun.result.0.ended
    c.args.out.now.items begun.new.out.items c.replace-2.new.dest begun.result.1
    c.replace-2.ensures.after
    (begun_as config alone old now was.me front begun.result.0 c.replace.new.dest
    c.args.out.now.items begun.new.out.items c.replace.ensures.after
    (begun.ensures.begun front ended))
    (begun.ensures.asks front ended)))
