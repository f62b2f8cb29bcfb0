use Rattle.std.proofs.Common.{ℕ, Bool, List, Option, None, subst}
use Rattle.std.specs.Prelude.{IfNone}
use Rattle.source_session.specs.declared.fault.SourceHalt.{SourceHalt}
use Rattle.source_session.specs.Body.{completed}
use Rattle.source_session.specs.Calls.{HeldSince}
use Rattle.source_session.specs.Places.{PublishedBy, LeftOutIn}
use Rattle.source_session.specs.Standing.{StandsBy, StandsFor, is_chunked}
use Rattle.source_session.proofs.CallLemmas.{held_now}
use Rattle.source_session.proofs.StandingLemmas.{stands_on, halted_calls}
use Rattle.source_session.proofs.TakenLemmas.{if_none}
use Rattle.source_session.proofs.session.SourceSession.feed.Goals as goal

pub returns-in-Some-clause-stands : goal.returns-in-Some-clause-stands
returns-in-Some-clause-stands g c = λ body stands.
    stands_on c.args.self.now.halt c.in-Some.halt _ _ body c.args.bytes.now c.in-Some.is stands

pub returns-in-Some-clause-heard : goal.returns-in-Some-clause-heard
returns-in-Some-clause-heard g c = λ body stands.
    subst (λ (o : Option SourceHalt). PublishedBy g.T.Turns c.args.place.now c.args.place.now c.args.self.now.me
    c.args.self.now.claim o (completed (is_chunked c.args.self.now) body c.args.bytes.now)) c.in-Some.is
    (halted_calls _ _ c.args.self.now.me c.args.self.now.claim c.args.self.now.halt c.in-Some.halt c.args.self.now.chunks
    c.args.self.now.cutter.value _ body c.args.bytes.now c.in-Some.is stands)

pub take-fed-requires-clause-holds : goal.take-fed-requires-clause-holds
take-fed-requires-clause-holds g c =
    held_now (g.T.Turns.shape c.args.place.now) _ _ (g.T.Turns.seen c.args.place.now)
    (subst (λ (o : Option SourceHalt). IfNone o (HeldSince c.args.self.now.me c.args.self.now.claim
    (g.T.Turns.seen c.args.place.now))) c.in-None.is c.requires.held)
    (g.met.T.Turns.legal c.args.place.now)

pub returns-in-None-clause-taken : goal.returns-in-None-clause-taken
returns-in-None-clause-taken g c =
    let fed = c.take-fed.ensures in
    if_none c.args.self.now.halt (record {
      holds = fed.holds;
      short = λ refused body stands.
          subst (λ (coded : Bool). LeftOutIn g.T.Turns c.args.place.now c.take-fed.new.place c.args.self.now.me
          c.args.self.now.claim coded body c.args.bytes.now c.take-fed.new.self.cutter.value.junk) fed.source.2
          ((fed.took body (open_ body stands)).short refused);
      cause = fed.cause;
    })
  where
    open_ : (body : List ℕ) → StandsFor c.args.self.now body
        → StandsBy None c.args.self.now.chunks c.args.self.now.cutter.value body
    open_ body stands =
        subst (λ (o : Option SourceHalt). StandsBy o c.args.self.now.chunks c.args.self.now.cutter.value body)
        c.in-None.is stands
