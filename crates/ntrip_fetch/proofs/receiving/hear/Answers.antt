-- What the link gave, if it gave anything.
use Rattle.std.proofs.Common.{◌≡◌, ◌+◌, take, length, sym, arith, length-take}
use Rattle.cast_io.specs.Links.{bytes_in}
use Rattle.ntrip_fetch.proofs.WritingLemmas.{on_err}
use Rattle.ntrip_fetch.proofs.ReceivingLemmas.{has_ended, has_failed, heard_bytes, heard_nothing, is_broken, same_told}
use Rattle.ntrip_fetch.proofs.receiving.hear.Goals as goal

pub take-requires-clause-few : goal.take-requires-clause-few
take-requires-clause-few g c =
    let x = c.requires.received.2 in
    let n = c.in-Bytes.count in
    let buf = c.read.new.buf in (
      c.requires.received.1,
      bytes_in x.taken,
      x.stands,
      omega (
        arith,
        length-take n buf,
        c.in-Bytes.ensures.bound.1,
        c.read.auto.buf,
        c.requires.size,
        c.requires.few,
        x.size,
      ),
    )

pub returns-in_ok-left-in-Bytes-clause-heard : goal.returns-in_ok-left-in-Bytes-clause-heard
returns-in_ok-left-in-Bytes-clause-heard g c = λ before start x.
    let n = c.in-Bytes.count in
    let buf = c.read.new.buf in
    let long : length (take n buf) ≡ n =
    omega (arith, length-take n buf, c.in-Bytes.ensures.bound.1, c.read.auto.buf) in
    heard_bytes c.args.most before (g.L.Link.told c.args.link.now) (g.L.Link.told c.read.new.self) start
    (g.O.Sink.taken c.args.out.now) (g.O.Sink.taken c.take.new.out) c.args.stage.now c.take.new.stage
    c.args.frames.now c.take.new.count c.args.given.now (c.args.given.now + n) n buf
    c.in_ok-left-in-Bytes.left c.requires.some c.requires.few x c.in-Bytes.ensures.read (omega (arith, long))
    (c.in_ok-left-in-Bytes.ensures.took start (bytes_in x.taken) x.stands)

pub returns-in_err-left-in-Bytes-clause-broken : goal.returns-in_err-left-in-Bytes-clause-broken
returns-in_err-left-in-Bytes-clause-broken g c =
    on_err c.from_residual.result _ (λ before start x.
    is_broken c.args.most before (g.L.Link.told c.args.link.now) (g.L.Link.told c.read.new.self) start
    (g.O.Sink.taken c.args.out.now) (g.O.Sink.taken c.take.new.out) c.args.stage.now c.args.frames.now
    c.args.given.now c.in-Bytes.count c.read.new.buf c.requires.some c.requires.few x c.in-Bytes.ensures.read
    (c.in_err-left-in-Bytes.ensures.torn start (bytes_in x.taken) x.stands))

pub returns-in-Idle-clause-heard : goal.returns-in-Idle-clause-heard
returns-in-Idle-clause-heard g c = λ before start x.
    same_told c.args.most before (g.L.Link.told c.read.new.self) (g.L.Link.told c.rest.new.self) start
    (g.O.Sink.taken c.args.out.now) c.args.stage.now c.args.frames.now c.args.given.now (sym c.rest.ensures)
    (heard_nothing c.args.most before (g.L.Link.told c.args.link.now) (g.L.Link.told c.read.new.self) start
    (g.O.Sink.taken c.args.out.now) c.args.stage.now c.args.frames.now c.args.given.now c.read.new.buf c.requires.some
    c.requires.few x c.in-Idle.ensures.read)

pub returns-in-End-clause-heard : goal.returns-in-End-clause-heard
returns-in-End-clause-heard g c = λ before start x.
    has_ended c.args.most before (g.L.Link.told c.args.link.now) (g.L.Link.told c.read.new.self) start
    (g.O.Sink.taken c.args.out.now) c.args.stage.now c.args.frames.now c.args.given.now c.read.new.buf c.requires.some
    c.requires.few x c.in-End.ensures.read

pub returns-in-Failed-clause-heard : goal.returns-in-Failed-clause-heard
returns-in-Failed-clause-heard g c = λ before start x.
    has_failed c.args.most before (g.L.Link.told c.args.link.now) (g.L.Link.told c.read.new.self) start
    (g.O.Sink.taken c.args.out.now) c.args.stage.now c.args.frames.now c.args.given.now c.read.new.buf c.requires.some
    c.requires.few x c.in-Failed.ensures.read
