-- A link may come, and then all are served.
use Rattle.std.proofs.Common.{map, refl, sym, subst}
use Rattle.caster_record.specs.Arriving.{HaveCome}
use Rattle.caster_record.specs.Keeping.{RestsAfter}
use Rattle.caster_record.proofs.ArriveLemmas.{come_none, come_round}
use Rattle.caster_record.proofs.recording.round.Goals as goal

pub serve_all-requires-clause-begins : goal.serve_all-requires-clause-begins
serve_all-requires-clause-begins g c = (
  c.requires.rests.0,
  g.D.Door.told c.accept.new.door,
  c.in_ok-came.ensures.begins c.requires.rests.0 c.requires.rests.1,
)

pub returns-in_err-busy-clause-come : goal.returns-in_err-busy-clause-come
returns-in_err-busy-clause-come g c =
    let told = map g.D.Link.Link.told in
    let door = g.D.Door.told c.args.door.now in
    let links = told c.args.links.now.items in
    come_round door door (g.D.Door.told c.accept.new.door) links links (told c.accept.new.links.items)
    (told c.serve_all.new.links.items) (come_none door links links refl) c.accept.ensures.come c.serve_all.ensures.given

pub returns-then-came-clause-come : goal.returns-then-came-clause-come
returns-then-came-clause-come g c =
    let told = map g.D.Link.Link.told in
    let door = g.D.Door.told c.args.door.now in
    let links = told c.args.links.now.items in
    come_round door door (g.D.Door.told c.accept.new.door) links links (told c.accept.new.links.items)
    (told c.serve_all.new.links.items) (come_none door links links refl) c.accept.ensures.come c.serve_all.ensures.given

pub returns-clause-come : goal.returns-clause-come
returns-clause-come g c =
    let told = map g.D.Link.Link.told in
    let door = g.D.Door.told c.args.door.now in
    let links = told c.args.links.now.items in
    let last = told c.serve_all.new.links.items in
    subst (λ rested. HaveCome door rested links last) (sym c.rest.ensures)
    (come_round door door (g.D.Door.told c.accept.new.door) links links (told c.accept.new.links.items) last
    (come_none door links links refl) c.accept.ensures.come c.serve_all.ensures.given)

pub returns-then-came-clause-rests : goal.returns-then-came-clause-rests
returns-then-came-clause-rests g c =
    λ before rests.
    c.in_ok-busy.ensures.rests before (g.D.Door.told c.accept.new.door) (c.in_ok-came.ensures.begins before rests)

pub returns-clause-rests : goal.returns-clause-rests
returns-clause-rests g c =
    λ before rests.
    subst (λ rested. RestsAfter g.D.Link.Link.told c.args.setup.now.config.now c.args.setup.now.limit before rested
    c.serve_all.new.self c.serve_all.new.links.items c.serve_all.new.torn.items) (sym c.rest.ensures)
    (c.in_ok-busy.ensures.rests before (g.D.Door.told c.accept.new.door) (c.in_ok-came.ensures.begins before rests))
