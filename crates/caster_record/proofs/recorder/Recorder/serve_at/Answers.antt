use Rattle.std.proofs.Common.{◌+◌, ◌∙◌, refl, sym, arith}
use Rattle.caster_record.proofs.ArriveLemmas.{given_set}
use Rattle.caster_record.proofs.RoundLemmas.{mark_is, within_passed, within_served}
use Rattle.caster_record.proofs.recorder.Recorder.serve_at.Goals as goal

pub serve-requires-clause-records : goal.serve-requires-clause-records
serve-requires-clause-records g c = c.requires.place.2.keeps.records

pub returns-then-not-is_due-clause-place : goal.returns-then-not-is_due-clause-place
returns-then-not-is_due-clause-place g c =
    λ before door w.
    let torn = c.args.torn.now.items in
    within_passed g.L.Link.told c.args.setup.now.config.now c.args.setup.now.limit c.args.at (c.args.at + 1) before door c.args.self.now
    c.args.links.now.items torn w refl c.requires.within
    (λ earlier mark.
    c.if-not-is_due.ensures.passed refl earlier
    (sym (mark_is torn c.args.at c.index.result.now (omega (arith, c.requires.within, w.keeps.size)) c.index.ensures)
    ∙ mark))

pub returns-in_err-outcome-clause-given : goal.returns-in_err-outcome-clause-given
returns-in_err-outcome-clause-given g c =
    given_set g.L.Link.told c.args.links.now.items c.args.at c.index_mut.result.now c.serve.new.link c.requires.within
    c.index_mut.ensures.value c.serve.ensures.given

pub returns-clause-place : goal.returns-clause-place
returns-clause-place g c =
    λ before door w.
    let torn = c.args.torn.now.items in
    let room = c.if-not-is_due.ensures.room refl in
    within_served g.L.Link.told c.args.setup.now.config.now c.args.setup.now.limit c.args.at (c.args.at + 1) before door c.args.self.now
    c.serve.new.self c.args.links.now.items torn c.index_mut.result.now c.serve.new.link
    c.in_ok-outcome.outcome.torn w refl c.requires.within c.index_mut.ensures.value
    (mark_is torn c.args.at c.index.result.now (omega (arith, c.requires.within, w.keeps.size)) c.index.ensures
    ∙ c.if-not-is_due.ensures.whole refl)
    room c.in_ok-outcome.ensures.served c.in_ok-outcome.ensures.records
    (omega (arith, c.in_ok-outcome.ensures.size, room))

pub returns-clause-given : goal.returns-clause-given
returns-clause-given g c =
    given_set g.L.Link.told c.args.links.now.items c.args.at c.index_mut.result.now c.serve.new.link c.requires.within
    c.index_mut.ensures.value c.serve.ensures.given
