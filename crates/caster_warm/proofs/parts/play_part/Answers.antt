use Rattle.std.proofs.Common.{◌++◌, [], ◌∷◌}
use Rattle.session_script.specs.declared.Event.{Event}
use Rattle.session_model.specs.Run.{after_events}
use Rattle.caster_warm.proofs.PartLemmas.{are_next, bytes_here, cleared_before, part_here, sent_within}
use Rattle.caster_warm.proofs.parts.play_part.Goals as goal

pub sent_len-before-requires : goal.sent_len-before-requires
sent_len-before-requires c = record { run = (c.args.config.now, c.requires.run.0, c.requires.run.1) }

pub play-requires-clause-run : goal.play-requires-clause-run
play-requires-clause-run c = (
  c.requires.run.0,
  c.clear.ensures.stands c.args.config.now c.requires.run.0 c.requires.run.1,
  c.requires.run.2,
)

pub sent_behind-requires : goal.sent_behind-requires
sent_behind-requires c = record {
  run = (
    c.args.config.now,
    c.requires.run.0 ++ c.args.event.now ∷ [],
    c.in_ok-play.ensures.played c.requires.run.0
        (c.clear.ensures.stands c.args.config.now c.requires.run.0 c.requires.run.1) c.requires.run.2,
  );
  within = sent_within c.args.run.now c.clear.new.run c.play.new.self c.args.event.now c.number_of-number.result
      c.sent_len-before.result c.clear.ensures.lives c.in_ok-play.ensures.sends c.number_of-number.ensures
      c.sent_len-before.ensures;
}

pub append_greeting_by-requires : goal.append_greeting_by-requires
append_greeting_by-requires c = record {
  run = (
    c.args.config.now,
    c.requires.run.0 ++ c.args.event.now ∷ [],
    c.in_ok-play.ensures.played c.requires.run.0
        (c.clear.ensures.stands c.args.config.now c.requires.run.0 c.requires.run.1) c.requires.run.2,
  );
}

pub returns-clause-played : goal.returns-clause-played
returns-clause-played c = λ script stands comes.
    c.in_ok-play.ensures.played script (c.clear.ensures.stands c.args.config.now script stands) comes

pub returns-clause-part : goal.returns-clause-part
returns-clause-part c = λ script later headings n stands comes are.
    let config = c.args.config.now in
    let event : Event = c.args.event.now in
    let run = c.args.run.now in
    let mid = c.clear.new.run in
    let next = c.play.new.self in
    let stands_next = c.in_ok-play.ensures.played script (c.clear.ensures.stands config script stands) comes in
    part_here config script later event headings run mid next stands stands_next are
    (record { number = c.number_of-number.result; bytes = c.append_greeting_by.new.out })
    c.clear.ensures.lives c.in_ok-play.ensures.sends c.number_of-number.ensures
    (bytes_here run mid next event c.number_of-number.result c.sent_len-before.result c.clear.ensures.lives
    c.in_ok-play.ensures.sends c.number_of-number.ensures c.sent_len-before.ensures c.in_ok-bytes.bytes.items
    c.append_greeting_by.new.out.items _ c.in_ok-bytes.ensures
    (c.in_ok-append_greeting_by.ensures config (script ++ event ∷ []) later headings (after_events config headings script)
    stands_next (are_next config script later event headings run mid next stands stands_next are)
    (cleared_before config script later event headings run mid next stands stands_next are
    c.clear.ensures.cleared c.play.ensures.homes))) n
