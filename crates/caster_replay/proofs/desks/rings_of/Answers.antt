use Rattle.std.proofs.Common.{◌∙◌, ◌<◌, length, map, ap, arith}
use Rattle.std.proofs.lemmas.List.{take_all}
use Rattle.cast_config.specs.declared.config.Mount.{Mount}
use Rattle.session_model.specs.Setting.{shapes}
use Rattle.caster_replay.proofs.DeskLemmas.{first_next, no_call, no_shape, shapes_count}
use Rattle.caster_replay.proofs.desks.rings_of.Goals as goal

pub loop-number-preserved : goal.loop-number-preserved
loop-number-preserved g c =
    let config = c.args.config.now in
    let within : c.loop-number.number < length config.mount =
    omega (arith, c.loop-number-test.true, ap length c.as_slice-number-end.ensures) in
    first_next g.P.Turns.shape g.P.Turns.seen config c.loop-number.number c.loop-number.rings.items
    c.push.new.self.items c.in-Ok.place within c.in-Ok-push.ensures.items (c.in-Ok.ensures.shape no_shape)
    c.in-Ok.ensures.uncalled c.loop-number.invariant

pub returns : goal.returns
returns g c =
    let config = c.args.config.now in record {
      shapes_are = c.loop-number.invariant.shapes_are
          ∙ take_all c.loop-number.number (shapes config)
          (omega (
            arith,
            c.loop-number-test.false,
            ap length c.as_slice-number-end.ensures,
            shapes_count config.group 0 config.mount,
          ));
      uncalled = c.loop-number.invariant.uncalled
          ∙ ap (map (λ (mount : Mount). no_call))
          (take_all c.loop-number.number config.mount
          (omega (arith, c.loop-number-test.false, ap length c.as_slice-number-end.ensures)));
    }
