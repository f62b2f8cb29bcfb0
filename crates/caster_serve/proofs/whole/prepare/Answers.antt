-- All is there.
use Rattle.std.proofs.Common.{◌∙◌, length, sym, ap, subst}
use Rattle.caster_places.specs.Rows.{IsRoomFor}
use Rattle.caster_serve.proofs.WholeLemmas.{piles_empty}
use Rattle.caster_serve.proofs.whole.prepare.Goals as goal

pub returns-clause-prepared : goal.returns-clause-prepared
returns-clause-prepared c =
    let shared = c.in_ok-shared.ensures in record {
      locks = shared.ready;
      opened = shared.passes;
      count = shared.count;
      passes = shared.each;
      room = c.in-Ok.ensures.room;
      empty = piles_empty _ _ _ shared.ready (ap length c.as_slice.ensures
          ∙ ap (λ config. length config.mount) (sym shared.config))
          c.in-Ok.ensures.empty;
      none = c.in-Ok.ensures.none;
      totals = subst (λ config. IsRoomFor config c.in-Ok-with_room.totals) (sym shared.config) c.in-Ok-with_room.ensures;
    }
