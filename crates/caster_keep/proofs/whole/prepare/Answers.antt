-- All is there.
use Rattle.std.proofs.Common.{◌≤◌, ◌∙◌, length, sym, ap, subst}
use Rattle.std.specs.Prelude.{vec_capacity}
use Rattle.session_text.specs.Room.{closed_room}
use Rattle.caster_places.specs.Rows.{IsRoomFor}
use Rattle.caster_serve.proofs.WholeLemmas.{piles_empty}
use Rattle.caster_keep.proofs.whole.prepare.Goals as goal

pub returns-clause-prepared : goal.returns-clause-prepared
returns-clause-prepared c =
    let shared = c.in_ok-shared.ensures in record {
      locks = shared.ready;
      opened = shared.passes;
      count = shared.count;
      passes = shared.each;
      room = c.in_ok-piles.ensures.room;
      empty = piles_empty _ _ _ shared.ready (ap length c.as_slice.ensures
          ∙ ap (λ config. length config.mount) (sym shared.config))
          c.in_ok-piles.ensures.empty;
      none = c.in_ok-piles.ensures.none;
      totals = subst (λ config. IsRoomFor config c.in_ok-totals.totals) (sym shared.config) c.in_ok-totals.ensures;
      no_text = c.in_ok-text.ensures.empty;
      text = subst (λ config. closed_room config ≤ vec_capacity c.in_ok-text.text) (sym shared.config)
          c.in_ok-text.ensures.room;
    }
