-- All locks are closed, and what was told is told by their whole histories.
use Rattle.std.proofs.Common.{◌≡◌, ◌∙◌, length, refl, sym, ap, arith}
use Rattle.std.proofs.lemmas.List.{length-map}
use Rattle.mount_ring.specs.Kept.{ring_shape}
use Rattle.turn_log.specs.Lock.{turn_value}
use Rattle.session_model.specs.Run.{Histories}
use Rattle.session_model.specs.Reports.{sums_from}
use Rattle.session_model.specs.Setting.{caps}
use Rattle.session_core.proofs.HeldLemmas.{length_shapes}
use Rattle.caster_places.proofs.PileLemmas.{closed_within}
use Rattle.caster_places.proofs.RowLemmas.{rings_closing, book_closing, rows_whole}
use Rattle.caster_places.proofs.SumLemmas.{total_is, total_by_callers}
use Rattle.caster_places.proofs.ClosedLemmas.{closed_is, from_nothing, caps_count}
use Rattle.caster_places.proofs.closing.close.Goals as goal

pub close_rings-requires-clause-all : goal.close_rings-requires-clause-all
close_rings-requires-clause-all c =
    rings_closing c.requires.rows.0 c.args.piles c.args.rings.items c.args.book c.requires.rows.1 c.requires.rings

pub close_rings-requires-clause-room : goal.close_rings-requires-clause-room
close_rings-requires-clause-room c =
    let many : length c.args.rings.items ≡ length c.args.config.now.mount =
    sym (length-map c.args.rings.items (λ lock. ring_shape (turn_value lock)))
    ∙ ap length c.requires.shapes ∙ length_shapes c.args.config.now in
    omega (arith, many, c.requires.room.mounts, ap length c.requires.room.no_mount, c.args.totals.mounts.ok.0)

pub close_book-total-requires-clause-all : goal.close_book-total-requires-clause-all
close_book-total-requires-clause-all c =
    book_closing c.requires.rows.0 c.args.piles c.args.rings.items c.args.book c.requires.rows.1 c.requires.book

pub returns : goal.returns
returns c = λ rows are legal.
    let config = c.args.config.now in
    let rings = c.close_rings.ensures.closed in
    let book = c.close_book-total.ensures.closed in
    let whole : Histories = record { rings = rings.0; book = book.0 } in
    let many : length c.args.rings.items ≡ length config.mount =
    sym (length-map c.args.rings.items (λ lock. ring_shape (turn_value lock)))
    ∙ ap length c.requires.shapes ∙ length_shapes config in
    let is = rows_whole rows c.args.piles c.args.rings.items c.args.book are rings.0 book.0 (length config.mount)
    rings.2 book.1 many in
    let told = book.2 whole refl in (
      whole,
      is,
      closed_is config whole c.new.result c.new-2.result c.close_book-total.result
          (from_nothing _ _ _ _ c.new.ensures rings.1 c.requires.room.no_mount)
          (from_nothing _ _ _ _ c.new-2.ensures told.0 c.requires.room.no_account
          ∙ ap (sums_from 1 whole) c.as_slice.ensures)
          (told.1 ∙ total_is whole (caps config) config.account rows (caps_count config) is.book legal),
      told.1 ∙ total_by_callers rows whole.book is.book,
      record { rings = closed_within _ rings.0 rings.2; book_within = book.1.worn },
    )
