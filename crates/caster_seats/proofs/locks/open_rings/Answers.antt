-- One lock more.
use Rattle.std.proofs.Common.{◌≡◌, ◌∙◌, ◌++◌, [], ◌∷◌, length, map, sym, ap, subst, arith}
use Rattle.std.specs.List.{All}
use Rattle.std.proofs.lemmas.List.Elements.{All-nil, All-cons, All-append}
use Rattle.mount_ring.specs.Kept.{ring_shape}
use Rattle.turn_log.specs.Lock.{turn_passes, turn_value}
use Rattle.caster_places.proofs.ListLemmas.{matched-snoc}
use Rattle.caster_seats.proofs.SharingLemmas.{AllDealt, shapes_all, shapes_more}
use Rattle.caster_seats.proofs.locks.open_rings.Goals as goal

pub loop-mount-preserved : goal.loop-mount-preserved
loop-mount-preserved c =
    let was = c.loop-mount.invariant in record {
      shapes_so_far = ap (map (λ turn. ring_shape (turn_value turn))) c.in_ok-push.ensures.items
          ∙ shapes_more _ c.args.config.now _ _ c.loop-mount.mount (omega
          (arith, ap length c.as_slice-mount-end.ensures)) was.shapes_so_far
          c.in_ok-turn.ensures.shape;
      open_for = subst (All (λ turn. turn_passes turn ≡ c.args.passes)) (sym c.in_ok-push.ensures.items)
          (All-append (λ turn. turn_passes turn ≡ c.args.passes) c.loop-mount.rings.items (c.in_ok-turn.turn ∷ [])
          was.open_for
          (All-cons (λ turn. turn_passes turn ≡ c.args.passes) c.in_ok-turn.turn [] c.in_ok-turn.ensures.passes
          (All-nil _)));
      dealt = subst (λ l. AllDealt c.args.passes l c.push.new.self.items) (sym c.in_ok-push-2.ensures.items)
          (subst (λ l. AllDealt c.args.passes (c.loop-mount.piles.items ++ c.in_ok-turn.pile ∷ []) l)
          (sym c.in_ok-push.ensures.items)
          (matched-snoc _ _ _ _ _ was.dealt c.in_ok-turn.ensures.dealt));
    }

pub returns-clause-shapes : goal.returns-clause-shapes
returns-clause-shapes c =
    shapes_all _ c.args.config.now _ c.loop-mount.mount (omega (arith, ap length c.as_slice-mount-end.ensures))
    c.loop-mount.invariant.shapes_so_far
