-- One more is hung up.
use Rattle.std.proofs.Common.{◌∙◌, ◌++◌, [], ◌∷◌, map, sym, ap, append_assoc}
use Rattle.cast_io.proofs.ToldLemmas.{grew_both}
use Rattle.caster_record.proofs.recording.hang_up_all.Goals as goal

pub loop-link-preserved : goal.loop-link-preserved
loop-link-preserved g c =
    let told = g.D.Link.Link.told in
    let given = c.loop-link.invariant.back.0 in
    let are = c.loop-link.invariant.back.1 in
    let back = c.loop-link.invariant.back.2 in
    let left = c.hang_up.ensures.left in record {
      back = (
        given ++ told c.in-Some.link ∷ [],
        are ∙ ap (λ l. given ++ map told l) c.in-Some.ensures.items
            ∙ sym (append_assoc given (told c.in-Some.link ∷ []) (map told _)),
        record {
          left = left.left ∙ back.left;
          back = grew_both _ _ _ given (told c.in-Some.link ∷ []) back.back left.back;
          faults = left.faults ∙ back.faults;
        },
      );
    }
