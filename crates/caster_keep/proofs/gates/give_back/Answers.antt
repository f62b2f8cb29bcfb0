-- One more is given back.
use Rattle.std.proofs.Common.{◌∙◌, [], ◌∷◌, ◌++◌, ap, refl, sym, append_assoc}
use Rattle.caster_keep.specs.Gates.{gates_of}
use Rattle.caster_keep.proofs.GateLemmas.{back_gate, back_none}
use Rattle.caster_keep.proofs.gates.give_back.Goals as goal

pub loop-keeper-init : goal.loop-keeper-init
loop-keeper-init g c = record {
  back = (
    [],
    ap (gates_of g.Y.Gate.Door.told g.Y.Gate.Gate.over) (sym c.into_iter-keepers.ensures.rest),
    back_none _,
  );
  street = refl;
}

pub loop-keeper-preserved : goal.loop-keeper-preserved
loop-keeper-preserved g c =
    let at = c.loop-keeper.invariant in record {
      back = (
        at.back.0 ++ _ ∷ [],
        at.back.1 ∙ ap (λ l. at.back.0 ++ gates_of g.Y.Gate.Door.told g.Y.Gate.Gate.over l) c.in-Some.ensures.items
            ∙ sym (append_assoc at.back.0 (_ ∷ []) _),
        back_gate _ _ _ _ _ at.back.2 c.shut_gate.ensures.shut,
      );
      street = c.shut_gate.ensures.street ∙ at.street;
    }
