-- The gate comes back as it was when it was asked.
use Rattle.std.proofs.Common.{sym, subst, [], ◌∷◌}
use Rattle.cast_io.specs.Told.{Grew}
use Rattle.cast_io.specs.Doors.{IsNewDoor}
use Rattle.cast_io_tests.proofs.reaching.reach_once.Goals as goal

pub returns-clause-gates : goal.returns-clause-gates
returns-clause-gates g c =
    let gate = c.is_over-over.new.self in (
      record { door = g.Y.Gate.Door.told gate; over = g.Y.Gate.Gate.over gate },
      subst IsNewDoor (sym c.is_over-over.ensures.same) c.in_ok-gate.ensures.each,
      sym c.is_over-over.ensures.over,
      subst
          (λ old. Grew old (g.Y.Yard.kept c.shut_gate.new.self).gates
          (record { door = g.Y.Gate.Door.told gate; over = g.Y.Gate.Gate.over gate } ∷ []))
          c.reach.ensures.wanted.gates
          c.shut_gate.ensures.shut.gates,
    )
