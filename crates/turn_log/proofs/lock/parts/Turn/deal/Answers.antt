-- The pass gets the first number that is left, and has seen nothing.
use Rattle.std.proofs.Common.{[], length, is_some, sym, ◌∙◌, ap, subst, arith}
use Rattle.turn_log.specs.History.{IsLegal}
use Rattle.turn_log.specs.LockSteps.{dealt}
use Rattle.turn_log.proofs.HistoryLaws.{legal_none}
use Rattle.turn_log.proofs.LockSeats.{deals}
use Rattle.turn_log.proofs.lock.parts.Turn.deal.Goals as goal

pub split_seat-requires : goal.split_seat-requires
split_seat-requires g c =
    let key = c.args.self.now.table.shared.key in (
      c.requires.here,
      omega (arith, c.args.self.now.sized.0),
      deals key.passes g.V.Played.stands g.V.Played.shape g.V.Played.fits (g.V.Played.shape key.value.value)
          _ _ (ap (λ view. view.stage) c.requires.left.1),
    )

pub invariant_of-result : goal.invariant_of-result
invariant_of-result g c =
    let is = c.split_seat.ensures.4 ∙ ap (λ view. (dealt view, [])) c.requires.left.1 in
    record {
      rests = (ap (λ me. me.0.stage) is, ap (λ me. length me.1) is);
      numbered = (ap (λ me. me.0.numbers) is, ap (λ me. length me.0.brought) is);
      about = ap (λ me. is_some me.0.about) is;
      legal = λ v about. subst (IsLegal (g.V.Played.fits (g.V.Played.shape v))) (sym (ap (λ me. me.0.seen) is))
          (legal_none (g.V.Played.fits (g.V.Played.shape v)));
    }
